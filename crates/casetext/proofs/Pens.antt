-- Texts written one after the other make up one text.
-- Assumes nothing.
use Rattle.std.proofs.Common.{◌≡◌, ℕ, ◌+◌, ◌≤◌, List, [], ◌++◌, length, take, drop, refl, sym, ap, ◌∙◌, arith}
use Rattle.std.proofs.Common.{append-nil, append_assoc, length-append, take-append-drop}
use Rattle.std.proofs.lemmas.List.{drop-drop, length-take-le}
use lib.Seq.{take_at, drop_at}
use Rattle.casetext.specs.declared.writing.Pen.{Pen}
use Rattle.casetext.specs.Writing.{done, Room, Wrote}
use Rattle.casetext.specs.Sinks.{SinkLaws}

-- A text that was written up to its end.
module _ (row new text : List ℕ) (at end : ℕ) (within : at ≤ length row) (ends : end ≡ at + length text)
    (before : take at new ≡ take at row) (written : drop at new ≡ text ++ drop end row)
  where
    parted : new ≡ (take at row ++ text) ++ drop end row
    parted = sym (take-append-drop at new) ∙ rw (before, written) (sym (append_assoc (take at row) text (drop end row)))

    front : length (take at row ++ text) ≡ end
    front = omega (arith, length-append (take at row) text, length-take-le at row within)

    pub done_to_end : take end new ≡ take at row ++ text
    done_to_end = ap (take end) parted ∙ take_at (take at row ++ text) (drop end row) end front

    pub left_from_end : drop end new ≡ drop (length text) (drop at row)
    left_from_end =
        ap (drop end) parted ∙ drop_at (take at row ++ text) (drop end row) end front ∙ rw ends (sym (drop-drop (length text) at row))

-- A text that is taken piece by piece: what was taken, and then what is still to come, make up the whole.
pub record Onward {S : Type 0} (took : S → List ℕ → S → Type 0) (p : S) (whole rest : List ℕ) (q : S) : Type 0 where
  pub before : List ℕ
  pub taken : took p before q
  pub splits : whole ≡ before ++ rest

module _ {S : Type 0} {room : S → List ℕ → Type 0} {took : S → List ℕ → S → Type 0} (laws : SinkLaws room took) where
  pub onward_start : (p : S) (whole : List ℕ) → Onward took p whole whole p
  onward_start p whole = record { before = []; taken = laws.none p; splits = refl }

  module _ {p q : S} {whole rest : List ℕ} (has : room p whole) (o : Onward took p whole rest q) where
    -- what comes next has room, and once it is taken there is less to come
    module _ (next later : List ℕ) (e : rest ≡ next ++ later) where
      pub onward_room : room q next
      onward_room = laws.first next later (laws.second o.before (next ++ later) o.taken (rw (← e, ← o.splits) has))

      pub onward_more : {r : S} → took q next r → Onward took p whole later r
      onward_more w = record {
        before = o.before ++ next;
        taken = laws.both o.taken w refl;
        splits = o.splits ∙ rw e (sym (append_assoc o.before next later));
      }

    pub onward_end : rest ≡ [] → took p whole q
    onward_end e = let d : whole ≡ o.before = o.splits ∙ rw e (append-nil o.before) in rw d o.taken

-- A text that was written from a row's beginning.
pub room_front : {p : Pen} {held text : List ℕ} → p.row.now ≡ held → p.at ≡ 0 → length text ≤ length held → Room p text
room_front r a h = record { fits = rw (a, r) h }

module _ {p q : Pen} {text : List ℕ} (w : Wrote p text q) (begins : p.at ≡ 0) where
  front_done : done q ≡ text
  front_done = w.done ∙ rw begins

  pub front_at : q.at ≡ length text
  front_at = sym (length-take-le q.at q.row.now q.within) ∙ ap length front_done

  pub front_row : q.row.now ≡ text ++ drop (length text) p.row.now
  front_row = sym (take-append-drop q.at q.row.now) ∙ rw (front_done, w.left, begins)
