-- What a text goes into, piece by piece, and that pens and counts are such sinks.
use Rattle.std.proofs.Common.{◌≡◌, ℕ, ◌+◌, ◌≤◌, List, [], ◌++◌, length, refl, sym, ap, ◌∙◌, arith}
use Rattle.std.proofs.Common.{append-nil, append_assoc, length-append, length-drop}
use Rattle.std.proofs.lemmas.List.{drop-drop}
use Rattle.casetext.specs.declared.sizes.Count.{Count}
use Rattle.casetext.specs.declared.writing.Pen.{Pen}
use Rattle.casetext.specs.Writing.{done, left, Room, Wrote}

-- What is asked of a room for texts and of the taking of them: of two texts that have room together, the first has, and once it is
-- taken the second has, and both taken are one.
pub record SinkLaws {S : Type 0} (room : S → List ℕ → Type 0) (took : S → List ℕ → S → Type 0) : Type 0 where
  pub first : {s : S} (w v : List ℕ) → room s (w ++ v) → room s w
  pub second : {s t : S} (w v : List ℕ) → took s w t → room s (w ++ v) → room t v
  pub none : (s : S) → took s [] s
  pub both : {s t u : S} {w v text : List ℕ} → took s w t → took t v u → text ≡ w ++ v → took s text u

-- A pen: of two texts, there is room for the first, and for the second once the first is written.
pub room_first : {p : Pen} (w v : List ℕ) → Room p (w ++ v) → Room p w
room_first w v r = record { fits = omega (arith, r.fits, length-append w v) }

pub room_second : {p q : Pen} (w v : List ℕ) → Wrote p w q → Room p (w ++ v) → Room q v
room_second {p} w v a r = record { fits = omega (arith, r.fits, length-append w v, ap length a.left, length-drop (length w) (left p)) }

pub wrote_both : {p q r : Pen} {w v text : List ℕ} → Wrote p w q → Wrote q v r → text ≡ w ++ v → Wrote p text r
wrote_both {p} {w = w} {v} a b e = record {
  row = b.row ∙ a.row;
  done = b.done ∙ rw (a.done, e) (append_assoc (done p) w v);
  left = b.left ∙ rw (a.left, drop-drop (length v) (length w) (left p), e, length-append) refl;
}

pub pen_laws : SinkLaws Room Wrote
pen_laws = record {
  first = room_first;
  second = room_second;
  none = λ s. record { row = refl; done = sym (append-nil (done s)); left = refl };
  both = wrote_both;
}

-- A count has room while it stays in range, and takes a text's length.
abbrev pub CountRoom : Count → List ℕ → Type 0
CountRoom count text = count.bytes + length text ≤ 18446744073709551615

abbrev pub Counted : Count → List ℕ → Count → Type 0
Counted count text after = after.bytes ≡ count.bytes + length text

pub count_laws : SinkLaws CountRoom Counted
count_laws = record {
  first = λ w v r. omega (arith, r, length-append w v);
  second = λ w v a r. omega (arith, r, a, length-append w v);
  none = λ s. omega arith;
  both = λ {w = w} {v} a b e. rw e (omega (arith, a, b, length-append w v));
}
