-- A line is found just where its text stands: fields, lines of a number, what stands after `do=`, do lines.
-- Assumes nothing.
use Prim.Native.Nat.{ℕ, ◌+◌, ◌≤◌}
use native.Mathlib.Omega.{arith}
use mathlib.Core.Path.{◌≡◌, refl, sym, ◌∙◌}
use mathlib.Core.Bool.{true}
use mathlib.Core.List.{List, [], ◌∷◌, ◌++◌}
use lib.Dec.{eqb}
use lib.ListN.{length, get_or, drop}
use borrow.Author.Tests.{eqb-true}
use borrow.Table.Steps.{cases as decide}
use Rattle.std.specs.Prelude.{Some}
use Rattle.rules.specs.declared.Call.{Call}
use Rattle.rules.specs.declared.Call.TheVariants.{Ask, Step, Leave}
use Rattle.casetext.specs.Words.{ascii}
use Rattle.casetext.specs.Numerals.{numeral}
use Rattle.casetext.specs.Layout.{InRange, entry_of, entry, field_text, line_text, turn_text, do_text}
use Rattle.casetext.specs.Pieces.{found, and_then, begins, past, number_at, field_at}
use Rattle.casetext.specs.Lines.{ended_at, line_at, called_at, asked_by, ask_at, turn_at, do_line_at}
use Rattle.casetext.specs.declared.cursor.Found.{Found}
use Rattle.casetext.proofs.Finding.{found_of}
use Rattle.casetext.proofs.Digits.{number_most, field_most}
use Rattle.casetext.proofs.Stands.{Stands, stands_both, stands_left, stands_right, word_stands, word_found, first_byte, byte_stands}
use Rattle.casetext.proofs.Numerals.{NoDigit, number_found, number_stands}

-- The line's end.
pub end_found : {s : List ℕ} {at next : ℕ} (v : ℕ) → Stands s at next (ascii "\n") → ended_at s (record { value = v; next = at }) ≡ found v next
unfolding ended_at
end_found {s} {at} {next} v p =
    let b : get_or s at 0 ≡ 10 = first_byte s at ∙ rw p.text in
    let e : next ≡ at + 1 = p.ends in
    rw (b, e)

pub end_stands : (s : List ℕ) (f : Found) {g : Found} → ended_at s f ≡ Some g → (f.value ≡ g.value) × Stands s f.next g.next (ascii "\n")
unfolding ended_at
end_stands s f {g} e =
    decide (eqb (get_or s f.next 0) 10)
    (λ t.
    let h : found f.value (f.next + 1) ≡ Some g = rw t at e in
    let q : f.next + 1 ≡ g.next = cc in
    (cc, rw (← q) (byte_stands s f.next 10 (omega arith) (eqb-true _ _ t))))
    (λ t. cc (rw t at e))

-- A line's end and a space are no digits.
pub end_no_digit : {s : List ℕ} {at next : ℕ} (b : ℕ) (w : List ℕ) → NoDigit (b ∷ []) → Stands s at next (b ∷ w) → NoDigit (drop at s)
end_no_digit b w d p = rw p.text d

-- A word.
past_found : (w : List ℕ) {s : List ℕ} {at next : ℕ} → Stands s at next w → past w s at ≡ Some (at + length w)
unfolding past
past_found w p = rw (word_found p)

past_stands : (w s : List ℕ) (at : ℕ) {next : ℕ} → past w s at ≡ Some next → Stands s at next w
unfolding past
past_stands w s at {next} e =
    decide (begins w (drop at s))
    (λ b. let q : at + length w ≡ next = cc in rw (← q) (word_stands w s at b))
    (λ b. cc (rw b at e))

-- A word and a number.
pub field_found : (w : List ℕ) {most n : ℕ} {s : List ℕ} {at next : ℕ} → n ≤ most → Stands s at next (field_text w n) → NoDigit (drop next s)
    → field_at w most s at ≡ found n next
unfolding field_at
field_found w {most} {n} h p d =
    rw (past_found w (stands_left w (numeral n) p)) (number_found most n h (stands_right w (numeral n) p) d)

pub field_stands : (w : List ℕ) (most : ℕ) (s : List ℕ) (at : ℕ) {f : Found} → field_at w most s at ≡ Some f
    → Stands s at f.next (field_text w f.value)
unfolding field_at
field_stands w most s at {f} e =
    let r = found_of (past w s at) e in
    stands_both (past_stands w s at r.1) (number_stands most s r.0 {f = f} r.2)

-- A line of a word and a number.
pub line_found : (w : List ℕ) {most n : ℕ} {s : List ℕ} {at next : ℕ} → n ≤ most → Stands s at next (line_text w n)
    → line_at w most s at ≡ found n next
unfolding line_at
line_found w {most} {n} {s} {at} h p =
    let r = stands_right (field_text w n) (ascii "\n") p in
    rw (field_found w h (stands_left (field_text w n) (ascii "\n") p) (end_no_digit 10 [] refl r)) (end_found n r)

pub line_stands : (w : List ℕ) (most : ℕ) (s : List ℕ) (at : ℕ) {f : Found} → line_at w most s at ≡ Some f
    → (f.value ≤ most) × Stands s at f.next (line_text w f.value)
unfolding line_at
line_stands w most s at {f} e =
    let r = found_of (field_at w most s at) e in
    let q = end_stands s r.0 {g = f} r.2 in
    rw (← q.0) (field_most w most s at r.1, stands_both (field_stands w most s at r.1) q.1)

-- What stands after `do=`.
pub turn_found : (t : Call) {s : List ℕ} {at next : ℕ} → InRange t → Stands s at next (turn_text t) → NoDigit (drop next s)
    → turn_at s at ≡ found (entry_of t) next
unfolding turn_at turn_text InRange entry_of called_at ask_at asked_by
turn_found (Ask who session) h p d =
    let l = stands_left (field_text (ascii "ask ") who) (field_text (ascii " ") session) p in
    let r = stands_right (field_text (ascii "ask ") who) (field_text (ascii " ") session) p in
    let a = number_found 255 who h.0 (stands_right (ascii "ask ") (numeral who) l) (end_no_digit 32 (numeral session) refl r) in
    let b = field_found (ascii " ") {most = 65535} h.1 r d in
    rw p.text (rw a (rw b))
turn_found (Step who) h p d =
    let a = number_found 255 who h (stands_right (ascii "step ") (numeral who) p) d in
    rw p.text (rw a)
turn_found (Leave who) h p d =
    let a = number_found 255 who h (stands_right (ascii "leave ") (numeral who) p) d in
    rw p.text (rw a)

-- a call that was found after `do=`, with its entry
pub record TurnStands (s : List ℕ) (at e next : ℕ) : Type 0 where
  pub turn : Call
  pub ranged : InRange turn
  pub says : e ≡ entry_of turn
  pub stands : Stands s at next (turn_text turn)

called_stands : (kind : ℕ) (s : List ℕ) (at : ℕ) {f : Found} → called_at kind s at ≡ Some f
    → (who : ℕ) × (who ≤ 255) × (f.value ≡ entry kind who 0) × Stands s at f.next (numeral who)
unfolding called_at
called_stands kind s at {f} e =
    let r = found_of (number_at 255 s at) e in
    let y : r.0.next ≡ f.next = cc in
    (r.0.value, number_most 255 s at r.1, cc, rw y at (number_stands 255 s at r.1))

asked_stands : (who : ℕ) (s : List ℕ) (at : ℕ) {f : Found} → asked_by who s at ≡ Some f
    → (session : ℕ) × (session ≤ 65535) × (f.value ≡ entry 1 who session) × Stands s at f.next (field_text (ascii " ") session)
unfolding asked_by
asked_stands who s at {f} e =
    let r = found_of (field_at (ascii " ") 65535 s at) e in
    let y : r.0.next ≡ f.next = cc in
    (r.0.value, field_most (ascii " ") 65535 s at r.1, cc, rw y at (field_stands (ascii " ") 65535 s at r.1))

ask_stands : (s : List ℕ) (at : ℕ) {f : Found} → begins (ascii "ask ") (drop at s) ≡ true → ask_at s (at + 4) ≡ Some f
    → TurnStands s at f.value f.next
unfolding ask_at turn_text entry_of InRange
ask_stands s at {f} w e =
    let r = found_of (number_at 255 s (at + 4)) e in
    let q = asked_stands r.0.value s r.0.next {f = f} r.2 in
    let l = stands_both (word_stands (ascii "ask ") s at w) (number_stands 255 s (at + 4) r.1) in
    record {
      turn = Ask r.0.value q.0;
      ranged = (number_most 255 s (at + 4) r.1, q.1);
      says = q.2;
      stands = stands_both l q.3;
    }

pub turn_stands : (s : List ℕ) (at : ℕ) {f : Found} → turn_at s at ≡ Some f → TurnStands s at f.value f.next
unfolding turn_at turn_text entry_of InRange
turn_stands s at {f} e =
    decide (begins (ascii "step ") (drop at s))
    (λ w.
    let r = called_stands 0 s (at + 5) {f = f} (rw w at e) in
    record { turn = Step r.0; ranged = r.1; says = r.2; stands = stands_both (word_stands (ascii "step ") s at w) r.3 })
    (λ v. decide (begins (ascii "ask ") (drop at s))
    (λ w. ask_stands s at {f = f} w (rw (v, w) at e))
    (λ u. decide (begins (ascii "leave ") (drop at s))
    (λ w.
    let r = called_stands 2 s (at + 6) {f = f} (rw (v, u, w) at e) in
    record { turn = Leave r.0; ranged = r.1; says = r.2; stands = stands_both (word_stands (ascii "leave ") s at w) r.3 })
    (λ w. cc (rw (v, u, w) at e))))

-- A do line.
pub do_found : (t : Call) {s : List ℕ} {at next : ℕ} → InRange t → Stands s at next (do_text t) → do_line_at s at ≡ found (entry_of t) next
unfolding do_line_at
do_found t {s} {at} {next} h p =
    let l = stands_left (ascii "do=" ++ turn_text t) (ascii "\n") p in
    let r = stands_right (ascii "do=" ++ turn_text t) (ascii "\n") p in
    rw (past_found (ascii "do=") (stands_left (ascii "do=") (turn_text t) l))
    (rw (turn_found t h (stands_right (ascii "do=") (turn_text t) l) (end_no_digit 10 [] refl r)) (end_found (entry_of t) r))

pub do_stands : (s : List ℕ) (at : ℕ) {f : Found} → do_line_at s at ≡ Some f
    → (t : Call) × InRange t × (f.value ≡ entry_of t) × Stands s at f.next (do_text t)
unfolding do_line_at
do_stands s at {f} e =
    let r = found_of (and_then (past (ascii "do=") s at) (turn_at s)) e in
    let q = found_of (past (ascii "do=") s at) r.1 in
    let t = turn_stands s q.0 q.2 in
    let o = end_stands s r.0 {g = f} r.2 in
    (t.turn, t.ranged, sym o.0 ∙ t.says, stands_both (stands_both (past_stands (ascii "do=") s at q.1) t.stands) o.1)
