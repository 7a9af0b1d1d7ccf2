-- What the reader gives back of a lent row, refused and accepted.
-- Assumes nothing.
use Prim.Native.Nat.{ℕ, ◌≤◌, ◌<◌}
use native.Mathlib.Omega.{arith}
use mathlib.Core.Path.{◌≡◌, refl, sym}
use mathlib.Core.Logic.{◌≢◌, ◌↔◌}
use mathlib.Core.List.{List}
use lib.Dec.{ltb}
use lib.ListN.{length}
use borrow.Author.Tests.{le-ltb, ltb-true, ltb-false}
use borrow.Table.Steps.{cases as decide}
use Rattle.casetext.specs.Reading.{Said, reading, read_into, told, row_after}
use Rattle.casetext.specs.Reading.Said.{accepted, refused}
use Rattle.casetext.specs.Answers.{reading_number, reading_line}
use Rattle.casetext.specs.Promises.{IsCase, Cause, ReaderCause, ReaderRefuses, RefusedReading, AcceptedReading, ReadWithin}
use Rattle.casetext.specs.Promises.ReaderCause.{short, of_text}
use Rattle.std.specs.Prelude.{Ok}
use Rattle.casetext.proofs.Promises.{case_few, cause_read, accepted_exactly, refused_exactly}

-- What a cause says where the row is too short, and where it is not.
row_short : {row s : List ℕ} {number line : ℕ} → length row < 2048 → ReaderCause row s number line → (number ≡ 10) × (line ≡ 0)
row_short l (short e f g) = (e, f)
row_short l (of_text g c) = absurd (omega arith)

row_long : {row s : List ℕ} {number line : ℕ} → 2048 ≤ length row → ReaderCause row s number line → Cause s number line
row_long l (short e f g) = absurd (omega arith)
row_long l (of_text g c) = c

-- Of a text: refused so just for its cause.
text_refuses : (s : List ℕ) (number line : ℕ) → 1 ≤ number
    → (reading_number (told (reading s)) ≡ number) × (reading_line (told (reading s)) ≡ line) ↔ Cause s number line
text_refuses s number line h = ((λ q. go (reading s) refl q), λ c. let r = cause_read c in rw r.2 (r.1, refl))
  where
    go : (r : Said) → reading s ≡ r → (reading_number (told r) ≡ number) × (reading_line (told r) ≡ line) → Cause s number line
    go (accepted n k es) e q = absurd (omega arith)
    go (refused why at) e q = rw (q.0, q.1) at ((refused_exactly s why at).0 e)

pub reader_refuses : ReaderRefuses
unfolding read_into
reader_refuses row s number line h =
    decide (ltb (length row) 2048)
    (λ t.
    let l = ltb-true (length row) 2048 t in
    rw t ((λ q. short (sym q.0) (sym q.1) l), λ c. let e = row_short l c in (sym e.0, sym e.1)))
    (λ t.
    let l = ltb-false (length row) 2048 t in
    let e = text_refuses s number line h in
    rw t ((λ q. of_text l (e.0 q)), λ c. e.1 (row_long l c)))

pub refused_reading : RefusedReading
refused_reading row s = unchanged (read_into row s)
  where
    unchanged : (r : Said) → reading_number (told r) ≢ 0 → row_after r row ≡ row
    unchanged (accepted n k es) h = absurd (h refl)
    unchanged (refused number line) h = refl

pub accepted_reading : AcceptedReading
unfolding read_into
accepted_reading row s n k es l c =
    rw (le-ltb (length row) 2048 l, (accepted_exactly s n k es).1 c) (refl, refl, refl)

-- What was accepted with a row is a case.
pub read_case : (row s : List ℕ) (n k : ℕ) (es : List ℕ) → read_into row s ≡ accepted n k es → IsCase s n k es
unfolding read_into
read_case row s n k es e =
    decide (ltb (length row) 2048)
    (λ t. cc (rw t at e))
    (λ t. (accepted_exactly s n k es).0 (rw t at e))

pub read_within : ReadWithin
read_within row s c e = go (read_into row s) refl e
  where
    go : (r : Said) → read_into row s ≡ r → told r ≡ Ok c → c.count ≤ 2048
    go (accepted a b es) q t =
        let z : length es ≡ c.count = cc in
        omega (arith, case_few (read_case row s a b es q))
    go (refused r line) q t = cc
