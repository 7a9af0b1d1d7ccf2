-- What is printed of the bytes that were read is what is printed of all that the reader had; and a report stands at its row's start.
use Rattle.std.proofs.Common.{◌≡◌, refl, ap, ℕ, ◌<◌, ◌≤◌, List, Option, None, Some, IfSome, length, take, length-append, length-take-le, subst, arith}
use Rattle.std.specs.Io.KnownBytes.{Consumes, IsAtEnd}
use Rattle.std.proofs.KnownBytes.{Consumes-whole}
use borrow.Author.Tests.{le-ltb, lt-ltb, ltb-true, ltb-false}
use lib.Dec.{ltb}
use lib.Seq.{take-append_seam}
use borrow.Table.Steps.{cases as decide}
use Rattle.casetext.specs.Reading.{reading}
use Rattle.casetext.specs.Report.{printed, reported, report_row}

-- Of texts that are too long the same is printed, whatever they hold.
printed_long : (s t : List ℕ) → 32768 < length s → 32768 < length t → printed s ≡ printed t
unfolding printed reading
printed_long s t hs ht = rw (lt-ltb 32768 (length s) hs, lt-ltb 32768 (length t) ht) refl

-- The first n bytes of a row of 32,769 were read, and no more only if the reader had no more.
module _ (P : List ℕ → Type 0) where
  pub printed_read : (old new : Option (List ℕ)) (row : List ℕ) (n : ℕ) → length row ≡ 32769 → n ≤ length row
      → Consumes old new (take n row) → (n < length row → IsAtEnd new) → P (printed (take n row)) → IfSome old (λ text. P (printed text))
  printed_read None new row n size within taken ended p = tt
  printed_read (Some text) None row n size within taken ended p = absurd taken
  printed_read (Some text) (Some rest) row n size within taken ended p =
      decide (ltb n (length row))
      (λ t. Consumes-whole (Some text) (Some rest) (take n row) (λ s. P (printed s)) taken (ended (ltb-true _ _ t)) p)
      (λ t.
      let k = length-take-le n row within in
      let h = ltb-false n (length row) t in
      subst P (printed_long (take n row) text (omega arith) (omega (arith, ap length taken, length-append (take n row) rest))) p)

  -- As many bytes were reported as were read.
  pub reported_read : {m n : ℕ} (row : List ℕ) → P (printed (take m row)) → m ≡ n → P (printed (take n row))
  reported_read row p e = rw (← e) p

-- A row that every report fits takes what is printed, at its start.
module _ (row s : List ℕ) (long : 153609 ≤ length row) where
  pub never_short : reported row s ≡ None → ⊥
  unfolding reported
  never_short e =
      let f : Some (length (printed s)) ≡ None = rw (le-ltb (length row) 153609 long) at e in
      cc

  pub report_row_start : {bytes : ℕ} {after : List ℕ} → reported row s ≡ Some bytes → after ≡ report_row row s → take bytes after ≡ printed s
  unfolding reported report_row
  report_row_start {bytes} {after} e q =
      let t = le-ltb (length row) 153609 long in
      let f : Some (length (printed s)) ≡ Some bytes = rw t at e in
      let k : length (printed s) ≡ bytes = cc in
      rw (q, t, ← k) (take-append_seam _ _)
