-- The do lines' reports, written one by one.
-- Assumes nothing.
use Rattle.std.proofs.lemmas.List.{drop_more}
use Prim.Native.Nat.{ℕ, ◌+◌, ◌*◌, ◌≤◌, ◌<◌}
use native.Mathlib.Omega.{arith}
use mathlib.Core.Path.{◌≡◌}
use mathlib.Core.List.{List, [], ◌++◌}
use lib.ListN.{length, get_or, drop, drop_of_length-le}
use lib.Seq.{drop-drop}
use Rattle.casetext.specs.Report.{entry_text, entries_text}

-- The reports from an entry on, of which each leaves five numbers.
abbrev pub reports : (entries left : List ℕ) (i : ℕ) → List ℕ
reports entries left i = entries_text (i + 1) (drop i entries) (drop (5 * i) left)

pub reports_next : (entries left : List ℕ) (i : ℕ) → i < length entries
    → reports entries left i ≡ entry_text (i + 1) (get_or entries i 0) (drop (5 * i) left) ++ reports entries left (i + 1)
unfolding entries_text
reports_next entries left i h =
    let e : 5 * i + 5 ≡ 5 * (i + 1) = omega arith in
    rw (drop_more entries i 0 h, drop-drop 5 (5 * i) left, e)

pub reports_over : (entries left : List ℕ) (i : ℕ) → length entries ≤ i → reports entries left i ≡ []
unfolding entries_text
reports_over entries left i h = rw (drop_of_length-le entries h)
