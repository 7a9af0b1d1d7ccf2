-- A word at the beginning of a list: it stands there just if it was found.
-- Assumes nothing.
use Prim.Native.Nat.{ℕ, zero, suc, ◌≤◌, ◌<◌, suc-le-suc}
use native.Mathlib.Omega.{arith}
use mathlib.Core.Path.{◌≡◌, refl}
use mathlib.Core.Bool.{true}
use mathlib.Core.List.{List, [], ◌∷◌, ◌++◌}
use lib.ListN.{length, get_or, drop}
use Rattle.std.proofs.lemmas.Bool.Decides.{Decides-eqb}
use Rattle.std.proofs.lemmas.Slice.Eq.{starts_is}
use Rattle.casetext.specs.Pieces.{begins}

pub begins_true : (w l : List ℕ) → begins w l ≡ true → l ≡ w ++ drop (length w) l
begins_true w l e = (starts_is Decides-eqb l w (begins w l) refl).0 e

pub begins_append : (w l : List ℕ) → begins w (w ++ l) ≡ true
begins_append w l = (starts_is Decides-eqb (w ++ l) w (begins w (w ++ l)) refl).1 l refl

-- a byte that is not 0 stands before the end
pub byte_inside : (s : List ℕ) (at : ℕ) → 1 ≤ get_or s at 0 → at < length s
byte_inside [] at h = absurd (omega arith)
byte_inside (b ∷ bs) zero h = omega arith
byte_inside (b ∷ bs) (suc at) h = suc-le-suc (byte_inside bs at h)
