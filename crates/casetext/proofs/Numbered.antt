-- A refusal is known by its number.
-- Assumes nothing.
use mathlib.Core.Path.{◌≡◌, refl, sym, ap, ◌∙◌}
use mathlib.Core.List.{List, [], ◌∷◌}
use Prim.Native.Nat.{ℕ}
use lib.ListN.{get_or}
use Rattle.rules.specs.Answers.{refusal_number}
use Rattle.rules.specs.declared.Refusal.{Refusal}
use Rattle.rules.specs.declared.Refusal.TheVariants.{RowCount, NoCeiling, Broken, NoClaimant, NoSession, NotAtRest, NotInside, NoStep, NoCall}
use Rattle.rules.specs.declared.Refusal.TheVariants.{NoRoom, TooLong, BadLine, TooManyLines}

refusals : List Refusal
refusals =
    RowCount ∷ NoCeiling ∷ Broken ∷ NoClaimant ∷ NoSession ∷ NotAtRest ∷ NotInside ∷ NoStep ∷ NoCall ∷ NoRoom ∷ TooLong ∷ BadLine ∷ TooManyLines ∷ []

numbered : ℕ → Refusal
numbered n = get_or (RowCount ∷ refusals) n RowCount

numbered_back : (r : Refusal) → numbered (refusal_number r) ≡ r
unfolding numbered refusals
numbered_back RowCount = refl
numbered_back NoCeiling = refl
numbered_back Broken = refl
numbered_back NoClaimant = refl
numbered_back NoSession = refl
numbered_back NotAtRest = refl
numbered_back NotInside = refl
numbered_back NoStep = refl
numbered_back NoCall = refl
numbered_back NoRoom = refl
numbered_back TooLong = refl
numbered_back BadLine = refl
numbered_back TooManyLines = refl

pub same_refusal : (q r : Refusal) → refusal_number q ≡ refusal_number r → q ≡ r
same_refusal q r e = sym (numbered_back q) ∙ ap numbered e ∙ numbered_back r
