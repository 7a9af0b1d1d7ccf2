-- There is a lowest broken record exactly if the table is not well-formed.
use mathlib.Core.Path.{◌≡◌, refl, ◌∙◌}
use mathlib.Core.Bool.{Bool, not}
use mathlib.Core.List.{[], ◌∷◌}
use Prim.Native.Nat.{ℕ, ◌+◌}
use lib.ListN.{length}
use Rattle.std.specs.List.{position_from}
use Rattle.std.specs.Prelude.{Option, None, Some, is_some, option_map}
use Rattle.std.proofs.lemmas.Iterator.Adapters.{position_from-zero}
use Rattle.rules.specs.Places.{well_formed}
use Rattle.rules.specs.Tables.{Table, all_well_formed}
use Rattle.rules.specs.declared.Claimant.{Claimant}
use Rattle.rules.specs.declared.Terms.{Terms}
use Rattle.rules.proofs.Choices.{decide}
use Rattle.store.specs.Runs.{first_broken, lowest_broken}

some_mapped : {A B : Type 0} (f : A → B) (o : Option A) → is_some (option_map f o) ≡ is_some o
some_mapped f None = refl
some_mapped f (Some x) = refl

module _ (n : ℕ) (k : Terms) where
  abbrev broken : Claimant → Bool
  broken c = not (well_formed n k c)

  broken_from : (i : ℕ) (t : Table) → is_some (position_from broken i t) ≡ not (all_well_formed n k t)
  unfolding all_well_formed
  broken_from i [] = refl
  broken_from i (c ∷ t) = decide (well_formed n k c) (λ e. rw e (broken_from (i + 1) t)) (λ e. rw e)

pub broken_is : (k : Terms) (t : Table) → is_some (lowest_broken k t) ≡ not (all_well_formed (length t) k t)
broken_is k t =
    some_mapped (λ (row : ℕ). row + 1) (first_broken k t) ∙ rw (position_from-zero (broken (length t) k) t) (broken_from (length t) k 0 t)
