-- What it tells that no refusal is given: the table is sound, and the row lent is long enough.
use mathlib.Core.Path.{◌≡◌, refl}
use mathlib.Core.Bool.{Bool, not}
use mathlib.Core.List.{List, [], ◌∷◌, ◌++◌}
use Prim.Native.Nat.{ℕ, ◌*◌, ◌≤◌}
use lib.Dec.{ltb}
use lib.ListN.{length}
use borrow.Author.Tests.{ltb-false, not-false}
use Rattle.std.specs.Prelude.{Ok, is_some}
use Rattle.rules.specs.Tests.{Listed, ◌when◌, first}
use Rattle.rules.specs.Rules.{open_refusals}
use Rattle.rules.specs.Tables.{Table, all_well_formed, Opens, Sound}
use Rattle.rules.specs.declared.Terms.{Terms}
use Rattle.rules.specs.declared.Refusal.TheVariants.{Broken, NoRoom}
use Rattle.rules.proofs.Choices.{NoneGiven, none_given, none_refuses}
use Rattle.rules.proofs.Laws.{opens_exactly}
use Rattle.store.specs.Entries.{table_bar}
use Rattle.store.specs.Runs.{lowest_broken, run_refusal}
use Rattle.store.specs.Trials.{trial_refusal}
use Rattle.store.proofs.Lowest.{broken_is}

pub opens : (n : ℕ) (k : Terms) (rs : List Listed) → first (open_refusals n k ++ rs) ≡ Ok tt → Opens n k × (first rs ≡ Ok tt)
opens n k rs e =
    let g = none_given (open_refusals n k ++ rs) e in
    ((opens_exactly n k).0 (none_refuses (open_refusals n k) (g.0, (g.1.0, tt))), none_refuses rs g.1.1)

module _ (k : Terms) (t : Table) where
  -- whether there is a broken record
  abbrev broken : Bool
  broken = not (all_well_formed (length t) k t)

  sound : (own : List Listed) → first (open_refusals (length t) k ++ (Broken when broken ∷ own)) ≡ Ok tt → Sound (length t) k t × NoneGiven own
  sound own e =
      let a = opens (length t) k (Broken when broken ∷ own) e in
      let g = none_given (Broken when broken ∷ own) a.1 in
      (record { opens = a.0; length_is = refl; well_formed = not-false (all_well_formed (length t) k t) g.0 }, g.1)

  pub call_sound : table_bar (length t) k broken ≡ Ok tt → Sound (length t) k t
  unfolding table_bar
  call_sound e = (sound [] e).0

  pub run_sound : (m l : ℕ) → run_refusal (length t) k (is_some (lowest_broken k t)) m l ≡ Ok tt → Sound (length t) k t × (m ≤ l)
  unfolding run_refusal
  run_sound m l e =
      let s = sound (NoRoom when ltb l m ∷ []) (rw (broken_is k t) at e) in
      (s.0, ltb-false l m s.1.0)

pub trial_opens : (n : ℕ) (k : Terms) (m l : ℕ) → trial_refusal n k m l ≡ Ok tt → Opens n k × (5 * m ≤ l)
unfolding trial_refusal
trial_opens n k m l e =
    let a = opens n k (NoRoom when ltb l (5 * m) ∷ []) e in
    (a.0, ltb-false l (5 * m) (none_given (NoRoom when ltb l (5 * m) ∷ []) a.1).0)
