-- What holds all the while, by a test that computes.
use mathlib.Core.Path.{◌≡◌, refl}
use mathlib.Core.Bool.{Bool, true, false, not}
use mathlib.Core.List.{List, [], ◌∷◌}
use mathlib.Core.Logic.{◌≢◌}
use Prim.Native.Nat.{ℕ, zero, suc, ◌+◌, ◌≤◌}
use native.Mathlib.Omega.{arith}
use lib.Dec.{eqb}
use lib.ListN.{get_or}
use borrow.Author.Tests.{ne_eqb, not-true}
use Rattle.rules.specs.Tests.{◌and◌, ◌or◌, within}
use Rattle.rules.specs.Records.{blank}
use Rattle.rules.specs.Rules.{conflict}
use Rattle.rules.specs.Tables.{Table, opened, record_of, called, after}
use Rattle.rules.specs.declared.Terms.{Terms}
use Rattle.rules.specs.declared.Call.{Call}
use Rattle.rules.proofs.Choices.{both, within_true}
use Rattle.promises.specs.Sequences.{place_of, Throughout}
use Rattle.promises.specs.Fairness.{Waits, doorway_ended}
use Rattle.promises.specs.Waiting.{Unopposed}

unfoldable pub always : (Table → Bool) → Terms → List Call → Table → Bool
always test k [] t = test t
always test k (c ∷ cs) t = test t and always test k cs (called k c t).table

pub throughout : (P : Table → Type 0) (test : Table → Bool) → ((t : Table) → test t ≡ true → P t) → (k : Terms) (cs : List Call) (t : Table)
    → always test k cs t ≡ true → Throughout P k cs t
unfolding always
throughout P test h k [] t e = h t e
throughout P test h k (c ∷ cs) t e =
    let t' = (called k c t).table in
    let g = both (test t) (always test k cs t') e in
    (h t g.0, throughout P test h k cs t' g.1)

pub waiting : (n : ℕ) (k : Terms) (earlier later : List Call) (i : ℕ) → place_of (after k earlier (opened n)) i ≡ 5
    → always (λ t. within 6 9 (place_of t i)) k later (doorway_ended n k earlier i) ≡ true → Waits n k earlier later i
waiting n k earlier later i p e =
    record {
      lowering = p;
      waiting =
          throughout (λ t. (6 ≤ place_of t i) × (place_of t i ≤ 9)) (λ t. within 6 9 (place_of t i)) (λ t. within_true 6 9 (place_of t i)) k later
          (doorway_ended n k earlier i) e;
    }

-- No row from number j on, but for claimant i's, has a Session that conflicts with w.
unfoldable pub calm : (i w j : ℕ) → Table → Bool
calm i w j [] = true
calm i w j (c ∷ t) = (eqb j i or not (conflict c.session w)) and calm i w (suc j) t

calm_row : (i w j : ℕ) (t : Table) (l : ℕ) → calm i w j t ≡ true → j + l ≢ i → conflict (get_or t l blank).session w ≡ false
unfolding calm conflict
calm_row i w j [] l e h = refl
calm_row i w j (c ∷ t) zero e h =
    let f = both (eqb j i or not (conflict c.session w)) (calm i w (suc j) t) e in
    not-true (conflict c.session w) (rw (ne_eqb j i (omega arith)) at f.0)
calm_row i w j (c ∷ t) (suc l) e h =
    let f = both (eqb j i or not (conflict c.session w)) (calm i w (suc j) t) e in
    calm_row i w (suc j) t l f.1 (omega arith)

pub unopposed : (i : ℕ) (t : Table) → calm i (record_of t i).want 1 t ≡ true → Unopposed i t
unfolding record_of conflict
unopposed i t e zero h = refl
unopposed i t e (suc j) h = calm_row i (record_of t i).want 1 t j e (omega arith)
