-- Two claimants whose sessions conflict are never inside together.
use mathlib.Core.Path.{◌≡◌, ap}
use mathlib.Core.List.{List, [], ◌∷◌}
use mathlib.Core.Logic.{◌≢◌}
use Prim.Native.Nat.{ℕ, ◌≤◌}
use native.Mathlib.Omega.{arith}
use lib.Dec.{eqb}
use borrow.Author.Tests.{eqb-true, eqb-false}
use Rattle.rules.specs.Tables.{Table, opened, record_of, caller, called, after, Sound}
use Rattle.rules.specs.declared.Claimant.{Claimant}
use Rattle.rules.specs.declared.Terms.{Terms}
use Rattle.rules.specs.declared.Call.{Call}
use Rattle.rules.proofs.Choices.{decide, Conflict, conflict_true}
use Rattle.rules.proofs.Shapes.{registers}
use Rattle.rules.proofs.Calls.{own_move, Next, next}
use Rattle.rules.proofs.Calls.Next.{still, moves}
use Rattle.rules.proofs.Rows.{has_number, opened_row, opened_sound, rows_formed}
use Rattle.rules.proofs.Keeping.{sound_called, sound_after}
use Rattle.promises.specs.Sequences.{at_odds}
use Rattle.promises.specs.Fairness.{Exclusion}
use Rattle.promises.proofs.Passing.{Passing, not_begun, forward, backward}

-- The invariant, of every two claimants.
abbrev Fair : ℕ → (ℕ → Claimant) → Type 0
Fair n at = (i j : ℕ) → 1 ≤ i → i ≤ n → 1 ≤ j → j ≤ n → i ≢ j → Passing i j (at i) (at j)

fair_next : {n : ℕ} {k : Terms} {c : Call} {at at' : ℕ → Claimant} → Next n k c at at' → Fair n at → Fair n at'
fair_next (still h) f i j a b d e g = rw (h i, h j) (f i j a b d e g)
fair_next {n} {c} {at} (moves s m) f i j a b d e g =
    let w = caller c in
    decide (eqb i w)
    (λ p.
    let q = eqb-true i w p in
    rw (m.others j (omega arith)) (forward n i j at a b d e (own_move q m) (registers (m.all_formed j d e)) (f i j a b d e g)))
    (λ p.
    rw (m.others i (eqb-false i w p))
    (decide (eqb j w)
    (λ q. backward n i j at a b d e (own_move (eqb-true j w q) m) (f i j a b d e g))
    (λ q. rw (m.others j (eqb-false j w q)) (f i j a b d e g))))

fair_after : {n : ℕ} {k : Terms} {t : Table} (cs : List Call) → Sound n k t → Fair n (record_of t) → Fair n (record_of (after k cs t))
unfolding after
fair_after [] s f = f
fair_after {n} {k} {t} (c ∷ cs) s f =
    fair_after {n = n} {k = k} {t = (called k c t).table} cs (sound_called c s) (fair_next (rw s.length_is at (next k c t)) f)

fair_opened : (n : ℕ) → Fair n (record_of (opened n))
fair_opened n i j a b c d h = rw (opened_row n i) (not_begun (λ q. omega (arith, q.low)))

-- Of two claimants inside each would be ahead of the other.
not_both : {n : ℕ} {at : ℕ → Claimant} → Fair n at → (i j : ℕ) → 1 ≤ i → i ≤ n → 1 ≤ j → j ≤ n → (at i).place ≡ 10 → (at j).place ≡ 10
    → ¬ (Conflict (at i).want (at j).want)
not_both {n} {at} f i j a b c d p q x =
    decide (eqb i j)
    (λ e. x.differ (ap (λ (w : ℕ). (at w).want) (eqb-true i j e)))
    (λ e.
    let y : Conflict (at j).want (at i).want = omega arith in
    let l = (f i j a b c d (eqb-false i j e)).ahead (omega arith) x (omega arith) (omega arith) in
    let r = (f j i c d a b (omega (arith, eqb-false i j e))).ahead (omega arith) y (omega arith) (omega arith) in
    omega (arith, l.number r.token, r.number l.token))

pub exclusion : Exclusion
unfolding Exclusion
exclusion n k o calls i j p q =
    let t = after k calls (opened n) in
    let s = sound_after calls (opened_sound n k o) in
    let a = has_number t i (omega arith) in
    let b = has_number t j (omega arith) in
    let l = s.length_is in
    let f = (registers (rows_formed s i a.0 (omega arith))).session (omega arith) (omega arith) in
    let g = (registers (rows_formed s j b.0 (omega arith))).session (omega arith) (omega arith) in
    decide (at_odds t i j)
    (λ e.
    absurd
    (not_both (fair_after calls (opened_sound n k o) (fair_opened n)) i j a.0 (omega arith) b.0 (omega arith) (omega arith) (omega arith)
    (rw (f, g) at (conflict_true (record_of t i).session (record_of t j).session e))))
    (λ e. e)
