-- A claimant that has left is at rest after two own steps, whatever the others do in between.
use mathlib.Core.Path.{◌≡◌, refl, sym, ap, ◌∙◌}
use mathlib.Core.Bool.{false}
use mathlib.Core.List.{List, [], ◌∷◌}
use mathlib.Core.Logic.{◌≢◌, ◌↔◌}
use Prim.Native.Nat.{ℕ, ◌+◌, ◌≤◌}
use native.Mathlib.Omega.{arith}
use lib.Dec.{eqb}
use borrow.Author.Tests.{eqb-true, eqb-false, eq-eqb}
use Rattle.rules.specs.Tests.{pick}
use Rattle.rules.specs.Tables.{Table, record_of, caller, called, after, Sound}
use Rattle.rules.specs.declared.Claimant.{Claimant}
use Rattle.rules.specs.declared.Terms.{Terms}
use Rattle.rules.specs.declared.Call.{Call}
use Rattle.rules.specs.declared.Call.TheVariants.{Ask, Step, Leave}
use Rattle.rules.proofs.Choices.{decide}
use Rattle.rules.proofs.Moves.{Edged}
use Rattle.rules.proofs.Rows.{has_number}
use Rattle.rules.proofs.Calls.{Begins, accepted}
use Rattle.rules.proofs.Keeping.{sound_called}
use Rattle.promises.specs.Sequences.{place_of, count, step_of, asks}
use Rattle.promises.specs.Waiting.{BackToRest}
use Rattle.promises.proofs.Steps.{unmoved, last_moves, not_asked}

-- A call of its own that begins inside, or after it, makes one of its last moves.
moved_on : {n : ℕ} {k : Terms} {t : Table} → Sound n k t → (c : Call) → 10 ≤ place_of t (caller c) → Begins c (record_of t (caller c))
    → Edged (record_of t (caller c)) (record_of (called k c t).table (caller c))
moved_on {t} s c p b =
    let h = has_number t (caller c) (omega arith) in
    last_moves (accepted s c h.0 (omega (arith, h.1, s.length_is)) b).move p

-- At place p it has m steps to make.
data Closing : (m p : ℕ) → Type 0 where
  at_rest : Closing 0 0
  session_left : Closing 1 12
  token_left : Closing 2 11

closing_place : {m p : ℕ} → Closing m p → (p ≡ 0 ↔ m ≤ 0) × (p ≢ 10)
closing_place at_rest = omega arith
closing_place session_left = omega arith
closing_place token_left = omega arith

module _ (n : ℕ) (k : Terms) (i : ℕ) where
  -- The call leaves it with m' of the m steps that it has to make.
  record Left (m : ℕ) (c : Call) (t : Table) : Type 0 where
    m' : ℕ
    p' : ℕ
    closing : Closing m' p'
    place : place_of (called k c t).table i ≡ p'
    steps : (x : ℕ) → m ≤ pick (step_of i c t (called k c t).table) 1 0 + x ↔ m' ≤ x

  passed_by : {m p : ℕ} (c : Call) (t : Table) → Closing m p → place_of t i ≡ p → record_of (called k c t).table i ≡ record_of t i
      → step_of i c t (called k c t).table ≡ false → Left m c t
  passed_by {m} {p} c t g e u f =
      record {
        m' = m;
        p' = p;
        closing = g;
        place = ap (λ (d : Claimant). d.place) u ∙ e;
        steps = λ x. rw f (omega arith);
      }

  own_step : {m p : ℕ} (t : Table) → Sound n k t → Closing m p → place_of t i ≡ p → Left m (Step i) t
  unfolding step_of caller
  own_step t s at_rest e =
      record {
        m' = 0;
        p' = 0;
        closing = at_rest;
        place = ap (λ (d : Claimant). d.place) (unmoved k (Step i) t i (λ q b. b.0 e)) ∙ e;
        steps = λ x. omega arith;
      }
  own_step t s session_left e =
      record {
        m' = 0;
        p' = 0;
        closing = at_rest;
        place = (moved_on s (Step i) (omega arith) (omega arith)).closed e;
        steps = λ x. rw (eq-eqb i i refl) (omega arith);
      }
  own_step t s token_left e =
      record {
        m' = 1;
        p' = 12;
        closing = session_left;
        place = (moved_on s (Step i) (omega arith) (omega arith)).closing e;
        steps = λ x. rw (eq-eqb i i refl) (omega arith);
      }

  next_call : {m p : ℕ} (c : Call) (cs : List Call) (t : Table) → Sound n k t → Closing m p → place_of t i ≡ p
      → count (asks i) k (c ∷ cs) t ≡ 0 → Left m c t
  unfolding count step_of caller
  next_call (Ask w v) cs t s g e h =
      decide (asks i (Ask w v) t (called k (Ask w v) t).table)
      (λ q. absurd (omega (arith, rw q at h)))
      (λ q. passed_by (Ask w v) t g e (not_asked k t i w v q) refl)
  next_call (Leave w) cs t s g e h =
      passed_by (Leave w) t g e (unmoved k (Leave w) t i (λ r b. (closing_place g).1 (sym e ∙ b))) refl
  next_call (Step w) cs t s g e h =
      decide (eqb w i)
      (λ q. rw (eqb-true w i q) (own_step t s g e))
      (λ q. passed_by (Step w) t g e (unmoved k (Step w) t i (λ r b. eqb-false w i q r)) q)

  rests : {m p : ℕ} (cs : List Call) (t : Table) → Sound n k t → Closing m p → place_of t i ≡ p → count (asks i) k cs t ≡ 0
      → place_of (after k cs t) i ≡ 0 ↔ m ≤ count (step_of i) k cs t
  unfolding after count
  rests [] t s g e h = rw e (closing_place g).0
  rests {m = m} {p = p} (c ∷ cs) t s g e h =
      let l = next_call c cs t s g e h in
      let x = l.steps (count (step_of i) k cs (called k c t).table) in
      let y = rests {m = l.m'} {p = l.p'} cs (called k c t).table (sound_called c s) l.closing l.place (omega (arith, h)) in
      ((λ a. x.1 (y.0 a)), λ a. y.1 (x.0 a))

pub back_to_rest : BackToRest
unfolding BackToRest caller
back_to_rest n k calls t i s p h =
    let out = (moved_on s (Leave i) (omega arith) p).leaving p in
    let g = rests n k i calls (called k (Leave i) t).table (sound_called (Leave i) s) token_left out h in
    ((λ a. omega (arith, g.0 a)), λ a. g.1 (omega arith))
