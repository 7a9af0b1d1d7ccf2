-- A claimant j that signed while claimant i waits stays behind i: it takes a token above i's, and halts at i's row.
use mathlib.Core.Path.{◌≡◌}
use mathlib.Core.Logic.{◌≢◌}
use Prim.Native.Nat.{ℕ, ◌≤◌, ◌<◌}
use native.Mathlib.Omega.{arith}
use lib.Dec.{eqb}
use borrow.Author.Tests.{eqb-true, eqb-false}
use Rattle.rules.specs.Records.{claimant}
use Rattle.rules.specs.Tables.{caller}
use Rattle.rules.specs.declared.Claimant.{Claimant}
use Rattle.rules.specs.declared.Terms.{Terms}
use Rattle.rules.specs.declared.Call.{Call}
use Rattle.rules.proofs.Choices.{decide, Conflict, Before}
use Rattle.rules.proofs.Shapes.{Registers, registers}
use Rattle.rules.proofs.Moves.{Move, Passes, Onward, lingers, clears_from, passes_from, edged, chosen, walked}
use Rattle.rules.proofs.Moves.Move.{edge, choice, walk}
use Rattle.rules.proofs.Moves.Walk.{lowers, stays, clears, passes}
use Rattle.rules.proofs.Moves.Passes.{by_token, by_session}
use Rattle.rules.proofs.Moves.Onward.{next_row, last_row}
use Rattle.rules.proofs.Calls.{own_move, Next}
use Rattle.rules.proofs.Calls.Next.{still, moves}
use Rattle.promises.proofs.Awareness.{Aware, stays_aware}

-- Record d is behind claimant i, whose token is t. Nothing is claimed of it before its scan, inside, and after.
pub record Behind (i t : ℕ) (d : Claimant) : Type 0 where
  pub aware : Aware i t d
  pub token : 5 ≤ d.place → d.place ≤ 9 → t < d.token
  pub row : 6 ≤ d.place → d.place ≤ 9 → d.other ≤ i

pub apart : {i t : ℕ} {d : Claimant} → (3 ≤ d.place → 10 ≤ d.place) → Behind i t d
apart h =
    record {
      aware = record { scanning = λ e. absurd (omega (arith, h (omega arith))); taking = λ e. absurd (omega (arith, h (omega arith))) };
      token = λ a b. absurd (omega (arith, h (omega arith)));
      row = λ a b. absurd (omega (arith, h (omega arith)));
    }

-- Claimant i has the record c, and another the record d.
abbrev pub Late : ℕ → (c d : Claimant) → Type 0
Late i c d = Conflict c.want d.want → Behind i c.token d

-- A late claimant is late after a call too, and the call did not take it inside under a conflicting session.
pub record Lags (i : ℕ) (c d d' : Claimant) : Type 0 where
  pub late : Late i c d'
  pub outside : d.place ≢ 10 → d'.place ≡ 10 → ¬ (Conflict c.want d'.want)

abbrev pub Waiting : Claimant → Type 0
Waiting c = (6 ≤ c.place) × (c.place ≤ 9)

module _ (n i j : ℕ) (at : ℕ → Claimant) (i-low : 1 ≤ i) (i-high : i ≤ n) (waits : Waiting (at i)) (r : Registers (at i)) where
  -- Neither look lets a claimant with a higher token pass row i under a conflicting session.
  not_past : {t w o p : ℕ} → (at i).token < t → Conflict (at i).want w → Passes at j t w o p → o ≢ i
  not_past {t} h x (by_token u) e =
      let v : 1 ≤ (at i).token → Before t j (at i).token i = rw e at u in
      omega (arith, (v (r.token (omega arith) (omega arith))).token)
  not_past {w} h x (by_session u) e =
      let v : ¬ (Conflict (at i).session w) = rw e at u in
      v (omega (arith, r.session (omega arith) (omega arith)))

  at_row : {p p' x s t w o m : ℕ} → (6 ≤ p) × (p ≤ 9) → (6 ≤ p') × (p' ≤ 9) → Late i (at i) (claimant p x s t w o m)
      → Lags i (at i) (claimant p x s t w o m) (claimant p' x s t w o m)
  at_row a b f =
      record {
        late = λ x. omega (arith, (f x).token (omega arith) a.1, (f x).row a.0 a.1);
        outside = omega arith;
      }

  onward : {p p' x s t w o m o' : ℕ} → (8 ≤ p) × (p ≤ 9) → Passes at j t w o p → Onward n 6 10 o p' o' → Late i (at i) (claimant p x s t w o m)
      → Lags i (at i) (claimant p x s t w o m) (claimant p' x s t w o' m)
  onward a y (next_row u) f =
      record {
        late =
            λ x.
            let l = (f x).token (omega arith) a.1 in
            omega (arith, l, (f x).row (omega arith) a.1, not_past l x y);
        outside = omega arith;
      }
  onward a y (last_row u) f =
      record {
        late = λ x. apart (omega arith);
        outside =
            λ h g x.
            not_past ((f x).token (omega arith) a.1) x y (omega (arith, (f x).row (omega arith) a.1));
      }

  lags : {k : Terms} {d d' : Claimant} → Move n k j at d d' → Late i (at i) d → Lags i (at i) d d'
  lags (edge y) f =
      record {
        late = λ x. apart (λ h. omega (arith, (edged y).to h));
        outside = λ h g. absurd (omega (arith, (edged y).to (omega arith)));
      }
  lags (choice y) f =
      record {
        late =
            λ x.
            let g = stays_aware n i at i-low i-high y (f (rw (chosen y).want_kept at x)).aware in
            record { aware = g.aware; token = λ a b. g.above a; row = λ a b. absurd (omega (arith, (chosen y).to)) };
        outside = λ h g. absurd (omega (arith, (chosen y).to));
      }
  lags (walk lowers) f = record { late = λ x. omega (arith, (f x).token (omega arith) (omega arith)); outside = omega arith }
  lags (walk (stays y)) f = at_row (lingers y).from (lingers y).to f
  lags (walk (clears y)) f = at_row (omega (arith, clears_from y)) (omega arith) f
  lags (walk (passes y v)) f = onward (passes_from y) y v f

-- The waiting claimant keeps its session and its token while it waits.
keeps : {n : ℕ} {k : Terms} {i : ℕ} {at : ℕ → Claimant} {c c' : Claimant} → Move n k i at c c' → Waiting c'
    → (c'.want ≡ c.want) × (c'.token ≡ c.token)
keeps (edge y) h = absurd (omega (arith, (edged y).to (omega arith)))
keeps (choice y) h = absurd (omega (arith, (chosen y).to))
keeps (walk y) h = ((walked y).want_kept, (walked y).token_kept)

pub lags_next : {n : ℕ} {k : Terms} {c : Call} {at at' : ℕ → Claimant} (i j : ℕ) → 1 ≤ i → i ≤ n → i ≢ j → Next n k c at at'
    → Waiting (at i) → Waiting (at' i) → Late i (at i) (at j) → Lags i (at' i) (at j) (at' j)
lags_next i j a b h (still e) p q f = rw (e i, e j) (record { late = f; outside = omega arith })
lags_next {n} {c} {at} i j a b h (moves s m) p q f =
    let w = caller c in
    decide (eqb i w)
    (λ e.
    let g = keeps (own_move (eqb-true i w e) m) q in
    rw (m.others j (omega (arith, eqb-true i w e)), g.0, g.1) (record { late = f; outside = omega arith }))
    (λ e.
    rw (m.others i (eqb-false i w e))
    (decide (eqb j w)
    (λ l. lags n i j at a b p (registers (m.all_formed i a b)) (own_move (eqb-true j w l) m) f)
    (λ l. rw (m.others j (eqb-false j w l)) (record { late = f; outside = omega arith }))))
