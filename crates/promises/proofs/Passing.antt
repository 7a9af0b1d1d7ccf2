-- The invariant behind exclusion, for a claimant i with the record c and another claimant j with the record d.
use mathlib.Core.Path.{◌≡◌, sym}
use Prim.Native.Nat.{ℕ, ◌≤◌, ◌<◌}
use native.Mathlib.Omega.{arith}
use lib.Dec.{eqb}
use borrow.Author.Tests.{eqb-true, eqb-false}
use Rattle.rules.specs.Records.{claimant}
use Rattle.rules.specs.declared.Claimant.{Claimant}
use Rattle.rules.specs.declared.Terms.{Terms}
use Rattle.rules.proofs.Choices.{decide, Conflict, Before}
use Rattle.rules.proofs.Shapes.{Registers}
use Rattle.rules.proofs.Moves.{Move, Clears, Passes, Onward, lingers, clears_from, passes_from, edged, Chosen, chosen, Walked, walked}
use Rattle.rules.proofs.Moves.Move.{edge, choice, walk}
use Rattle.rules.proofs.Moves.Walk.{lowers, stays, clears, passes}
use Rattle.rules.proofs.Moves.Clears.{no_chooser, no_conflict}
use Rattle.rules.proofs.Moves.Passes.{by_token, by_session}
use Rattle.rules.proofs.Moves.Onward.{next_row, last_row}
use Rattle.promises.proofs.Awareness.{Aware, Chose, stays_aware}

-- Record c has passed row j; or at least found no chooser there that is unaware of c's token.
pub record Past (j : ℕ) (c : Claimant) : Type 0 where
  pub low : 6 ≤ c.place
  pub high : c.place ≤ 10
  pub row : c.place ≤ 9 → j < c.other

pub record Cleared (j : ℕ) (c : Claimant) : Type 0 where
  pub low : 6 ≤ c.place
  pub high : c.place ≤ 10
  pub row : c.place ≤ 7 → j < c.other
  pub here : c.place ≤ 9 → j ≤ c.other

cleared : {j : ℕ} {c : Claimant} → Past j c → Cleared j c
cleared p = record { low = p.low; high = p.high; row = λ h. p.row (omega arith); here = λ h. omega (arith, p.row h) }

-- A row that was cleared is aware, and one that was passed has a token above.
pub record Passing (i j : ℕ) (c d : Claimant) : Type 0 where
  pub aware : Cleared j c → Conflict c.want d.want → Aware i c.token d
  pub ahead : Past j c → Conflict c.want d.want → 5 ≤ d.place → d.place ≤ 10 → Before c.token i d.token j

-- Nothing is claimed of a claimant that has cleared no row ..
pub not_begun : {i j : ℕ} {c d : Claimant} → ¬ (Cleared j c) → Passing i j c d
not_begun h = record { aware = λ p. absurd (h p); ahead = λ p. absurd (h (cleared p)) }

-- .. and of another that is not between its scan and its leave.
aside : {i j : ℕ} {c d : Claimant} → (3 ≤ d.place → 11 ≤ d.place) → Passing i j c d
aside h =
    record {
      aware = λ p x. record { scanning = λ e. absurd (omega (arith, h (omega arith))); taking = λ e. absurd (omega (arith, h (omega arith))) };
      ahead = λ p x a b. absurd (omega (arith, h (omega arith)));
    }

module _ (n i j : ℕ) (at : ℕ → Claimant) (i-low : 1 ≤ i) (i-high : i ≤ n) (j-low : 1 ≤ j) (j-high : j ≤ n) where
  -- Claimant i walks: it stays at its row, it clears it, or it passes it.
  at_row : {p p' x s t w o m : ℕ} → (6 ≤ p) × (p ≤ 9) → p' ≤ 9 → (p ≤ 7 → p' ≤ 7)
      → Passing i j (claimant p x s t w o m) (at j) → Passing i j (claimant p' x s t w o m) (at j)
  at_row a b h f =
      record {
        aware = λ q x. f.aware (record { low = a.0; high = omega arith; row = λ y. q.row (h y); here = λ y. q.here b }) x;
        ahead = λ q x. f.ahead (record { low = a.0; high = omega arith; row = λ y. q.row b }) x;
      }

  clearing : {p x s t w o m : ℕ} → (6 ≤ p) × (p ≤ 7) → (j ≡ o → Conflict w (at j).want → Aware i t (at j))
      → Passing i j (claimant p x s t w o m) (at j) → Passing i j (claimant 8 x s t w o m) (at j)
  clearing {o} a u f =
      record {
        aware =
            λ q x.
            decide (eqb j o)
            (λ e. u (eqb-true j o e) x)
            (λ e.
            let l : j < o = omega (arith, q.here (omega arith), eqb-false j o e) in
            f.aware (record { low = a.0; high = omega arith; row = λ y. l; here = λ y. omega arith }) x);
        ahead = λ q x. f.ahead (record { low = a.0; high = omega arith; row = λ y. q.row (omega arith) }) x;
      }

  passing : {p p' x s t w o m o' : ℕ} → (8 ≤ p) × (p ≤ 9) → Onward n 6 10 o p' o'
      → (j ≡ o → Conflict w (at j).want → 5 ≤ (at j).place → (at j).place ≤ 10 → Before t i (at j).token j)
      → Passing i j (claimant p x s t w o m) (at j) → Passing i j (claimant p' x s t w o' m) (at j)
  passing {p} {p'} {x} {s} {t} {w} {o} {m} {o'} a v u f =
      record {
        aware = λ q y. f.aware (record { low = omega arith; high = omega arith; row = λ z. omega arith; here = λ z. upto v q }) y;
        ahead =
            λ q y.
            decide (eqb j o)
            (λ e. u (eqb-true j o e) y)
            (λ e.
            f.ahead (record { low = omega arith; high = omega arith; row = λ z. omega (arith, upto v (cleared q), eqb-false j o e) }) y);
      }
    where
      upto : {p' o' : ℕ} → Onward n 6 10 o p' o' → Cleared j (claimant p' x s t w o' m) → j ≤ o
      upto (next_row y) q = omega (arith, q.row (omega arith))
      upto (last_row y) q = omega arith

  -- Row j's Session is its want, so one that does not conflict says that the want does not.
  no_peer : {w o : ℕ} → Registers (at j) → ¬ (Conflict (at o).session w) → j ≡ o → Conflict w (at j).want → 2 ≤ (at j).place → (at j).place ≤ 10 → ⊥
  no_peer {w} r u e x h g =
      let v : ¬ (Conflict (at j).session w) = rw (sym e) at u in
      v (omega (arith, r.session h g))

  finds_aware : {w o p t : ℕ} → Registers (at j) → Clears at w o p → j ≡ o → Conflict w (at j).want → Aware i t (at j)
  finds_aware r (no_chooser u) e x =
      let u' : (at j).choosing ≡ 0 = rw (sym e) at u in
      record {
        scanning = λ y. absurd (omega (arith, r.choosing (omega arith) (omega arith)));
        taking = λ y. absurd (omega (arith, r.choosing (omega arith) (omega arith)));
      }
  finds_aware r (no_conflict u) e x =
      record {
        scanning = λ y. absurd (no_peer r u e x (omega arith) (omega arith));
        taking = λ y. absurd (no_peer r u e x (omega arith) (omega arith));
      }

  finds_above : {w o p t : ℕ} → Registers (at j) → Passes at i t w o p → j ≡ o → Conflict w (at j).want → 5 ≤ (at j).place → (at j).place ≤ 10
      → Before t i (at j).token j
  finds_above {t} r (by_token u) e x y z =
      let u' : 1 ≤ (at j).token → Before t i (at j).token j = rw (sym e) at u in u' (r.token y z)
  finds_above r (by_session u) e x y z = absurd (no_peer r u e x (omega arith) z)

  pub forward : {k : Terms} {c c' : Claimant} → Move n k i at c c' → Registers (at j) → Passing i j c (at j) → Passing i j c' (at j)
  forward (edge y) r f = not_begun (λ h. omega (arith, (edged y).to (omega (arith, h.low)), h.high))
  forward (choice y) r f = not_begun (λ h. omega (arith, (chosen y).to, h.low))
  forward (walk lowers) r f = not_begun (λ h. omega (arith, h.row (omega arith)))
  forward (walk (stays y)) r f = at_row (lingers y).from (lingers y).to.1 (lingers y).early f
  forward (walk (clears y)) r f = clearing (clears_from y) (finds_aware r y) f
  forward (walk (passes y v)) r f = passing (passes_from y) v (finds_above r y) f

  -- Claimant j moves: it chooses its token, or walks with it.
  choosing : {d d' : Claimant} → Chosen d d' → (Aware i (at i).token d → Chose i (at i).token d') → Passing i j (at i) d → Passing i j (at i) d'
  choosing g h f =
      record {
        aware = λ q x. (h (f.aware q (rw g.want_kept at x))).aware;
        ahead = λ q x y z. omega (arith, (h (f.aware (cleared q) (rw g.want_kept at x))).above y);
      }

  along : {d d' : Claimant} → Walked d d' → Passing i j (at i) d → Passing i j (at i) d'
  along {d} {d'} g f =
      record {
        aware = λ q x. omega (arith, g.to);
        ahead =
            λ q x y z.
            rw g.token_kept (f.ahead q (rw g.want_kept at x) g.from.0 (omega (arith, g.from)));
      }

  pub backward : {k : Terms} {d d' : Claimant} → Move n k j at d d' → Passing i j (at i) d → Passing i j (at i) d'
  backward (edge y) f = aside (edged y).to
  backward (choice y) f = choosing (chosen y) (stays_aware n i at i-low i-high y) f
  backward (walk y) f = along (walked y) f
