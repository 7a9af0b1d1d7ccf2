-- Sequences of calls: what leaves a claimant's record alone, and what a count says of the calls counted.
use mathlib.Core.Path.{◌≡◌, refl, sym}
use mathlib.Core.Bool.{true, false}
use mathlib.Core.List.{List, [], ◌∷◌, ◌++◌}
use mathlib.Core.Logic.{◌⊎◌, inl, inr}
use Prim.Native.Nat.{ℕ, ◌≤◌}
use native.Mathlib.Omega.{arith}
use lib.Dec.{eqb}
use borrow.Author.Tests.{eqb-true, eqb-false, eq-eqb}
use Rattle.rules.specs.Tables.{Table, record_of, caller, called, after}
use Rattle.rules.specs.declared.Claimant.{Claimant}
use Rattle.rules.specs.declared.Terms.{Terms}
use Rattle.rules.specs.declared.Call.{Call}
use Rattle.rules.specs.declared.Call.TheVariants.{Ask, Leave}
use Rattle.rules.proofs.Choices.{decide}
use Rattle.rules.proofs.Moves.{Move, Edged, edged, chosen, walked}
use Rattle.rules.proofs.Moves.Move.{edge, choice, walk}
use Rattle.rules.proofs.Moves.Edge.{asks, signs, turned_away, leaves, drops_token, drops_session}
use Rattle.rules.proofs.Calls.{Begins, own_move, Next, next}
use Rattle.rules.proofs.Calls.Next.{still, moves}
use Rattle.promises.specs.Sequences.{Deed, count, Throughout, asks as asks_in, leaves as leaves_in}

-- A call leaves claimant i's record alone, or it is claimant i's, begins where claimant i is, and moves it.
pub own_next : {n : ℕ} {k : Terms} {c : Call} {at at' : ℕ → Claimant} (i : ℕ) → Next n k c at at'
    → (at' i ≡ at i) ⊎ ((caller c ≡ i) × Begins c (at i) × Move n k i at (at i) (at' i))
own_next i (still e) = inl (e i)
own_next {c} i (moves s m) =
    decide (eqb i (caller c))
    (λ e. let q = eqb-true i (caller c) e in inr (sym q, rw (← q) at s, own_move q m))
    (λ e. inl (m.others i (eqb-false i (caller c) e)))

pub unmoved : (k : Terms) (c : Call) (t : Table) (i : ℕ) → (caller c ≡ i → ¬ (Begins c (record_of t i)))
    → record_of (called k c t).table i ≡ record_of t i
unmoved k c t i h = elim (own_next i (next k c t)) [
  | inl e ↦ e
  | inr m ↦ absurd (h m.0 m.1)
]

-- Where the moves from rest lead, and those from the inside on.
first_move : {n : ℕ} {k : Terms} {i : ℕ} {at : ℕ → Claimant} {c c' : Claimant} → Move n k i at c c' → c.place ≡ 0 → c'.place ≡ 1
first_move (edge (asks u)) e = refl
first_move (edge signs) e = absurd (omega arith)
first_move (edge (turned_away u)) e = absurd (omega arith)
first_move (edge leaves) e = absurd (omega arith)
first_move (edge drops_token) e = absurd (omega arith)
first_move (edge drops_session) e = absurd (omega arith)
first_move (choice y) e = absurd (omega (arith, (chosen y).from))
first_move (walk y) e = absurd (omega (arith, (walked y).from))

pub last_moves : {n : ℕ} {k : Terms} {i : ℕ} {at : ℕ → Claimant} {c c' : Claimant} → Move n k i at c c' → 10 ≤ c.place → Edged c c'
last_moves (edge y) h = edged y
last_moves (choice y) h = absurd (omega (arith, (chosen y).from))
last_moves (walk y) h = absurd (omega (arith, (walked y).from))

-- An ask that is not accepted leaves the record alone, and so does such a leave.
module _ (k : Terms) (t : Table) (i : ℕ) where
  pub not_asked : (w s : ℕ) → asks_in i (Ask w s) t (called k (Ask w s) t).table ≡ false → record_of (called k (Ask w s) t).table i ≡ record_of t i
  unfolding asks_in
  not_asked w s e = elim (own_next i (next k (Ask w s) t)) [
    | inl h ↦ h
    | inr m ↦ cc (rw (eq-eqb _ 0 m.1.0, eq-eqb _ 1 (first_move m.2 m.1.0)) at e)
  ]

  pub not_left : (w : ℕ) → leaves_in i (Leave w) t (called k (Leave w) t).table ≡ false → record_of (called k (Leave w) t).table i ≡ record_of t i
  unfolding leaves_in
  not_left w e = elim (own_next i (next k (Leave w) t)) [
    | inl h ↦ h
    | inr m ↦ cc (rw (eq-eqb _ 10 m.1, eq-eqb _ 11 ((last_moves m.2 (omega (arith, m.1))).leaving m.1)) at e)
  ]

-- What holds throughout holds at once.
pub at_once : (P : Table → Type 0) (k : Terms) (cs : List Call) (t : Table) → Throughout P k cs t → P t
at_once P k [] t h = h
at_once P k (c ∷ cs) t h = h.0

-- One call that does it is enough to be counted.
pub counted : (does : Deed) (k : Terms) (first : List Call) (c : Call) (rest : List Call) (t : Table)
    → does c (after k first t) (called k c (after k first t)).table ≡ true → 1 ≤ count does k (first ++ c ∷ rest) t
unfolding count after
counted does k [] c rest t e = rw e (omega arith)
counted does k (x ∷ first) c rest t e = omega (arith, counted does k first c rest (called k x t).table e)
