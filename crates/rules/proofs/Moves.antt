-- What an accepted call does to the caller's record: one constructor for each kind of move, with the places written out.
use mathlib.Core.Path.{◌≡◌}
use mathlib.Core.Bool.{true, false}
use mathlib.Core.Logic.{◌≢◌, inl, inr}
use Prim.Native.Nat.{ℕ, ◌+◌, ◌≤◌, ◌<◌, max}
use native.Mathlib.Omega.{arith}
use lib.Dec.{eqb, leb, ltb}
use borrow.Author.Tests.{eqb-true, eqb-false, ltb-true, ltb-false, leb-true, leb-false}
use Rattle.rules.specs.Tests.{◌or◌}
use Rattle.rules.specs.Records.{claimant, placed}
use Rattle.rules.specs.Places.{place_at, rows}
use Rattle.rules.specs.Answers.{number_of}
use Rattle.rules.specs.Rules.{stepped, passed, conflict, before, reads, read_at, value_in, reached}
use Rattle.rules.specs.Tables.{row_read}
use Rattle.rules.specs.declared.Claimant.{Claimant}
use Rattle.rules.specs.declared.Terms.{Terms}
use Rattle.rules.specs.declared.Turn.{Turn}
use Rattle.rules.proofs.Choices.{decide, either, neither, Conflict, conflict_true, conflict_false, Before, before_true}
use Rattle.rules.proofs.Shapes.{Formed, waits_formed, Each, ◌&◌, between}

-- On from row o: at place p with the next row, or at place q after the last.
pub data Onward (n p q o : ℕ) : (place other : ℕ) → Type 0 where
  next_row : o ≢ n → Onward n p q o p (o + 1)
  last_row : o ≡ n → Onward n p q o q 0

-- Looks at row o, where `at` gives the record of each claimant, by one that wants w: it stays at the row ..
pub data Stays (at : ℕ → Claimant) (w o : ℕ) : (p p' : ℕ) → Type 0 where
  sees_chooser : (at o).choosing ≢ 0 → Stays at w o 6 7
  sees_conflict : Conflict (at o).session w → Stays at w o 7 6
  halts : 1 ≤ (at o).token → Stays at w o 8 9
  stays_halted : Conflict (at o).session w → Stays at w o 9 8

-- .. it finds no chooser there that conflicts ..
pub data Clears (at : ℕ → Claimant) (w o : ℕ) : (p : ℕ) → Type 0 where
  no_chooser : (at o).choosing ≡ 0 → Clears at w o 6
  no_conflict : ¬ (Conflict (at o).session w) → Clears at w o 7

-- .. or claimant i, with the token t, passes it.
pub data Passes (at : ℕ → Claimant) (i t w o : ℕ) : (p : ℕ) → Type 0 where
  by_token : (1 ≤ (at o).token → Before t i (at o).token o) → Passes at i t w o 8
  by_session : ¬ (Conflict (at o).session w) → Passes at i t w o 9

-- At the edges of a claim: ask and sign, being turned away, leave and the two closing writes.
pub data Edge (k : Terms) : Claimant → Claimant → Type 0 where
  asks : {x s t w w' o m : ℕ} → (1 ≤ w') × (w' ≤ 65535) → Edge k (claimant 0 x s t w o m) (claimant 1 x s t w' o m)
  signs : {x s t w o m : ℕ} → Edge k (claimant 1 x s t w o m) (claimant 2 x w t w o m)
  turned_away : {x s t w o m : ℕ} → k.ceiling ≤ m → Edge k (claimant 4 x s t w o m) (claimant 12 0 s t w o 0)
  leaves : {x s t w o m : ℕ} → Edge k (claimant 10 x s t w o m) (claimant 11 x s t w o m)
  drops_token : {x s t w o m : ℕ} → Edge k (claimant 11 x s t w o m) (claimant 12 x s 0 w o m)
  drops_session : {x s t w o m : ℕ} → Edge k (claimant 12 x s t w o m) (claimant 0 x 0 t 0 o m)

-- Choosing a token, in a table of n rows.
pub data Choice (n : ℕ) (k : Terms) (at : ℕ → Claimant) : Claimant → Claimant → Type 0 where
  raises : {x s t w o m : ℕ} → Choice n k at (claimant 2 x s t w o m) (claimant 3 1 s t w 1 0)
  scans : {x s t w o m p' o' : ℕ} → Onward n 3 4 o p' o'
      → Choice n k at (claimant 3 x s t w o m) (claimant p' x s t w o' (max m (at o).token))
  takes : {x s t w o m : ℕ} → m < k.ceiling → Choice n k at (claimant 4 x s t w o m) (claimant 5 x s (m + 1) w o 0)

-- Walking along the rows with it, from the end of the doorway to the inside.
pub data Walk (n i : ℕ) (at : ℕ → Claimant) : Claimant → Claimant → Type 0 where
  lowers : {x s t w o m : ℕ} → Walk n i at (claimant 5 x s t w o m) (claimant 6 0 s t w 1 m)
  stays : {x s t w o m p p' : ℕ} → Stays at w o p p' → Walk n i at (claimant p x s t w o m) (claimant p' x s t w o m)
  clears : {x s t w o m p : ℕ} → Clears at w o p → Walk n i at (claimant p x s t w o m) (claimant 8 x s t w o m)
  passes : {x s t w o m p p' o' : ℕ} → Passes at i t w o p → Onward n 6 10 o p' o'
      → Walk n i at (claimant p x s t w o m) (claimant p' x s t w o' m)

-- Claimant i moves from one record to the other, where `at` gives the records before.
pub data Move (n : ℕ) (k : Terms) (i : ℕ) (at : ℕ → Claimant) : Claimant → Claimant → Type 0 where
  edge : {c c' : Claimant} → Edge k c c' → Move n k i at c c'
  choice : {c c' : Claimant} → Choice n k at c c' → Move n k i at c c'
  walk : {c c' : Claimant} → Walk n i at c c' → Move n k i at c c'

-- Where the looks at a row lead from and to.
pub record Lingers (p p' : ℕ) : Type 0 where
  pub from : (6 ≤ p) × (p ≤ 9)
  pub to : (6 ≤ p') × (p' ≤ 9)
  pub early : p ≤ 7 → p' ≤ 7

pub lingers : {at : ℕ → Claimant} {w o p p' : ℕ} → Stays at w o p p' → Lingers p p'
lingers (sees_chooser u) = omega arith
lingers (sees_conflict u) = omega arith
lingers (halts u) = omega arith
lingers (stays_halted u) = omega arith

pub clears_from : {at : ℕ → Claimant} {w o p : ℕ} → Clears at w o p → (6 ≤ p) × (p ≤ 7)
clears_from (no_chooser u) = omega arith
clears_from (no_conflict u) = omega arith

pub passes_from : {at : ℕ → Claimant} {i t w o p : ℕ} → Passes at i t w o p → (8 ≤ p) × (p ≤ 9)
passes_from (by_token u) = omega arith
passes_from (by_session u) = omega arith

-- The same of the kinds of move, and what they keep.
pub record Edged (c c' : Claimant) : Type 0 where
  pub to : 3 ≤ c'.place → 11 ≤ c'.place
  pub leaving : c.place ≡ 10 → c'.place ≡ 11
  pub closing : c.place ≡ 11 → c'.place ≡ 12
  pub closed : c.place ≡ 12 → c'.place ≡ 0

pub edged : {k : Terms} {c c' : Claimant} → Edge k c c' → Edged c c'
edged (asks u) = omega arith
edged signs = omega arith
edged (turned_away u) = omega arith
edged leaves = omega arith
edged drops_token = omega arith
edged drops_session = omega arith

pub record Chosen (c c' : Claimant) : Type 0 where
  pub from : (2 ≤ c.place) × (c.place ≤ 4)
  pub to : (3 ≤ c'.place) × (c'.place ≤ 5)
  pub want_kept : c'.want ≡ c.want

pub chosen : {n : ℕ} {k : Terms} {at : ℕ → Claimant} {c c' : Claimant} → Choice n k at c c' → Chosen c c'
chosen raises = omega arith
chosen (scans (next_row u)) = omega arith
chosen (scans (last_row u)) = omega arith
chosen (takes u) = omega arith

pub record Walked (c c' : Claimant) : Type 0 where
  pub from : (5 ≤ c.place) × (c.place ≤ 9)
  pub to : (6 ≤ c'.place) × (c'.place ≤ 10)
  pub want_kept : c'.want ≡ c.want
  pub token_kept : c'.token ≡ c.token

pub walked : {n i : ℕ} {at : ℕ → Claimant} {c c' : Claimant} → Walk n i at c c' → Walked c c'
walked lowers = omega arith
walked (stays y) = omega (arith, (lingers y).from, (lingers y).to)
walked (clears y) = omega (arith, clears_from y)
walked (passes y (next_row u)) = omega (arith, passes_from y)
walked (passes y (last_row u)) = omega (arith, passes_from y)

-- A move of a well-formed record among such records gives a well-formed record.
module _ {n : ℕ} {k : Terms} (some_row : 1 ≤ n) where
  edge_formed : {c c' : Claimant} → Edge k c c' → Formed n k c → Formed n k c'
  unfolding rows
  edge_formed (asks u) f = omega arith
  edge_formed signs f = omega arith
  edge_formed (turned_away u) f = omega arith
  edge_formed leaves f = omega arith
  edge_formed drops_token f = omega arith
  edge_formed drops_session f = omega arith

  choice_formed : {at : ℕ → Claimant} {c c' : Claimant} → ((o : ℕ) → (at o).token ≤ k.ceiling) → Choice n k at c c' → Formed n k c → Formed n k c'
  unfolding rows
  choice_formed h raises f = omega arith
  choice_formed h (scans {o} (next_row u)) f = omega (arith, h o)
  choice_formed h (scans {o} (last_row u)) f = omega (arith, h o)
  choice_formed h (takes u) f = omega arith

  onward_formed : {x s t w o m p' o' : ℕ} → Onward n 6 10 o p' o' → Formed n k (claimant 6 x s t w o m) → Formed n k (claimant p' x s t w o' m)
  unfolding rows
  onward_formed (next_row u) f = omega arith
  onward_formed (last_row u) f = omega arith

  walk_formed : {i : ℕ} {at : ℕ → Claimant} {c c' : Claimant} → Walk n i at c c' → Formed n k c → Formed n k c'
  unfolding rows
  walk_formed lowers f = omega arith
  walk_formed (stays y) f = waits_formed (lingers y).from (lingers y).to f
  walk_formed (clears y) f = waits_formed (omega (arith, clears_from y)) (omega arith) f
  walk_formed (passes y v) f = onward_formed v (waits_formed (omega (arith, passes_from y)) (omega arith) f)

  pub keeps_formed : {i : ℕ} {at : ℕ → Claimant} {c c' : Claimant} → ((o : ℕ) → (at o).token ≤ k.ceiling) → Move n k i at c c'
      → Formed n k c → Formed n k c'
  keeps_formed h (edge y) f = edge_formed y f
  keeps_formed h (choice y) f = choice_formed h y f
  keeps_formed h (walk y) f = walk_formed y f

-- A step that nothing refuses: the move, and an answer that is a place or 31.
pub record Taken (n : ℕ) (k : Terms) (i : ℕ) (at : ℕ → Claimant) (c : Claimant) (r : Turn) : Type 0 where
  pub move : Move n k i at c r.after
  pub small : number_of r.answer ≤ 31

module _ (n : ℕ) (k : Terms) (i : ℕ) (at : ℕ → Claimant) where
  ahead : (t v o : ℕ) → (eqb v 0 or before t i v o) ≡ true → 1 ≤ v → Before t i v o
  ahead t v o e h = elim (either (eqb v 0) (before t i v o) e) [
    | inl z ↦ absurd (omega (arith, eqb-true v 0 z))
    | inr b ↦ before_true t i v o b
  ]

  not_ahead : (t v o : ℕ) → (eqb v 0 or before t i v o) ≡ false → 1 ≤ v
  not_ahead t v o e = omega (arith, eqb-false v 0 (neither (eqb v 0) (before t i v o) e).0)

  to : {c c' : Claimant} → Move n k i at c c' → c'.place ≤ 31 → Taken n k i at c (reached c')
  to m h = record { move = m; small = h }

  passing : (c : Claimant) {p : ℕ} → Passes at i c.token c.want c.other p → Taken n k i at (placed p c) (reached (passed n (placed p c)))
  unfolding passed
  passing c u =
      decide (eqb c.other n)
      (λ e. rw e (to (walk (passes u (last_row (eqb-true c.other n e)))) (omega arith)))
      (λ e. rw e (to (walk (passes u (next_row (eqb-false c.other n e)))) (omega arith)))

  abbrev StepTaken : Claimant → Type 0
  StepTaken c = Taken n k i at c (stepped (place_at c.place) n k i (value_in (reads c) (at (row_read (reads c)))) c)

  -- The places 1 to 9, and 11 and 12, in their order.
  to_the_inside : (c : Claimant) → Each (λ p. StepTaken (placed p c)) 1 9
  unfolding place_at reads read_at stepped passed
  to_the_inside c =
      let o = c.other in
      let m = c.seen in
      let w = c.want in
      let x = (at o).choosing in
      let s = (at o).session in
      let v = (at o).token in
      to (edge signs) (omega arith)
      & to (choice raises) (omega arith)
      & decide (eqb o n)
      (λ e. rw e (to (choice (scans (last_row (eqb-true o n e)))) (omega arith)))
      (λ e. rw e (to (choice (scans (next_row (eqb-false o n e)))) (omega arith)))
      & decide (ltb m k.ceiling)
      (λ e. rw e (to (choice (takes (ltb-true m k.ceiling e))) (omega arith)))
      (λ e. rw e (record { move = edge (turned_away (ltb-false m k.ceiling e)); small = omega arith }))
      & to (walk lowers) (omega arith)
      & decide (eqb x 0)
      (λ e. rw e (to (walk (clears (no_chooser (eqb-true x 0 e)))) (omega arith)))
      (λ e. rw e (to (walk (stays (sees_chooser (eqb-false x 0 e)))) (omega arith)))
      & decide (conflict s w)
      (λ e. rw e (to (walk (stays (sees_conflict (conflict_true s w e)))) (omega arith)))
      (λ e. rw e (to (walk (clears (no_conflict (conflict_false s w e)))) (omega arith)))
      & decide (eqb v 0 or before c.token i v o)
      (λ e. rw e (passing c (by_token (ahead c.token v o e))))
      (λ e. rw e (to (walk (stays (halts (not_ahead c.token v o e)))) (omega arith)))
      & decide (conflict s w)
      (λ e. rw e (to (walk (stays (stays_halted (conflict_true s w e)))) (omega arith)))
      (λ e. rw e (passing c (by_session (conflict_false s w e))))
      & tt

  to_rest : (c : Claimant) → Each (λ p. StepTaken (placed p c)) 11 2
  unfolding place_at reads read_at stepped
  to_rest c = to (edge drops_token) (omega arith) & to (edge drops_session) (omega arith) & tt

  pub step_taken_lem : (c : Claimant) → c.place ≤ 12 → c.place ≢ 0 → c.place ≢ 10
      → Taken n k i at c (stepped (place_at c.place) n k i (value_in (reads c) (at (row_read (reads c)))) c)
  step_taken_lem c h a b =
      decide (leb c.place 9)
      (λ e. between StepTaken c 1 9 (omega arith) (omega (arith, leb-true c.place 9 e)) (to_the_inside c))
      (λ e. between StepTaken c 11 2 (omega (arith, leb-false c.place 9 e)) (omega arith) (to_rest c))
