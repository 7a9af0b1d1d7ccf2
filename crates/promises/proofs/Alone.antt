-- A claimant that is stepped alone, the others at rest, is inside after 3 n + 5 steps and not before.
use mathlib.Core.Path.{◌≡◌, refl, sym, ap, ◌∙◌}
use mathlib.Core.List.{List, [], ◌∷◌}
use mathlib.Core.Logic.{◌≢◌, ◌↔◌}
use Prim.Native.Nat.{ℕ, zero, suc, ◌+◌, ◌-◌, ◌*◌, ◌≤◌, min}
use native.Mathlib.Omega.{arith}
use lib.Dec.{eqb, leb}
use lib.ListN.{get_or, replicate}
use borrow.Author.Tests.{eqb-true, eqb-false, leb-true, leb-false}
use Rattle.rules.specs.Records.{blank}
use Rattle.rules.specs.Places.{rows}
use Rattle.rules.specs.Tables.{Table, record_of, caller, called, after, Sound}
use Rattle.rules.specs.declared.Claimant.{Claimant}
use Rattle.rules.specs.declared.Terms.{Terms}
use Rattle.rules.specs.declared.Call.TheVariants.{Step}
use Rattle.rules.proofs.Choices.{decide, Before}
use Rattle.rules.proofs.Shapes.{Formed, between, ◌&◌}
use Rattle.rules.proofs.Moves.{Move}
use Rattle.rules.proofs.Moves.Move.{edge, choice, walk}
use Rattle.rules.proofs.Moves.Edge.{asks, signs, turned_away, leaves, drops_token, drops_session}
use Rattle.rules.proofs.Moves.Choice.{raises, scans, takes}
use Rattle.rules.proofs.Moves.Walk.{lowers, stays, clears, passes}
use Rattle.rules.proofs.Moves.Stays.{sees_chooser, sees_conflict, halts, stays_halted}
use Rattle.rules.proofs.Moves.Clears.{no_chooser, no_conflict}
use Rattle.rules.proofs.Moves.Passes.{by_token, by_session}
use Rattle.rules.proofs.Moves.Onward.{next_row, last_row}
use Rattle.rules.proofs.Rows.{has_number, beyond, rows_formed}
use Rattle.rules.proofs.Calls.{accepted}
use Rattle.rules.proofs.Keeping.{sound_called}
use Rattle.promises.specs.Sequences.{place_of}
use Rattle.promises.specs.Waiting.{lone_steps, InsideAlone}
use Rattle.promises.proofs.Steps.{unmoved}

-- Steps to the inside, by place from 0 on: a row takes two and the own row three ..
abbrev ahead : (n : ℕ) → List ℕ
ahead n =
    0 ∷ (3 * n + 5) ∷ (3 * n + 4) ∷ (3 * n + 4) ∷ (2 * n + 3) ∷ (2 * n + 2) ∷ (2 * n + 3) ∷ 0 ∷ (2 * n + 2) ∷ (2 * n + 1) ∷ 0 ∷ []

-- .. less what the rows before row o took of them.
abbrev behind : (i o : ℕ) → List ℕ
behind i o = 0 ∷ 0 ∷ 0 ∷ o ∷ 0 ∷ 0 ∷ (2 * o + min 1 (o - i)) ∷ 0 ∷ (2 * o + min 1 (o - i)) ∷ (2 * o) ∷ 0 ∷ []

-- Claimant i, with the record c, gets inside with the m-th step from now. It sees no token, no chooser, and halts at its own row alone.
record Exactly (n i m : ℕ) (c : Claimant) : Type 0 where
  low : 1 ≤ c.place
  high : c.place ≤ 10
  not_seven : c.place ≢ 7
  own_row : c.place ≡ 9 → c.other ≡ i
  unseen : c.seen ≡ 0
  left : get_or (ahead n) c.place 0 ≡ m + get_or (behind i c.other) c.place 0

module _ (n : ℕ) (k : Terms) (i m : ℕ) (at : ℕ → Claimant) (i-low : 1 ≤ i) (i-high : i ≤ n) (ceiling : 1 ≤ k.ceiling)
    (others : (j : ℕ) → j ≢ i → at j ≡ blank) where
  -- A row is the claimant's own or blank.
  own_or_blank : {A : Type 0} (o : ℕ) → (o ≡ i → A) → (at o ≡ blank → o ≢ i → A) → A
  own_or_blank o f g = decide (eqb o i) (λ e. f (eqb-true o i e)) (λ e. g (others o (eqb-false o i e)) (eqb-false o i e))

  -- A register that is 0 in the own row is 0 in all.
  zero_at : (register : Claimant → ℕ) (o : ℕ) → register blank ≡ 0 → register (at i) ≡ 0 → register (at o) ≡ 0
  zero_at register o b z = own_or_blank o (λ e. ap (λ (x : ℕ). register (at x)) e ∙ z) (λ e x. ap register e ∙ b)

  not_own : {t : ℕ} (o : ℕ) → (1 ≤ (at o).token → Before t i (at o).token o) → (at i).token ≡ t → 1 ≤ t → o ≢ i
  not_own {t} o u e l x =
      let v : 1 ≤ (at i).token → Before t i (at i).token i = rw x at u in
      omega (arith, (v (omega arith)).number (omega arith))

  own_only : (o : ℕ) → 1 ≤ (at o).token → o ≡ i
  own_only o u = own_or_blank o (λ e. e) (λ e x. absurd (omega (arith, ap (λ (d : Claimant). d.token) e)))

  nearer : {c c' : Claimant} → Move n k i at c c' → Formed n k c → at i ≡ c → c.place ≢ 10 → Exactly n i (suc m) c → Exactly n i m c'
  unfolding rows
  nearer (edge (asks u)) f e z g = omega arith
  nearer (edge signs) f e z g = omega arith
  nearer (edge (turned_away u)) f e z g = omega arith
  nearer (edge leaves) f e z g = absurd (z refl)
  nearer (edge drops_token) f e z g = omega arith
  nearer (edge drops_session) f e z g = omega arith
  nearer (choice raises) f e z g = omega arith
  nearer (choice (scans {o} (next_row u))) f e z g =
      omega (arith, zero_at (λ d. d.token) o refl (ap (λ (d : Claimant). d.token) e ∙ f.fields.token_fits))
  nearer (choice (scans {o} (last_row u))) f e z g =
      omega (arith, zero_at (λ d. d.token) o refl (ap (λ (d : Claimant). d.token) e ∙ f.fields.token_fits))
  nearer (choice (takes u)) f e z g = omega arith
  nearer (walk lowers) f e z g = omega arith
  nearer (walk (stays {o} (sees_chooser u))) f e z g =
      absurd (u (zero_at (λ d. d.choosing) o refl (ap (λ (d : Claimant). d.choosing) e ∙ f.fields.choosing_fits)))
  nearer (walk (stays (sees_conflict u))) f e z g = absurd (g.not_seven refl)
  nearer (walk (stays {o} (halts u))) f e z g = omega (arith, own_only o u)
  nearer (walk (stays (stays_halted u))) f e z g =
      absurd (u.differ (omega (arith, ap (λ (y : ℕ). (at y).session) (g.own_row refl), ap (λ (d : Claimant). d.session) e, f.fields.session_fits)))
  nearer (walk (clears (no_chooser u))) f e z g = omega arith
  nearer (walk (clears (no_conflict u))) f e z g = absurd (g.not_seven refl)
  nearer (walk (passes {o} (by_token u) (next_row v))) f e z g =
      let d = not_own o u (ap (λ (d : Claimant). d.token) e) f.fields.token_fits.0 in omega arith
  nearer (walk (passes {o} (by_token u) (last_row v))) f e z g =
      let d = not_own o u (ap (λ (d : Claimant). d.token) e) f.fields.token_fits.0 in omega arith
  nearer (walk (passes (by_session u) (next_row v))) f e z g = omega (arith, g.own_row refl)
  nearer (walk (passes (by_session u) (last_row v))) f e z g = omega (arith, g.own_row refl)

-- It is inside just when no step is left.
at_end : {n : ℕ} {k : Terms} {i m : ℕ} (c : Claimant) → 1 ≤ i → i ≤ n → Formed n k c → Exactly n i m c → c.place ≡ 10 ↔ m ≡ 0
unfolding rows
at_end {n} {k} {i} {m} c l h f g = (
  between (λ c. Formed n k c → Exactly n i m c → c.place ≡ 10 → m ≡ 0) c 1 10 g.low (omega (arith, g.high)) (omega arith) f g,
  between (λ c. Formed n k c → Exactly n i m c → m ≡ 0 → c.place ≡ 10) c 1 10 g.low (omega (arith, g.high)) (omega arith) f g,
)

module _ (n : ℕ) (k : Terms) (i : ℕ) (i-low : 1 ≤ i) (i-high : i ≤ n) where
  -- What holds before each step of a claimant that has m to make.
  record Going (m : ℕ) (t : Table) : Type 0 where
    sound : Sound n k t
    exactly : Exactly n i m (record_of t i)
    others : (j : ℕ) → j ≢ i → record_of t j ≡ blank

  ends : {m : ℕ} {t : Table} → Going m t → place_of t i ≡ 10 ↔ m ≡ 0
  ends {t} h = at_end (record_of t i) i-low i-high (rows_formed h.sound i i-low i-high) h.exactly

  goes : (m : ℕ) (t : Table) → Going (suc m) t → Going m (called k (Step i) t).table
  unfolding caller
  goes m t h =
      let p : place_of t i ≢ 10 = λ e. omega (arith, (ends h).0 e) in
      let v = accepted h.sound (Step i) i-low i-high ((λ e. omega (arith, h.exactly.low)), p) in
      record {
        sound = sound_called (Step i) h.sound;
        exactly =
            nearer n k i m (record_of t) i-low i-high h.sound.opens.ceiling_set h.others v.move
            (rows_formed h.sound i i-low i-high) refl p h.exactly;
        others = λ j d. v.others j d ∙ h.others j d;
      }

  rests : (t : Table) → Going 0 t → Going 0 (called k (Step i) t).table
  unfolding caller
  rests t h =
      record {
        sound = sound_called (Step i) h.sound;
        exactly = rw (unmoved k (Step i) t i (λ q b. b.1 ((ends h).1 refl))) h.exactly;
        others = λ j d. unmoved k (Step i) t j (λ q b. d (sym q)) ∙ h.others j d;
      }

  inside_at : (l m : ℕ) (t : Table) → Going m t → place_of (after k (replicate l (Step i)) t) i ≡ 10 ↔ m ≤ l
  unfolding after
  inside_at zero m t h = ((λ e. omega (arith, (ends h).0 e)), λ e. (ends h).1 (omega arith))
  inside_at (suc l) zero t h =
      let g = inside_at l zero (called k (Step i) t).table (rests t h) in
      ((λ e. omega arith), λ e. g.1 (omega arith))
  inside_at (suc l) (suc m) t h =
      let g = inside_at l m (called k (Step i) t).table (goes m t h) in
      ((λ e. omega (arith, g.0 e)), λ e. g.1 (omega arith))

-- At rest all fields are 0.
resting : {n : ℕ} {k : Terms} (c : Claimant) → Formed n k c → c.place ≡ 0 → c ≡ blank
unfolding rows
resting {n} {k} c f e =
    between (λ c. Formed n k c → c ≡ blank) c 0 1 (omega arith) (omega arith)
    ((λ g.
    let h = g.fields in
    rw (h.session_fits, h.want_fits, h.choosing_fits, h.token_fits, h.other_fits, h.seen_fits)) & tt)
    f

blank_of : {n : ℕ} {k : Terms} {t : Table} (j : ℕ) → Sound n k t → place_of t j ≡ 0 → record_of t j ≡ blank
unfolding record_of
blank_of zero s e = refl
blank_of {n} {t} (suc j) s e =
    decide (leb (suc j) n)
    (λ q. resting (record_of t (suc j)) (rows_formed s (suc j) (omega arith) (leb-true (suc j) n q)) e)
    (λ q. beyond t (suc j) (omega (arith, leb-false (suc j) n q, s.length_is)))

pub inside_alone : InsideAlone
unfolding InsideAlone rows
inside_alone n k t i s p rest m =
    let h = has_number t i (omega arith) in
    let b : i ≤ n = omega (arith, h.1, s.length_is) in
    inside_at n k i h.0 b m (lone_steps n) t
    (record {
      sound = s;
      exactly =
          between (λ c. Formed n k c → Exactly n i (lone_steps n) c) (record_of t i) 1 1 (omega arith) (omega arith)
          (omega arith) (rows_formed s i h.0 b);
      others = λ j d. blank_of j s (rest j d);
    })
