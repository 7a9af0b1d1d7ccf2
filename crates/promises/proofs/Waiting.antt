-- A claimant that nobody is in the way of is inside after 5 n + 3 own steps.
use mathlib.Core.Path.{◌≡◌, refl, ap, ◌∙◌}
use mathlib.Core.Bool.{false}
use mathlib.Core.List.{List, [], ◌∷◌}
use mathlib.Core.Logic.{◌≢◌}
use Prim.Native.Nat.{ℕ, zero, suc, ◌+◌, ◌-◌, ◌*◌, ◌≤◌, min}
use native.Mathlib.Omega.{arith}
use lib.Dec.{eqb}
use lib.ListN.{get_or}
use borrow.Author.Tests.{eqb-true, eqb-false, eq-eqb}
use Rattle.rules.specs.Places.{rows}
use Rattle.rules.specs.Tables.{Table, record_of, caller, called, after, Sound}
use Rattle.rules.specs.declared.Claimant.{Claimant}
use Rattle.rules.specs.declared.Terms.{Terms}
use Rattle.rules.specs.declared.Call.{Call}
use Rattle.rules.specs.declared.Call.TheVariants.{Ask, Step, Leave}
use Rattle.rules.proofs.Choices.{decide, Conflict, conflict_false}
use Rattle.rules.proofs.Shapes.{Formed, between}
use Rattle.rules.proofs.Moves.{Move}
use Rattle.rules.proofs.Moves.Move.{edge, choice, walk}
use Rattle.rules.proofs.Moves.Edge.{asks, signs, turned_away, leaves, drops_token, drops_session}
use Rattle.rules.proofs.Moves.Choice.{raises, scans, takes}
use Rattle.rules.proofs.Moves.Walk.{lowers, stays, clears, passes}
use Rattle.rules.proofs.Moves.Stays.{sees_chooser, sees_conflict, halts, stays_halted}
use Rattle.rules.proofs.Moves.Clears.{no_chooser, no_conflict}
use Rattle.rules.proofs.Moves.Passes.{by_token, by_session}
use Rattle.rules.proofs.Moves.Onward.{next_row, last_row}
use Rattle.rules.proofs.Rows.{has_number, rows_formed}
use Rattle.rules.proofs.Calls.{accepted}
use Rattle.rules.proofs.Keeping.{sound_called}
use Rattle.promises.specs.Sequences.{place_of, count, Throughout, step_of, leaves as leaves_in}
use Rattle.promises.specs.Waiting.{most_steps, Unopposed, turns_away, InsideSoon}
use Rattle.promises.proofs.Steps.{unmoved, not_left}

-- Steps to the inside, by place from 0 on. A row takes four at the most and the own row three: the last term is 1 where that is behind.
abbrev ahead : (n i o : ℕ) → List ℕ
ahead n i o =
    0 ∷ (5 * n + 3) ∷ (5 * n + 2) ∷ (5 * n + 2) ∷ (4 * n + 1) ∷ (4 * n)
    ∷ (4 * n + 3 + min 1 (o - i)) ∷ (4 * n + 2 + min 1 (o + 1 - i)) ∷ (4 * n + 1 + min 1 (o + 1 - i)) ∷ (4 * n + min 1 (o + 1 - i)) ∷ 0 ∷ []

-- .. less what the rows before row o took of them.
abbrev behind : (o : ℕ) → List ℕ
behind o = 0 ∷ 0 ∷ 0 ∷ o ∷ 0 ∷ 0 ∷ (4 * o) ∷ (4 * o) ∷ (4 * o) ∷ (4 * o) ∷ 0 ∷ []

-- Claimant i, with the record c, is on its way to the inside and needs at most m more steps.
record Nearing (n i m : ℕ) (c : Claimant) : Type 0 where
  low : 1 ≤ c.place
  high : c.place ≤ 10
  left : get_or (ahead n i c.other) c.place 0 ≤ m + get_or (behind c.other) c.place 0

-- A step on the way: it is not inside yet, meets no conflict, and is not turned away.
record Way (i : ℕ) (at : ℕ → Claimant) (c c' : Claimant) : Type 0 where
  outside : c.place ≢ 10
  own : at i ≡ c
  calm : (o : ℕ) → ¬ (Conflict (at o).session c.want)
  not_turned : c.place ≡ 4 → c'.place ≢ 12

module _ (n : ℕ) (k : Terms) (i m : ℕ) (at : ℕ → Claimant) (i-low : 1 ≤ i) (i-high : i ≤ n) where
  -- Such a step brings it nearer.
  nearer : {c c' : Claimant} → Move n k i at c c' → Formed n k c → Way i at c c' → Nearing n i (suc m) c → Nearing n i m c'
  unfolding rows
  nearer (edge (asks u)) f w g = omega arith
  nearer (edge signs) f w g = omega arith
  nearer (edge (turned_away u)) f w g = absurd (w.not_turned refl refl)
  nearer (edge leaves) f w g = absurd (w.outside refl)
  nearer (edge drops_token) f w g = omega arith
  nearer (edge drops_session) f w g = omega arith
  nearer (choice raises) f w g = omega arith
  nearer (choice (scans (next_row u))) f w g = omega arith
  nearer (choice (scans (last_row u))) f w g = omega arith
  nearer (choice (takes u)) f w g = omega arith
  nearer (walk lowers) f w g = omega arith
  nearer (walk (stays {o} (sees_chooser u))) f w g =
      let d : o ≢ i =
      λ q. u (ap (λ (x : ℕ). (at x).choosing) q ∙ ap (λ (d : Claimant). d.choosing) w.own ∙ f.fields.choosing_fits) in
      omega arith
  nearer (walk (stays {o} (sees_conflict u))) f w g = absurd (w.calm o u)
  nearer (walk (stays (halts u))) f w g = omega arith
  nearer (walk (stays {o} (stays_halted u))) f w g = absurd (w.calm o u)
  nearer (walk (clears (no_chooser u))) f w g = omega arith
  nearer (walk (clears (no_conflict u))) f w g = omega arith
  nearer (walk (passes (by_token u) (next_row v))) f w g = omega arith
  nearer (walk (passes (by_token u) (last_row v))) f w g = omega arith
  nearer (walk (passes (by_session u) (next_row v))) f w g = omega arith
  nearer (walk (passes (by_session u) (last_row v))) f w g = omega arith

arrived : {n : ℕ} {k : Terms} {i : ℕ} (c : Claimant) → 1 ≤ i → i ≤ n → Formed n k c → Nearing n i 0 c → c.place ≡ 10
unfolding rows
arrived {n} {k} {i} c l h f g =
    between (λ c. Formed n k c → Nearing n i 0 c → c.place ≡ 10) c 1 10 g.low (omega (arith, g.high)) (omega arith) f g

-- What a claimant signs does not conflict with what it wants.
own_calm : {n : ℕ} {k : Terms} (c : Claimant) → Formed n k c → 1 ≤ c.place → c.place ≤ 9 → ¬ (Conflict c.session c.want)
unfolding rows
own_calm {n} {k} c f a b = between (λ c. Formed n k c → ¬ (Conflict c.session c.want)) c 1 9 a (omega arith) (omega arith) f

module _ (n : ℕ) (k : Terms) (i : ℕ) (i-low : 1 ≤ i) (i-high : i ≤ n) where
  -- What holds of the calls that are still to come, for a claimant that needs m of its steps among them.
  record Coming (m : ℕ) (cs : List Call) (t : Table) : Type 0 where
    sound : Sound n k t
    nearing : Nearing n i m (record_of t i)
    unopposed : Throughout (Unopposed i) k cs t
    not_turned_away : count (turns_away i) k cs t ≡ 0
    no_leave : count (leaves_in i) k cs t ≡ 0
    steps : m ≤ count (step_of i) k cs t

  come : (m m' : ℕ) (c : Call) (cs : List Call) (t : Table) → Coming m (c ∷ cs) t → Nearing n i m' (record_of (called k c t).table i)
      → m' ≤ count (step_of i) k cs (called k c t).table → Coming m' cs (called k c t).table
  unfolding count
  come m m' c cs t h g l =
      record {
        sound = sound_called c h.sound;
        nearing = g;
        unopposed = h.unopposed.1;
        not_turned_away = omega (arith, h.not_turned_away);
        no_leave = omega (arith, h.no_leave);
        steps = l;
      }

  -- A call that leaves its record alone, and is none of its steps.
  passed_by : (m : ℕ) (c : Call) (cs : List Call) (t : Table) → Coming m (c ∷ cs) t → record_of (called k c t).table i ≡ record_of t i
      → step_of i c t (called k c t).table ≡ false → (m' : ℕ) × Coming m' cs (called k c t).table
  unfolding count
  passed_by m c cs t h u g = (m, come m m c cs t h (rw u h.nearing) (omega (arith, rw g at h.steps)))

  -- A step of its own: it is inside and stays there, or it comes nearer.
  stays_inside : (m : ℕ) (cs : List Call) (t : Table) → Coming m (Step i ∷ cs) t → place_of t i ≡ 10 → Coming 0 cs (called k (Step i) t).table
  stays_inside m cs t h p =
      come m 0 (Step i) cs t h
      (rw (unmoved k (Step i) t i (λ q b. b.1 p)) (record { low = omega arith; high = omega arith; left = rw p (omega arith) }))
      (omega arith)

  comes_nearer : (m : ℕ) (cs : List Call) (t : Table) → Coming (suc m) (Step i ∷ cs) t → place_of t i ≢ 10
      → Coming m cs (called k (Step i) t).table
  unfolding count turns_away step_of caller
  comes_nearer m cs t h p =
      let c = record_of t i in
      let t' = (called k (Step i) t).table in
      let l = h.nearing.low in
      let f = rows_formed h.sound i i-low i-high in
      let v = accepted h.sound (Step i) i-low i-high ((λ e. omega arith), p) in
      let way : Way i (record_of t) c (record_of t' i) =
      record {
        outside = p;
        own = refl;
        calm =
            λ o.
            decide (eqb o i)
            (λ e. rw (eqb-true o i e) (own_calm c f l (omega (arith, h.nearing.high))))
            (λ e. conflict_false (record_of t o).session c.want (h.unopposed.0 o (omega (arith, eqb-false o i e))));
        not_turned = λ a b. omega (arith, rw (eq-eqb (place_of t i) 4 a, eq-eqb (place_of t' i) 12 b) at h.not_turned_away);
      }
      in
      come (suc m) m (Step i) cs t h (nearer n k i m (record_of t) i-low i-high v.move f way h.nearing)
      (omega (arith, rw (eq-eqb i i refl) at h.steps))

  own_step : (m : ℕ) (cs : List Call) (t : Table) → Coming m (Step i ∷ cs) t → (m' : ℕ) × Coming m' cs (called k (Step i) t).table
  own_step zero cs t h =
      (0, stays_inside 0 cs t h (arrived (record_of t i) i-low i-high (rows_formed h.sound i i-low i-high) h.nearing))
  own_step (suc m) cs t h =
      decide (eqb (place_of t i) 10)
      (λ e. (0, stays_inside (suc m) cs t h (eqb-true (place_of t i) 10 e)))
      (λ e. (m, comes_nearer m cs t h (eqb-false (place_of t i) 10 e)))

  advance : (m : ℕ) (c : Call) (cs : List Call) (t : Table) → Coming m (c ∷ cs) t → (m' : ℕ) × Coming m' cs (called k c t).table
  unfolding count step_of caller
  advance m (Ask v s) cs t h = passed_by m (Ask v s) cs t h (unmoved k (Ask v s) t i (λ q b. omega (arith, h.nearing.low, b.0))) refl
  advance m (Leave v) cs t h =
      decide (leaves_in i (Leave v) t (called k (Leave v) t).table)
      (λ e. absurd (omega (arith, rw e at h.no_leave)))
      (λ e. passed_by m (Leave v) cs t h (not_left k t i v e) refl)
  advance m (Step v) cs t h =
      decide (eqb v i)
      (λ e. rw (eqb-true v i e) (own_step m cs t (rw (eqb-true v i e) at h)))
      (λ e. passed_by m (Step v) cs t h (unmoved k (Step v) t i (λ q b. eqb-false v i e q)) e)

  inside_by : (m : ℕ) (cs : List Call) (t : Table) → Coming m cs t → place_of (after k cs t) i ≡ 10
  unfolding count after
  inside_by m [] t h =
      let z : m ≡ 0 = omega (arith, h.steps) in
      arrived (record_of t i) i-low i-high (rows_formed h.sound i i-low i-high) (rw z at h.nearing)
  inside_by m (c ∷ cs) t h =
      let a = advance m c cs t h in
      inside_by a.0 cs (called k c t).table a.1

pub inside_soon : InsideSoon
unfolding InsideSoon
inside_soon n k calls t i s u =
    let p = u.asked in
    let h = has_number t i (omega arith) in
    inside_by n k i h.0 (omega (arith, h.1, s.length_is)) (most_steps n) calls t
    (record {
      sound = s;
      nearing = record { low = omega arith; high = omega arith; left = rw p (omega arith) };
      unopposed = u.nobody_conflicts;
      not_turned_away = u.not_turned_away;
      no_leave = u.no_leave;
      steps = u.steps;
    })
