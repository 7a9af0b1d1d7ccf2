-- Overtaking in a run: whoever is behind claimant i at one entry, while i waits, is behind it at the next, and does not get inside by it.
use mathlib.Core.Path.{◌≡◌, refl, sym, ap, ◌∙◌}
use mathlib.Core.Logic.{◌≢◌, inl, inr}
use Prim.Native.Nat.{ℕ, zero, suc, ◌≤◌, ◌<◌}
use native.Mathlib.Omega.{arith}
use lib.Dec.{eqb, leb}
use borrow.Author.Tests.{eqb-true, eqb-false, leb-true, leb-false}
use Rattle.rules.specs.Tables.{Table, record_of}
use Rattle.rules.specs.declared.Claimant.{Claimant}
use Rattle.rules.proofs.Choices.{decide, conflict_true}
use Rattle.promises.specs.Sequences.{place_of}
use Rattle.promises.specs.Runs.{FreshRun, table_at, WaitsInRun, OvertakesInRun, RunOvertakenOnce, RunOvertakenByEarlier}
use Rattle.promises.proofs.Lateness.{Late, apart}
use Rattle.promises.proofs.Steps.{unmoved}
use Rattle.promises.proofs.Overtaking.{Overtakes, lags_called, stays_behind}
use Rattle.promises.proofs.Runs.{sound_at, one_call}

module _ (r : FreshRun) (m p i j : ℕ) (w : WaitsInRun r m p i) where
  abbrev LateAt : ℕ → Type 0
  LateAt x = Late i (record_of (table_at r x) i) (record_of (table_at r x) j)

  late_on : (x : ℕ) → m < x → x < p → LateAt x → LateAt (suc x) × ¬ (Overtakes i j (table_at r x) (table_at r (suc x)))
  late_on x a b f =
      let t = table_at r x in
      let s = sound_at r x in
      let here = w.waiting x a (omega arith) in
      let there = w.waiting (suc x) (omega arith) b in
      elim (one_call r x) [
        | inl h ↦
            let q = rw h.1 at there in
            rw h.1
            ((lags_called r.claimants r.terms i j h.0 t s here q f).late, stays_behind r.claimants r.terms i j h.0 t s here q f)
        | inr h ↦ rw h (f, λ o. o.outside o.inside)
      ]

  late_by : (x y : ℕ) → m < x → x ≤ y → y ≤ p → LateAt x → LateAt y
  late_by x zero a b c f = absurd (omega arith)
  late_by x (suc y) a b c f =
      decide (eqb x (suc y))
      (λ e. rw (← eqb-true x (suc y) e) f)
      (λ e.
      let n = eqb-false x (suc y) e in
      (late_on y (omega arith) (omega arith) (late_by x y a (omega arith) (omega arith) f)).0)

  -- One that is late after some entry overtakes at none after it.
  never : (x q : ℕ) → m < x → x ≤ q → LateAt x → ¬ (OvertakesInRun r m p i j q)
  never x q a b f o =
      (late_on q o.later o.meanwhile (late_by x q a b (omega (arith, o.meanwhile)) f)).1
      (record {
        outside = o.outside;
        inside = o.inside;
        odds = conflict_true (record_of (table_at r (suc q)) i).session (record_of (table_at r (suc q)) j).session o.odds;
      })

  -- Right after it got inside it is late; so it is right after its sign, or before it.
  inside_late : (q : ℕ) → OvertakesInRun r m p i j q → LateAt (suc q)
  inside_late q o x = apart (omega (arith, o.inside))

  not_twice : (q q' : ℕ) → OvertakesInRun r m p i j q → OvertakesInRun r m p i j q' → ¬ (q < q')
  not_twice q q' o o' l = never (suc q) q' (omega (arith, o.later)) l (inside_late q o) o'

  -- The entry that ends claimant i's doorway leaves every other record alone.
  other_kept : j ≢ i → record_of (table_at r (suc m)) j ≡ record_of (table_at r m) j
  other_kept d =
      let t = table_at r m in
      let l = w.lowering in
      elim (one_call r m) [
        | inl h ↦
            let c = h.0 in
            rw h.1
            (unmoved r.terms c t j
            (λ q b.
            let same = ap (λ (x : Claimant). x.place) (unmoved r.terms c t i (λ q' b'. d (sym q ∙ q'))) in
            omega (arith, l.starts, l.ends, ap (λ (x : Table). place_of x i) h.1, same)))
        | inr h ↦ rw h refl
      ]

  signed : (q : ℕ) → OvertakesInRun r m p i j q → 2 ≤ place_of (table_at r m) j
  signed q o =
      decide (leb 2 (place_of (table_at r m) j))
      (λ e. leb-true 2 (place_of (table_at r m) j) e)
      (λ e.
      let l = leb-false 2 (place_of (table_at r m) j) e in
      let d : j ≢ i = λ z. omega (arith, w.lowering.starts, ap (λ (x : ℕ). place_of (table_at r m) x) z) in
      let k = ap (λ (x : Claimant). x.place) (other_kept d) in
      absurd (never (suc m) q (omega arith) o.later (λ x. apart (omega arith)) o))

pub run_overtaken_once : RunOvertakenOnce
unfolding RunOvertakenOnce
run_overtaken_once r m p i j q q' w o o' =
    let a = not_twice r m p i j w q q' o o' in
    let b = not_twice r m p i j w q' q o' o in
    omega arith

pub run_overtaken_by_earlier : RunOvertakenByEarlier
unfolding RunOvertakenByEarlier
run_overtaken_by_earlier r m p i j q w o =
    record {
      signed = signed r m p i j w q o;
      not_anew = λ x a b g. never r m p i j w (suc x) q (omega arith) b (λ y. apart (omega (arith, g.ends))) o;
    }
