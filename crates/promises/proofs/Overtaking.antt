-- While claimant i waits, each other claimant gets inside under a conflicting session at most once, and only on an earlier claim.
use mathlib.Core.Path.{◌≡◌, refl, ap}
use mathlib.Core.Bool.{true, false, not}
use mathlib.Core.List.{List, [], ◌∷◌, ◌++◌}
use mathlib.Core.Logic.{◌≢◌}
use Prim.Native.Nat.{ℕ, ◌≤◌}
use native.Mathlib.Omega.{arith}
use lib.Dec.{eqb, leb}
use borrow.Author.Tests.{eqb-true, eqb-false, leb-true, leb-false, not-true}
use Rattle.rules.specs.Tests.{◌and◌}
use Rattle.rules.specs.Tables.{Table, opened, record_of, caller, called, after, Sound}
use Rattle.rules.specs.declared.Claimant.{Claimant}
use Rattle.rules.specs.declared.Terms.{Terms}
use Rattle.rules.specs.declared.Call.{Call}
use Rattle.rules.specs.declared.Call.TheVariants.{Step}
use Rattle.rules.proofs.Choices.{decide, both, Conflict, conflict_true}
use Rattle.rules.proofs.Shapes.{registers}
use Rattle.rules.proofs.Calls.{next}
use Rattle.rules.proofs.Rows.{after_append, has_number, opened_sound, rows_formed}
use Rattle.rules.proofs.Keeping.{sound_called, sound_after}
use Rattle.promises.specs.Sequences.{place_of, at_odds, count, Throughout}
use Rattle.promises.specs.Fairness.{overtakes, signs, doorway_ended, OvertakenOnce, OvertakenByEarlier}
use Rattle.promises.proofs.Lateness.{Late, Lags, apart, lags_next}
use Rattle.promises.proofs.Steps.{unmoved, at_once, counted}

-- What it says that a call overtakes: a claimant's Session is its want, waiting and inside.
pub record Overtakes (i j : ℕ) (t t' : Table) : Type 0 where
  pub outside : place_of t j ≢ 10
  pub inside : place_of t' j ≡ 10
  pub odds : Conflict (record_of t' i).session (record_of t' j).session

does_overtake : (i j : ℕ) (c : Call) (t t' : Table) → overtakes i j c t t' ≡ true → Overtakes i j t t'
unfolding overtakes
does_overtake i j c t t' e =
    let f = both (not (eqb (place_of t j) 10)) (eqb (place_of t' j) 10 and at_odds t' i j) e in
    let g = both (eqb (place_of t' j) 10) (at_odds t' i j) f.1 in
    record {
      outside = eqb-false (place_of t j) 10 (not-true (eqb (place_of t j) 10) f.0);
      inside = eqb-true (place_of t' j) 10 g.0;
      odds = conflict_true (record_of t' i).session (record_of t' j).session g.1;
    }

session_is_want : {n : ℕ} {k : Terms} {t : Table} (i : ℕ) → Sound n k t → 2 ≤ place_of t i → place_of t i ≤ 10
    → (record_of t i).session ≡ (record_of t i).want
session_is_want {t} i s a b =
    let h = has_number t i (omega arith) in
    (registers (rows_formed s i h.0 (omega (arith, h.1, s.length_is)))).session a b

module _ (n : ℕ) (k : Terms) (i j : ℕ) where
  abbrev WaitingIn : Table → Type 0
  WaitingIn t = (6 ≤ place_of t i) × (place_of t i ≤ 9)

  abbrev LateIn : Table → Type 0
  LateIn t = Late i (record_of t i) (record_of t j)

  pub lags_called : (c : Call) (t : Table) → Sound n k t → WaitingIn t → WaitingIn (called k c t).table → LateIn t
      → Lags i (record_of (called k c t).table i) (record_of t j) (record_of (called k c t).table j)
  lags_called c t s p q f =
      let t' = (called k c t).table in
      let h = has_number t i (omega arith) in
      decide (eqb i j)
      (λ e.
      let no : ¬ (Conflict (record_of t' i).want (record_of t' j).want) = λ x. x.differ (ap (λ (w : ℕ). (record_of t' w).want) (eqb-true i j e)) in
      record { late = λ x. absurd (no x); outside = λ a b. no })
      (λ e.
      lags_next i j h.0 (omega (arith, h.1, s.length_is)) (eqb-false i j e) (rw s.length_is at (next k c t)) p q f)

  -- One that is late does not overtake.
  pub stays_behind : (c : Call) (t : Table) → Sound n k t → WaitingIn t → WaitingIn (called k c t).table → LateIn t
      → ¬ (Overtakes i j t (called k c t).table)
  stays_behind c t s p q f o =
      let s' = sound_called c s in
      let l = o.inside in
      (lags_called c t s p q f).outside o.outside o.inside
      (rw (session_is_want i s' (omega arith) (omega arith), session_is_want j s' (omega arith) (omega arith)) at o.odds)

  not_overtaken : (c : Call) (t : Table) → Sound n k t → WaitingIn t → WaitingIn (called k c t).table → LateIn t
      → overtakes i j c t (called k c t).table ≡ false
  not_overtaken c t s p q f =
      let t' = (called k c t).table in
      decide (overtakes i j c t t') (λ e. absurd (stays_behind c t s p q f (does_overtake i j c t t' e))) (λ e. e)

  late_never : (cs : List Call) (t : Table) → Sound n k t → Throughout WaitingIn k cs t → LateIn t → count (overtakes i j) k cs t ≡ 0
  unfolding count
  late_never [] t s h f = refl
  late_never (c ∷ cs) t s h f =
      let q = at_once WaitingIn k cs (called k c t).table h.1 in
      rw (not_overtaken c t s h.0 q f)
      (omega (arith, late_never cs (called k c t).table (sound_called c s) h.1 (lags_called c t s h.0 q f).late))

  once : (cs : List Call) (t : Table) → Sound n k t → Throughout WaitingIn k cs t → count (overtakes i j) k cs t ≤ 1
  unfolding count
  once [] t s h = omega arith
  once (c ∷ cs) t s h =
      let t' = (called k c t).table in
      decide (overtakes i j c t t')
      (λ e.
      let p = (does_overtake i j c t t' e).inside in
      rw e (omega (arith, late_never cs t' (sound_called c s) h.1 (λ x. apart (omega arith)))))
      (λ e. rw e (omega (arith, once cs t' (sound_called c s) h.1)))

  -- Nor at any later call.
  not_later : (first : List Call) (c : Call) (rest : List Call) (t : Table) → Sound n k t → Throughout WaitingIn k (first ++ c ∷ rest) t
      → overtakes i j c (after k first t) (called k c (after k first t)).table ≡ true → ¬ (LateIn t)
  not_later first c rest t s h e f =
      omega (arith, counted (overtakes i j) k first c rest t e, late_never (first ++ c ∷ rest) t s h f)

  not_anew : (first : List Call) (c : Call) (rest : List Call) (t : Table) → Sound n k t → Throughout WaitingIn k (first ++ c ∷ rest) t
      → overtakes i j c (after k first t) (called k c (after k first t)).table ≡ true → count (signs j) k first t ≡ 0
  unfolding after count signs
  not_anew [] c rest t s h e = refl
  not_anew (x ∷ first) c rest t s h e =
      let t' = (called k x t).table in
      let s' = sound_called x s in
      decide (signs j x t t')
      (λ g.
      let p = eqb-true (place_of t' j) 2 (both (eqb (place_of t j) 1) (eqb (place_of t' j) 2) g).1 in
      absurd (not_later first c rest t' s' h.1 e (λ y. apart (omega arith))))
      (λ g. rw g (omega (arith, not_anew first c rest t' s' h.1 e)))

pub overtaken_once : OvertakenOnce
unfolding OvertakenOnce
overtaken_once n k o earlier later i j w =
    omega (arith, once n k i j later (doorway_ended n k earlier i) (sound_after (earlier ++ Step i ∷ []) (opened_sound n k o)) w.waiting)

pub overtaken_by_earlier : OvertakenByEarlier
unfolding OvertakenByEarlier after caller
overtaken_by_earlier n k o earlier first c rest i j w e =
    let t = after k earlier (opened n) in
    let t' = doorway_ended n k earlier i in
    let s' = sound_after (earlier ++ Step i ∷ []) (opened_sound n k o) in
    record {
      signed =
          decide (leb 2 (place_of t j))
          (λ h. omega (arith, leb-true 2 (place_of t j) h))
          (λ h.
          let l = leb-false 2 (place_of t j) h in
          let u = unmoved k (Step i) t j (λ q b. omega (arith, w.lowering, ap (λ (x : ℕ). place_of t x) q)) in
          let v : place_of t' j ≡ place_of t j =
          rw (after_append k earlier (Step i ∷ []) (opened n)) (ap (λ (d : Claimant). d.place) u) in
          absurd (not_later n k i j first c rest t' s' w.waiting e (λ x. apart (omega arith))));
      not_anew = not_anew n k i j first c rest t' s' w.waiting e;
    }
