-- What a test tells: choices, conjunctions, refusals, and `conflict` and `before` as facts on numbers.
use mathlib.Core.Path.{◌≡◌, refl}
use mathlib.Core.Bool.{Bool, true, false, not}
use mathlib.Core.List.{List, [], ◌∷◌, ◌++◌}
use mathlib.Core.Logic.{◌≢◌, ◌⊎◌, inl, inr}
use Prim.Native.Nat.{ℕ, ◌≤◌, ◌<◌}
use native.Mathlib.Omega.{arith}
use lib.Dec.{eqb, leb, ltb}
pub use borrow.Table.Steps.{cases as decide}
use borrow.Author.Tests.{leb-true, eqb-true, eqb-false, ltb-true, not-true, le-leb, ne_eqb}
use Rattle.std.specs.Prelude.{Ok, Err}
use Rattle.std.proofs.lemmas.Result.{IfErr-at_err}
use Rattle.rules.specs.Tests.{◌and◌, ◌or◌, within, Listed, Verdict, first, by_verdict}
use Rattle.rules.specs.Answers.{refusal_number}
use Rattle.rules.specs.Rules.{conflict, before}
use Rattle.rules.specs.declared.Refusal.{Refusal}

pub both : (a b : Bool) → (a and b) ≡ true → (a ≡ true) × (b ≡ true)
both true b e = (refl, e)
both false b e = cc

pub either : (a b : Bool) → (a or b) ≡ true → (a ≡ true) ⊎ (b ≡ true)
either true b e = inl refl
either false b e = inr e

pub neither : (a b : Bool) → (a or b) ≡ false → (a ≡ false) × (b ≡ false)
neither true b e = cc
neither false b e = (refl, e)

pub within_true : (low high x : ℕ) → within low high x ≡ true → (low ≤ x) × (x ≤ high)
within_true low high x e =
    let h = both (leb low x) (leb x high) e in (leb-true low x h.0, leb-true x high h.1)

pub within_holds : (low high x : ℕ) → low ≤ x → x ≤ high → within low high x ≡ true
within_holds low high x h g = rw (le-leb low x h, le-leb x high g)

-- None of the refusals is given.
abbrev pub NoneGiven : List Listed → Type 0
NoneGiven [] = Unit {0}
NoneGiven (r ∷ rs) = (r.given ≡ false) × NoneGiven rs

pub none_given : (rs : List Listed) → first rs ≡ Ok tt → NoneGiven rs
unfolding first
none_given [] e = tt
none_given (r ∷ rs) e = decide r.given (λ g. cc (rw g at e)) (λ g. (g, none_given rs (rw g at e)))

pub none_refuses : (rs : List Listed) → NoneGiven rs → first rs ≡ Ok tt
unfolding first
none_refuses [] h = refl
none_refuses (r ∷ rs) h = rw h.0 (none_refuses rs h.1)

-- What the front of a list refuses is refused, and where it refuses nothing the rest decides.
pub first_append : (xs ys : List Listed) → first (xs ++ ys) ≡ by_verdict (first xs) (first ys) Err
unfolding first
first_append [] ys = refl
first_append (r ∷ rs) ys = decide r.given (λ g. rw g) (λ g. rw g (first_append rs ys))

-- No refusal of the list has a number of 01's over m.
abbrev pub Numbered : (m : ℕ) → List Listed → Type 0
Numbered m [] = Unit {0}
Numbered m (r ∷ rs) = (refusal_number r.refusal ≤ m) × Numbered m rs

pub first_small : (m : ℕ) (rs : List Listed) → Numbered m rs → (r : Refusal) → first rs ≡ Err r → refusal_number r ≤ m
unfolding first
first_small m [] p r e = cc
first_small m (x ∷ rs) p r e =
    decide x.given
    (λ g. IfErr-at_err (λ y. refusal_number y ≤ m) (rw g at e) p.0)
    (λ g. first_small m rs p.1 r (rw g at e))

by_first : {A : Type 0} (P : A → Type 0) (a : A) (f : Refusal → A) (rs : List Listed) → (NoneGiven rs → P a)
    → (¬ (NoneGiven rs) → (r : Refusal) → first rs ≡ Err r → P (f r)) → (v : Verdict) → first rs ≡ v → P (by_verdict v a f)
by_first P a f rs p q (Ok u) e = p (none_given rs e)
by_first P a f rs p q (Err r) e = q (λ h. cc (none_refuses rs h)) r e

-- A judgement by refusals: the one if none is given, and else what the first that is given says.
pub judged : {A : Type 0} (P : A → Type 0) (a : A) (f : Refusal → A) (rs : List Listed) → (NoneGiven rs → P a)
    → (¬ (NoneGiven rs) → (r : Refusal) → first rs ≡ Err r → P (f r)) → P (by_verdict (first rs) a f)
judged P a f rs p q = by_first P a f rs p q (first rs) refl

pub record Conflict (s t : ℕ) : Type 0 where
  pub some : 1 ≤ s
  pub others : 1 ≤ t
  pub differ : s ≢ t

pub conflict_true : (s t : ℕ) → conflict s t ≡ true → Conflict s t
unfolding conflict
conflict_true s t e =
    let h = both (leb 1 s) (leb 1 t and not (eqb s t)) e in
    let g = both (leb 1 t) (not (eqb s t)) h.1 in
    record {
      some = leb-true 1 s h.0;
      others = leb-true 1 t g.0;
      differ = eqb-false s t (not-true (eqb s t) g.1);
    }

conflict_holds : {s t : ℕ} → Conflict s t → conflict s t ≡ true
unfolding conflict
conflict_holds {s} {t} c = rw (le-leb 1 s c.some, le-leb 1 t c.others, ne_eqb s t c.differ)

pub conflict_false : (s t : ℕ) → conflict s t ≡ false → ¬ (Conflict s t)
conflict_false s t e c = cc (conflict_holds c)

-- (token, number) is below (token', number').
pub record Before (t i u j : ℕ) : Type 0 where
  pub token : t ≤ u
  pub number : u ≤ t → i < j

pub before_true : (t i u j : ℕ) → before t i u j ≡ true → Before t i u j
unfolding before
before_true t i u j e = elim (either (ltb t u) (eqb t u and ltb i j) e) [
  | inl h ↦ let l = ltb-true t u h in record { token = omega arith; number = omega arith }
  | inr h ↦
      let g = both (eqb t u) (ltb i j) h in
      let q = eqb-true t u g.0 in
      let l = ltb-true i j g.1 in
      record { token = omega arith; number = omega arith }
]
