-- Tests, choices and lists of refusals: what the definitions are written with.
use Rattle.std.specs.Prelude.{Bool, true, false, List, [], ◌∷◌, ℕ, leb, Result, Ok, Err}
use Rattle.rules.specs.declared.Refusal.{Refusal}

abbrev pub pick {ℓ} : {A : Type ℓ} → Bool → A → A → A
pick true a b = a
pick false a b = b

abbrev pub ◌and◌ : Bool → Bool → Bool
◌and◌ true b = b
◌and◌ false b = false

abbrev pub ◌or◌ : Bool → Bool → Bool
◌or◌ true b = true
◌or◌ false b = b

infixr 30 ◌and◌
infixr 20 ◌or◌
-- low ≤ x ≤ high
abbrev pub within : ℕ → ℕ → ℕ → Bool
within low high x = leb low x and leb x high

-- One line of 01's table of refusals: which it is, and whether it is given.
pub record Listed : Type 0 where
  pub refusal : Refusal
  pub given : Bool

abbrev pub ◌when◌ : Refusal → Bool → Listed
◌when◌ r b = record { refusal = r; given = b }

infix 70 ◌when◌
-- All is well, or a refusal.
abbrev pub Verdict : Type 0
Verdict = Result (Unit {0}) Refusal

-- The first refusal that is given decides; where none is, all is well.
unfoldable pub first : List Listed → Verdict
first [] = Ok tt
first (r ∷ rs) = pick r.given (Err r.refusal) (first rs)

-- What comes of a verdict: the one thing where nothing is refused, and another for each refusal.
abbrev pub by_verdict {ℓ} : {A : Type ℓ} → Verdict → A → (Refusal → A) → A
by_verdict (Ok u) a f = a
by_verdict (Err r) a f = f r
