-- The standing of one claimant against another: who goes first.
use Rattle.std.specs.Prelude.{ℕ, Bool, not, [], ◌∷◌, eqb, leb, length, ℤ, pos, ◌-ℤ◌, Result, Ok, Err}
use Rattle.rules.specs.Tests.{pick, ◌and◌, within, ◌when◌, Verdict, first, by_verdict}
use Rattle.rules.specs.Rules.{conflict, refusals}
use Rattle.rules.specs.Tables.{Table, record_of, all_well_formed}
use Rattle.rules.specs.declared.Claimant.{Claimant}
use Rattle.rules.specs.declared.Terms.{Terms}
use Rattle.rules.specs.declared.Refusal.{Refusal}
use Rattle.rules.specs.declared.Refusal.TheVariants.{NoClaimant}

-- Two claims stand against each other if both have a token and their sessions conflict.
unfoldable pub opposed : Claimant → Claimant → Bool
opposed c d = leb 1 c.token and leb 1 d.token and conflict c.session d.session

-- Then it is the difference of the tokens and, where these are equal, of the numbers; else it is 0.
unfoldable pub stands : (a b : ℕ) → Claimant → Claimant → ℤ
stands a b c d =
    pick (opposed c d) (pick (eqb c.token d.token) (pos a -ℤ pos b) (pos c.token -ℤ pos d.token)) (pos 0)

-- Refusal 4 is for either number.
unfoldable pub standing_refusal : (n : ℕ) → Terms → (a b : ℕ) → (broken : Bool) → Verdict
standing_refusal n k a b broken = first (refusals n k a broken (NoClaimant when not (within 1 n b) ∷ []))

unfoldable pub standing_on : (n : ℕ) → Terms → (a b : ℕ) → (broken : Bool) → Claimant → Claimant → Result ℤ Refusal
standing_on n k a b broken c d = by_verdict (standing_refusal n k a b broken) (Ok (stands a b c d)) Err

unfoldable pub standing_of : Terms → (a b : ℕ) → Table → Result ℤ Refusal
standing_of k a b t = standing_on (length t) k a b (not (all_well_formed (length t) k t)) (record_of t a) (record_of t b)
