-- A trial: a schedule run on a table that is opened for it, and what each entry left behind.
use Rattle.std.specs.Prelude.{ℕ, ◌*◌, List, [], ◌∷◌, ◌++◌, ltb, length, drop}
use Rattle.rules.specs.Tests.{◌when◌, Verdict, first, by_verdict}
use Rattle.rules.specs.Answers.{number_of}
use Rattle.rules.specs.Rules.{open_refusals}
use Rattle.rules.specs.Tables.{Table, opened, record_of}
use Rattle.rules.specs.declared.Claimant.{Claimant}
use Rattle.rules.specs.declared.Terms.{Terms}
use Rattle.rules.specs.declared.Answer.{Answer}
use Rattle.rules.specs.declared.Refusal.TheVariants.{NoRoom}
use Rattle.store.specs.Schedules.{claimant_in, decoded, entered}

abbrev pub terms_of : (ceiling : ℕ) → Terms
terms_of c = record { ceiling = c }

-- The claimant's place, Session, Choosing and Token after the entry, zeros if there is no such claimant, and the answer's number.
abbrev pub five : Claimant → Answer → List ℕ
five c a = c.place ∷ c.session ∷ c.choosing ∷ c.token ∷ number_of a ∷ []

-- Five numbers for each entry of the schedule.
unfoldable pub traced : Terms → (schedule : List ℕ) → Table → List ℕ
traced k [] t = []
traced k (e ∷ es) t =
    five (record_of (entered k (decoded e) t).table (claimant_in e)) (entered k (decoded e) t).answer ++
    traced k es (entered k (decoded e) t).table

-- 10 is given for a row of fewer than five numbers for each entry.
unfoldable pub trial_refusal : (claimants : ℕ) → Terms → (entries places : ℕ) → Verdict
trial_refusal n k m l = first (open_refusals n k ++ (NoRoom when ltb l (5 * m) ∷ []))

-- The numbers past the last entry's are as they were.
abbrev pub left_unless : Verdict → Terms → (schedule left : List ℕ) → Table → List ℕ
left_unless v k es ls t = by_verdict v (traced k es t ++ drop (5 * length es) ls) (λ r. ls)

unfoldable pub trial_left : (claimants ceiling : ℕ) → (schedule left : List ℕ) → List ℕ
trial_left n c es ls = left_unless (trial_refusal n (terms_of c) (length es) (length ls)) (terms_of c) es ls (opened n)

unfoldable pub trial_outcome : (claimants ceiling : ℕ) → (schedule left : List ℕ) → Verdict
trial_outcome n c es ls = trial_refusal n (terms_of c) (length es) (length ls)
