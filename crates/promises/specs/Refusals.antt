-- Demand 1: which refusal is given, and that it leaves all that was lent as it was.
use Rattle.std.specs.Prelude.{ℕ, ◌+◌, ◌≤◌, not, List, [], ◌∷◌, ◌↔◌, ◌≡◌, eqb, length, ℤ, Result, Err}
use Rattle.rules.specs.Tests.{◌or◌, within, Listed, ◌when◌, Verdict, first}
use Rattle.rules.specs.Places.{is_session}
use Rattle.rules.specs.Answers.{refusal_number, number_of, byte_of}
use Rattle.rules.specs.Rules.{open_refusals, ask_refusals, asked, step_refusals, step_taken, leave_refusals, left}
use Rattle.rules.specs.Tables.{Table, all_well_formed, caller, called}
use Rattle.rules.specs.declared.Claimant.{Claimant}
use Rattle.rules.specs.declared.Terms.{Terms}
use Rattle.rules.specs.declared.Call.{Call}
use Rattle.rules.specs.declared.Call.TheVariants.{Ask, Step, Leave}
use Rattle.rules.specs.declared.Refusal.{Refusal}
use Rattle.rules.specs.declared.Refusal.TheVariants.{RowCount, NoCeiling, Broken, NoClaimant, NoSession, NotAtRest, NotInside, NoStep, NoCall}
use Rattle.rules.specs.declared.Answer.{Answer}
use Rattle.rules.specs.declared.Answer.TheVariants.{Refused}
use Rattle.store.specs.Schedules.{is_nine, call_of, decoded, entered}
use Rattle.store.specs.Runs.{open_refusal, opening, run_refusal, running}
use Rattle.store.specs.Trials.{terms_of, trial_refusal, trial_left, trial_outcome}
use Rattle.store.specs.Standings.{standing_refusal, standing_of}
use Rattle.store.specs.Answers.{outcome_number, standing_number}
use Rattle.promises.specs.Sequences.{place_of}

-- Refused by this list: with the first of it that is given, and with no other; and then what was lent is as it was.
pub record RefusedBy (list : List Listed) (answer : Answer) (AsItWas : Type 0) : Type 0 where
  pub exactly : (r : Refusal) → answer ≡ Refused r ↔ first list ≡ Err r
  pub unchanged : (r : Refusal) → answer ≡ Refused r → AsItWas

-- The three rules, on one record.
unfoldable pub AskRefused : Type 0
AskRefused =
    (n : ℕ) (k : Terms) (number session : ℕ) (c : Claimant) →
    let r = asked n k number session c in
    RefusedBy (ask_refusals n k number session c) r.answer (r.after ≡ c)

unfoldable pub StepRefused : Type 0
StepRefused =
    (n : ℕ) (k : Terms) (number v : ℕ) (c : Claimant) →
    let r = step_taken n k number v c in
    RefusedBy (step_refusals n k number v c) r.answer (r.after ≡ c)

unfoldable pub LeaveRefused : Type 0
LeaveRefused =
    (n : ℕ) (k : Terms) (number : ℕ) (c : Claimant) →
    let r = left n k number c in
    RefusedBy (leave_refusals n k number c) r.answer (r.after ≡ c)

-- What only this call refuses, with the caller at this place: an ask session 0 and a place that is not 0, a leave a place that is not 10,
-- a step 0 and 10.
abbrev pub own_refusals : Call → (place : ℕ) → List Listed
own_refusals (Ask w s) p = NoSession when not (is_session s) ∷ NotAtRest when not (eqb p 0) ∷ []
own_refusals (Leave w) p = NotInside when not (eqb p 10) ∷ []
own_refusals (Step w) p = NoStep when (eqb p 0 or eqb p 10) ∷ []

-- What a call on a table refuses, in 01's order: row length 0 or over 64, ceiling 0, table not well-formed, claimant 0 or above N, and then its own.
abbrev pub call_refusals : Terms → Call → Table → List Listed
call_refusals k c t =
    RowCount when not (within 1 64 (length t)) ∷
    NoCeiling when eqb k.ceiling 0 ∷
    Broken when not (all_well_formed (length t) k t) ∷
    NoClaimant when not (within 1 (length t) (caller c)) ∷
    own_refusals c (place_of t (caller c))

unfoldable pub CallRefused : Type 0
CallRefused =
    (k : Terms) (c : Call) (t : Table) →
    let d = called k c t in
    RefusedBy (call_refusals k c t) d.answer (d.table ≡ t)

-- In an entry 9 comes before 4. (1, 2 and 3 are the run's, before any entry.)
abbrev pub entry_refusals : Terms → (entry : ℕ) → Table → List Listed
entry_refusals k e t = NoCall when is_nine e ∷ call_refusals k (call_of e) t

unfoldable pub EntryRefused : Type 0
EntryRefused =
    (k : Terms) (e : ℕ) (t : Table) →
    let d = entered k (decoded e) t in
    RefusedBy (entry_refusals k e t) d.answer (d.table ≡ t)

-- An entry refused with r answers 32 + 01's number of r, by number and by the byte that a run writes.
unfoldable pub RefusedAnswers : Type 0
RefusedAnswers =
    (k : Terms) (e : ℕ) (t : Table) (r : Refusal) →
    let a = (entered k (decoded e) t).answer in
    a ≡ Refused r →
    (number_of a ≡ 32 + refusal_number r) × (byte_of a ≡ 32 + refusal_number r)

-- No answer passes 41, of a call or of an entry; so its byte is 01's number.
pub record InByte (a : Answer) : Type 0 where
  pub most : number_of a ≤ 41
  pub byte : byte_of a ≡ number_of a

unfoldable pub CallAnswers : Type 0
CallAnswers = (k : Terms) (c : Call) (t : Table) → InByte (called k c t).answer

unfoldable pub EntryAnswers : Type 0
EntryAnswers = (k : Terms) (e : ℕ) (t : Table) → InByte (entered k (decoded e) t).answer

-- The same of openings, runs and trials, whose lists stand with their definitions: the outcome is what the list decides, and its number that of the
-- first refusal given, 0 for none.
pub record OutcomeBy (decided outcome : Verdict) (AsItWas : Type 0) : Type 0 where
  pub exactly : outcome ≡ decided
  pub number : outcome_number outcome ≡ outcome_number decided
  pub unchanged : (r : Refusal) → outcome ≡ Err r → AsItWas

unfoldable pub OpeningRefused : Type 0
OpeningRefused =
    (k : Terms) (t : Table) →
    OutcomeBy (first (open_refusals (length t) k)) (open_refusal (length t) k) (opening k t ≡ t)

unfoldable pub RunRefused : Type 0
RunRefused =
    (k : Terms) (schedule row : List ℕ) (t : Table) →
    let ran = running k schedule row t in
    OutcomeBy (run_refusal (length t) k (not (all_well_formed (length t) k t)) (length schedule) (length row)) ran.outcome
    ((ran.rows ≡ t) × (ran.answers ≡ row))

unfoldable pub TrialRefused : Type 0
TrialRefused =
    (claimants ceiling : ℕ) (schedule left : List ℕ) →
    OutcomeBy (trial_refusal claimants (terms_of ceiling) (length schedule) (length left)) (trial_outcome claimants ceiling schedule left)
    (trial_left claimants ceiling schedule left ≡ left)

-- A standing is lent nothing to change.
pub record StandingBy (decided : Verdict) (standing : Result ℤ Refusal) : Type 0 where
  pub exactly : (r : Refusal) → standing ≡ Err r ↔ decided ≡ Err r
  pub number : standing_number standing ≡ outcome_number decided

unfoldable pub StandingRefused : Type 0
StandingRefused =
    (k : Terms) (a b : ℕ) (t : Table) →
    StandingBy (standing_refusal (length t) k a b (not (all_well_formed (length t) k t))) (standing_of k a b t)
