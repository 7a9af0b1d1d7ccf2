-- A refusal is the first of 01's list that is given, and leaves all that was lent as it was.
use mathlib.Core.Path.{◌≡◌, refl, sym, ap, ◌∙◌}
use mathlib.Core.Bool.{Bool, true, false, not}
use mathlib.Core.List.{List, []}
use Prim.Native.Nat.{ℕ, ◌-◌, ◌≤◌}
use native.Mathlib.Omega.{arith}
use lib.Dec.{eqb, ltb}
use lib.ListN.{length, set}
use borrow.Author.Tests.{not-false}
use Rattle.std.specs.Prelude.{ℤ, Ok, Err}
use Rattle.rules.specs.Tests.{pick, ◌and◌, ◌or◌, Listed, Verdict, first, by_verdict}
use Rattle.rules.specs.Answers.{number_of}
use Rattle.rules.specs.Records.{placed, with_want}
use Rattle.rules.specs.Places.{place_at, well_formed}
use Rattle.rules.specs.declared.Place.{Place}
use Rattle.rules.specs.declared.Place.TheVariants.{Rest, Sign, Raise, Scan, Take, Lower, SeeChoosing, SeeSession, SeeToken, SeeAgain, Inside}
use Rattle.rules.specs.declared.Place.TheVariants.{DropToken, DropSession, Nowhere}
use Rattle.rules.specs.Rules.{conflict, before, reads, holds, reached, refused, refusals, unless, stepped, ask_refusals, asked, step_refusals}
use Rattle.rules.specs.Rules.{step_taken, leave_refusals, left}
use Rattle.rules.specs.Tables.{Table, record_of, row_read, value_read, all_well_formed, caller, turn, Called, unless_refused, table_refusal, called}
use Rattle.rules.specs.Tables.{Sound}
use Rattle.rules.specs.declared.Claimant.{Claimant}
use Rattle.rules.specs.declared.Terms.{Terms}
use Rattle.rules.specs.declared.Turn.{Turn}
use Rattle.rules.specs.declared.Call.{Call}
use Rattle.rules.specs.declared.Call.TheVariants.{Ask, Step, Leave}
use Rattle.rules.specs.declared.Refusal.{Refusal}
use Rattle.rules.specs.declared.Refusal.TheVariants.{NoCall}
use Rattle.rules.specs.declared.Answer.{Answer}
use Rattle.rules.specs.declared.Answer.TheVariants.{Refused}
use Rattle.rules.proofs.Choices.{decide, none_refuses, first_append, judged}
use Rattle.rules.proofs.Shapes.{well_formed_lem}
use Rattle.rules.proofs.Rows.{same_record, rows_formed, any_bounds}
use Rattle.rules.proofs.Calls.{shared_none, first_own, value_holds, answer_small}
use Rattle.store.specs.Schedules.{is_nine, call_of, decoded, entered}
use Rattle.store.specs.Runs.{opening, ran_unless, running}
use Rattle.store.specs.Trials.{trial_left, trial_outcome}
use Rattle.store.specs.Standings.{standing_on, standing_of}
use Rattle.store.specs.Answers.{outcome_number}
use Rattle.store.proofs.Laws.{entry_is, entry_answer_small}
use Rattle.promises.specs.Sequences.{place_of}
use Rattle.promises.specs.OneRegister.{Accepted}
use Rattle.promises.specs.Refusals.{RefusedBy, AskRefused, StepRefused, LeaveRefused, own_refusals, call_refusals, CallRefused, EntryRefused}
use Rattle.promises.specs.Refusals.{RefusedAnswers, InByte, CallAnswers, EntryAnswers, OutcomeBy, OpeningRefused, RunRefused, TrialRefused}
use Rattle.promises.specs.Refusals.{StandingBy, StandingRefused}

-- An answer that refuses, and one that does not.
refused_with : {list : List Listed} {A : Type 0} (r : Refusal) → first list ≡ Err r → A → RefusedBy list (Refused r) A
refused_with r e a = record { exactly = λ x. ((λ q. cc), λ q. cc); unchanged = λ x q. a }

accepted_with : {list : List Listed} {A : Type 0} {a : Answer} → first list ≡ Ok tt → Accepted a → RefusedBy list a A
accepted_with e h = record { exactly = λ x. ((λ q. absurd (rw q at h)), λ q. cc); unchanged = λ x q. absurd (rw q at h) }

-- The same refusal by another list, and what comes of it.
by_another : {list other : List Listed} {a : Answer} {A B : Type 0} → first other ≡ first list → (A → B) → RefusedBy list a A → RefusedBy other a B
by_another e f h = record { exactly = λ r. rw e (h.exactly r); unchanged = λ r q. f (h.unchanged r q) }

-- A rule: a turn that is accepted unless the list refuses it.
by_list : (list : List Listed) (c : Claimant) (t : Turn) → Accepted t.answer
    → RefusedBy list (unless (first list) c t).answer ((unless (first list) c t).after ≡ c)
unfolding unless
by_list list c t h =
    judged (λ r. RefusedBy list r.answer (r.after ≡ c)) t (refused c) list
    (λ g. accepted_with (none_refuses list g) h)
    (λ n r e. refused_with r e refl)

picked : (b : Bool) (x y : Turn) → Accepted x.answer → Accepted y.answer → Accepted (pick b x y).answer
picked true x y h g = h
picked false x y h g = g

step_accepted : (p : Place) (n : ℕ) (k : Terms) (i v : ℕ) (c : Claimant) → Accepted (stepped p n k i v c).answer
unfolding stepped
step_accepted Rest n k i v c = tt
step_accepted Sign n k i v c = tt
step_accepted Raise n k i v c = tt
step_accepted Scan n k i v c = picked (eqb c.other n) _ _ tt tt
step_accepted Take n k i v c = picked (ltb c.seen k.ceiling) _ _ tt tt
step_accepted Lower n k i v c = tt
step_accepted SeeChoosing n k i v c = tt
step_accepted SeeSession n k i v c = tt
step_accepted SeeToken n k i v c = picked (eqb v 0 or before c.token i v c.other) _ _ tt tt
step_accepted SeeAgain n k i v c = picked (conflict v c.want) _ _ tt tt
step_accepted Inside n k i v c = tt
step_accepted DropToken n k i v c = tt
step_accepted DropSession n k i v c = tt
step_accepted Nowhere n k i v c = tt

pub ask_refused : AskRefused
unfolding AskRefused asked
ask_refused n k i s c = by_list (ask_refusals n k i s c) c (reached (placed 1 (with_want s c))) tt

pub step_refused : StepRefused
unfolding StepRefused step_taken
step_refused n k i v c =
    by_list (step_refusals n k i v c) c (stepped (place_at c.place) n k i v c) (step_accepted (place_at c.place) n k i v c)

pub leave_refused : LeaveRefused
unfolding LeaveRefused left
leave_refused n k i c = by_list (leave_refusals n k i c) c (reached (placed 11 c)) tt

-- A call of one that has a row in a sound table: its rule refuses on the record what the list for the table refuses, its own refusals alone.
module _ (k : Terms) (t : Table) (s : Sound (length t) k t) (w : ℕ) (a : 1 ≤ w) (b : w ≤ length t) where
  on_table : {broken : Bool} (own : List Listed) (r : Turn) → broken ≡ false
      → RefusedBy (refusals (length t) k w broken own) r.answer (r.after ≡ record_of t w)
      → RefusedBy (refusals (length t) k w (not (all_well_formed (length t) k t)) own) r.answer (set t (w - 1) r.after ≡ t)
  on_table own r e h =
      by_another
      (first_own own s.opens a b (ap not s.well_formed) ∙ sym (first_own own s.opens a b e))
      (λ q. rw q (same_record t w a))
      h

  fine : well_formed (length t) k (record_of t w) ≡ true
  fine = well_formed_lem (rows_formed s w a b)

on_turn : (k : Terms) (call : Call) (t : Table) → Sound (length t) k t → 1 ≤ caller call → caller call ≤ length t
    → RefusedBy (call_refusals k call t) (turn k call t).answer (set t (caller call - 1) (turn k call t).after ≡ t)
unfolding turn caller refusals value_read AskRefused StepRefused LeaveRefused
on_turn k (Ask w v) t s a b =
    let c = record_of t w in
    on_table k t s w a b (own_refusals (Ask w v) c.place) (asked (length t) k w v c) (ap not (fine k t s w a b)) (ask_refused (length t) k w v c)
on_turn k (Step w) t s a b =
    let c = record_of t w in
    let v = value_read t c in
    let held : (well_formed (length t) k c and holds (reads c) k v) ≡ true =
    rw (fine k t s w a b) (value_holds k (reads c) (record_of t (row_read (reads c))) (any_bounds s (row_read (reads c)))) in
    on_table k t s w a b (own_refusals (Step w) c.place) (step_taken (length t) k w v c) (ap not held) (step_refused (length t) k w v c)
on_turn k (Leave w) t s a b =
    let c = record_of t w in
    on_table k t s w a b (own_refusals (Leave w) c.place) (left (length t) k w c) (ap not (fine k t s w a b)) (leave_refused (length t) k w c)

pub call_refused : CallRefused
unfolding CallRefused called unless_refused table_refusal refusals
call_refused k c t =
    let all = all_well_formed (length t) k t in
    let shared = refusals (length t) k (caller c) (not all) [] in
    judged (λ (d : Called). RefusedBy (call_refusals k c t) d.answer (d.table ≡ t))
    (record { table = set t (caller c - 1) (turn k c t).after; answer = (turn k c t).answer })
    (λ r. record { table = t; answer = Refused r })
    shared
    (λ g.
    let h = shared_none {broken = not all} g in
    on_turn k c t (record { opens = h.0; length_is = refl; well_formed = not-false all h.2 }) h.1.0 h.1.1)
    (λ g r e. refused_with r (first_append shared (own_refusals c (place_of t (caller c))) ∙ rw e) refl)

pub entry_refused : EntryRefused
unfolding EntryRefused CallRefused first
entry_refused k e t =
    rw (entry_is k e t)
    (decide (is_nine e)
    (λ a. rw a (refused_with NoCall refl refl))
    (λ a. rw a (by_another refl (λ q. q) (call_refused k (call_of e) t))))

-- Answers as bytes.
in_byte : (a : Answer) → number_of a ≤ 41 → InByte a
in_byte a h = record { most = h; byte = omega arith }

pub call_answers : CallAnswers
unfolding CallAnswers
call_answers k c t = in_byte (called k c t).answer (answer_small k c t)

pub entry_answers : EntryAnswers
unfolding EntryAnswers
entry_answers k e t = in_byte (entered k (decoded e) t).answer (entry_answer_small k e t)

pub refused_answers : RefusedAnswers
unfolding RefusedAnswers EntryAnswers
refused_answers k e t r q = let n = ap number_of q in (n, (entry_answers k e t).byte ∙ n)

-- Outcomes.
outcome_by : {v o : Verdict} {A : Type 0} → o ≡ v → ((r : Refusal) → v ≡ Err r → A) → OutcomeBy v o A
outcome_by e f = record { exactly = e; number = ap outcome_number e; unchanged = λ r q. f r (sym e ∙ q) }

pub opening_refused : OpeningRefused
unfolding OpeningRefused opening
opening_refused k t = outcome_by refl (λ r e. rw e)

ran_outcome : (v : Verdict) (k : Terms) (es row : List ℕ) (t : Table) → (ran_unless v k es row t).outcome ≡ v
ran_outcome (Ok u) k es row t = refl
ran_outcome (Err r) k es row t = refl

pub run_refused : RunRefused
unfolding RunRefused running
run_refused k es row t = outcome_by (ran_outcome _ k es row t) (λ r e. rw e (refl, refl))

pub trial_refused : TrialRefused
unfolding TrialRefused trial_left trial_outcome
trial_refused n c es ls = outcome_by refl (λ r e. rw e)

standing_by : (v : Verdict) (z : ℤ) → StandingBy v (by_verdict v (Ok z) Err)
standing_by (Ok u) z = record { exactly = λ r. ((λ q. cc), λ q. cc); number = refl }
standing_by (Err x) z = record { exactly = λ r. ((λ q. cc), λ q. cc); number = refl }

pub standing_refused : StandingRefused
unfolding StandingRefused standing_of standing_on
standing_refused k a b t = standing_by _ _
