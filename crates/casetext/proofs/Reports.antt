-- What a trial's answer, and what the reader's answer, tell of the text to be printed.
-- Assumes nothing.
use Prim.Native.Nat.{ℕ, ◌+◌, ◌*◌, ◌≤◌}
use native.Mathlib.Omega.{arith}
use mathlib.Core.Path.{◌≡◌, refl, sym, ap, ◌∙◌}
use mathlib.Core.List.{List, [], ◌∷◌, ◌++◌}
use lib.Dec.{ltb}
use lib.ListN.{length, take, drop}
use borrow.Author.Tests.{le-ltb, ltb-false}
use borrow.Table.Steps.{cases as decide}
use Rattle.std.specs.Prelude.{None, Some, Ok, Err}
use Rattle.std.proofs.lemmas.List.{length-take-le}
use Rattle.rules.specs.Tests.{Verdict, first}
use Rattle.rules.specs.Answers.{refusal_number}
use Rattle.rules.specs.Rules.{open_refusals}
use Rattle.rules.specs.Tables.{Table, opened}
use Rattle.rules.specs.declared.Refusal.{Refusal}
use Rattle.rules.specs.declared.Terms.{Terms}
use Rattle.rules.proofs.Laws.{opening_refuses}
use Rattle.store.specs.Schedules.{decoded, entered}
use Rattle.store.specs.Trials.{terms_of, traced, trial_refusal, trial_left, trial_outcome}
use Rattle.casetext.specs.Reading.{Said, reading, told, Drafted}
use Rattle.casetext.specs.Reading.Said.{accepted, refused}
use Rattle.casetext.specs.Writing.{Filled}
use Rattle.casetext.specs.Report.{entry_text, entries_text, refusal_text, run_text, opened_text, said_text, printed, reported, report_row}
use Rattle.casetext.specs.declared.Case.{Case}
use Rattle.casetext.specs.declared.Fault.{Fault}
use Rattle.casetext.specs.Promises.{PrintedWithin}
use Rattle.casetext.proofs.Promises.{case_few, accepted_exactly, refused_exactly}
use Rattle.casetext.proofs.Lengths.{cause_small, report_fits}

-- Numbers past those that the entries left are not printed.
entries_of : (k : Terms) (es : List ℕ) (t : Table) (rest : List ℕ) (number : ℕ)
    → entries_text number es (traced k es t ++ rest) ≡ entries_text number es (traced k es t)
unfolding entries_text traced entry_text
entries_of k [] t rest number = refl
entries_of k (e ∷ es) t rest number = rw (entries_of k es (entered k (decoded e) t).table rest (number + 1))

-- What a trial of these entries tells, in a row with five places for each.
module _ (n k : ℕ) (held : List ℕ) {es items : List ℕ} (same : es ≡ items) (room : 5 * length items ≤ length held) where
  -- such a row is not refused for its length
  same_refusal : trial_outcome n k es held ≡ first (open_refusals n (terms_of k))
  unfolding trial_outcome trial_refusal first
  same_refusal = rw (same, le-ltb (length held) (5 * length items) room)

  module _ {left : List ℕ} {outcome : Verdict} (told : (left ≡ trial_left n k es held) × (outcome ≡ trial_outcome n k es held)) where
    pub done_text : outcome ≡ Ok tt → said_text (accepted n k items) ≡ run_text es left
    unfolding trial_outcome trial_left said_text opened_text run_text
    done_text e =
        let f : first (open_refusals n (terms_of k)) ≡ Ok tt = sym same_refusal ∙ sym told.1 ∙ e in
        rw (told.0, same_refusal, f, ← same, entries_of (terms_of k) es (opened n) (drop (5 * length es) held) 1)

    pub refused_text : {r : Refusal} → outcome ≡ Err r
        → (said_text (accepted n k items) ≡ refusal_text (refusal_number r) (refusal_number r)) × (refusal_number r ≤ 9)
    unfolding said_text opened_text
    refused_text {r} e =
        let f : first (open_refusals n (terms_of k)) ≡ Err r = sym same_refusal ∙ sym told.1 ∙ e in
        (rw f, omega (arith, opening_refuses n (terms_of k) r f))

-- What the reader told is what is printed.
told_refused : (r : Said) {f : Fault} → told r ≡ Err f → r ≡ refused f.refusal f.line
told_refused (accepted n k es) e = cc
told_refused (refused q line) {f} e = let g : record { refusal = q; line = line } ≡ f = cc in rw (← g) refl

told_case : (r : Said) {c : Case} {draft : List ℕ} → told r ≡ Ok c → Drafted r draft → r ≡ accepted c.claimants c.ceiling draft
told_case (accepted n k es) {c} e d = let g : record { claimants = n; ceiling = k; count = length es } ≡ c = cc in rw (← g, d) refl
told_case (refused q line) e d = cc

module _ (s : List ℕ) where
  pub printed_refused : {f : Fault} → told (reading s) ≡ Err f → (printed s ≡ refusal_text (refusal_number f.refusal) f.line) × (f.line ≤ 2051)
  unfolding printed said_text
  printed_refused {f} e =
      let r = told_refused (reading s) e in
      (rw r, (cause_small ((refused_exactly s f.refusal f.line).0 r)).1)

  pub printed_case : {c : Case} (draft : List ℕ) → told (reading s) ≡ Ok c → Drafted (reading s) draft
      → (printed s ≡ said_text (accepted c.claimants c.ceiling draft)) × (length draft ≤ 2048)
  unfolding printed
  printed_case {c} draft e d =
      let r = told_case (reading s) e d in
      (ap said_text r, case_few ((accepted_exactly s c.claimants c.ceiling draft).0 r))

  module _ (out : List ℕ) {w : List ℕ} (e : printed s ≡ w) (long : 153609 ≤ length out) where
    pub room_for : length w ≤ length out
    room_for = omega (arith, rw e at (report_fits s))

    pub report_is : {bytes : ℕ} {after : List ℕ} → Filled out w bytes after → (Some bytes ≡ reported out s) × (after ≡ report_row out s)
    unfolding reported report_row
    report_is f = rw (le-ltb (length out) 153609 long, e) (ap Some f.ends, f.row)

-- For callers that hand on what was printed.
pub printed_within : PrintedWithin
unfolding reported
printed_within out s bytes e =
    decide (ltb (length out) 153609)
    (λ t. let f : None ≡ Some bytes = rw t at e in cc)
    (λ t.
    let f : Some (length (printed s)) ≡ Some bytes = rw t at e in
    let q : length (printed s) ≡ bytes = cc in
    omega (arith, report_fits s, ltb-false (length out) 153609 t))

-- The same where the row is another one as long: the first bytes of that are as many as were printed.
pub printed_inside : (row s after : List ℕ) (bytes : ℕ) → reported row s ≡ Some bytes → length after ≡ length row → bytes ≤ length after
printed_inside row s after bytes e l = omega (arith, l, printed_within row s bytes e)

pub printed_part : (row s after : List ℕ) (bytes : ℕ) → reported row s ≡ Some bytes → length after ≡ length row → bytes ≡ length (take bytes after)
printed_part row s after bytes e l = sym (length-take-le bytes after (printed_inside row s after bytes e l))
