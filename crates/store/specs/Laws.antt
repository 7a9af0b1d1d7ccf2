-- What the layers above rely on of entries, beside the definitions. Proved in `proofs/Laws`.
use Rattle.std.specs.Prelude.{ℕ, ◌≤◌, true, false, ◌≡◌, Ok, Err}
use Rattle.rules.specs.Tests.{pick}
use Rattle.rules.specs.Answers.{number_of}
use Rattle.rules.specs.Tables.{Table, called, Sound}
use Rattle.rules.specs.declared.Terms.{Terms}
use Rattle.rules.specs.declared.Call.{Call}
use Rattle.rules.specs.declared.Answer.TheVariants.{Refused}
use Rattle.rules.specs.declared.Refusal.TheVariants.{NoCall}
use Rattle.store.specs.declared.Barred.{Barred}
use Rattle.store.specs.Schedules.{Entry, is_nine, call_of, decoded, entered}

-- Which entries are barred, and the call of every other one.
abbrev pub EntryBarred : Type 0
EntryBarred = (e : ℕ) (b : Barred) → decoded e ≡ Err b → is_nine e ≡ true

abbrev pub EntryMade : Type 0
EntryMade = (e : ℕ) (c : Call) → decoded e ≡ Ok c → (is_nine e ≡ false) × (call_of e ≡ c)

-- An entry is refused with 9 and changes nothing, or its call is made.
abbrev pub EntryIs : Type 0
EntryIs =
    (k : Terms) (e : ℕ) (t : Table) →
    entered k (decoded e) t ≡ pick (is_nine e) (record { table = t; answer = Refused NoCall }) (called k (call_of e) t)

-- An entry keeps a table sound.
abbrev pub EntryKeepsSound : Type 0
EntryKeepsSound = (n : ℕ) (k : Terms) (e : Entry) (t : Table) → Sound n k t → Sound n k (entered k e t).table

-- No answer's number passes 41, on any table.
abbrev pub EntryAnswerSmall : Type 0
EntryAnswerSmall = (k : Terms) (e : ℕ) (t : Table) → number_of (entered k (decoded e) t).answer ≤ 41
