-- Schedules: what an entry says, what it does to a table, and the entries one after the other.
use Rattle.std.specs.Prelude.{ℕ, ◌/◌, ◌%◌, Bool, not, List, [], ◌∷◌, eqb, ltb, Result, Ok, Err}
use Rattle.rules.specs.Tests.{pick, ◌and◌, ◌or◌}
use Rattle.rules.specs.Tables.{Table, Called, called}
use Rattle.rules.specs.declared.Terms.{Terms}
use Rattle.rules.specs.declared.Call.{Call}
use Rattle.rules.specs.declared.Call.TheVariants.{Ask, Step, Leave}
use Rattle.rules.specs.declared.Answer.{Answer}
use Rattle.rules.specs.declared.Answer.TheVariants.{Refused}
use Rattle.rules.specs.declared.Refusal.TheVariants.{NoCall}
use Rattle.store.specs.declared.Barred.{Barred}

-- An entry is kind × 16,777,216 + claimant × 65,536 + session.
abbrev pub kind_in : ℕ → ℕ
kind_in e = e / 16777216

abbrev pub claimant_in : ℕ → ℕ
claimant_in e = e / 65536 % 256

abbrev pub session_in : ℕ → ℕ
session_in e = e % 65536

-- Refusal 9: kind over 2, or session field not 0 with kind 0 or 2.
abbrev pub is_nine : (entry : ℕ) → Bool
is_nine e = ltb 2 (kind_in e) or (not (eqb (kind_in e) 1) and not (eqb (session_in e) 0))

-- The call of every other entry: kind 0 is step, 1 ask, 2 leave.
abbrev pub call_of : (entry : ℕ) → Call
call_of e =
    pick (eqb (kind_in e) 0) (Step (claimant_in e))
    (pick (eqb (kind_in e) 1) (Ask (claimant_in e) (session_in e)) (Leave (claimant_in e)))

-- What an entry comes to: the call that it makes, or the bar.
abbrev pub Entry : Type 0
Entry = Result Call Barred

unfoldable pub decoded : (entry : ℕ) → Entry
decoded e = pick (is_nine e) (Err (record { who = claimant_in e; refusal = NoCall })) (Ok (call_of e))

-- An entry's call is made; a barred entry is refused and changes no record.
unfoldable pub entered : Terms → Entry → Table → Called
entered k (Ok c) t = called k c t
entered k (Err b) t = record { table = t; answer = Refused b.refusal }

-- The table after all entries ..
unfoldable pub ran : Terms → (schedule : List ℕ) → Table → Table
ran k [] t = t
ran k (e ∷ es) t = ran k es (entered k (decoded e) t).table

-- .. and what each was answered.
unfoldable pub answered : Terms → (schedule : List ℕ) → Table → List Answer
answered k [] t = []
answered k (e ∷ es) t = (entered k (decoded e) t).answer ∷ answered k es (entered k (decoded e) t).table
