-- What the functions inside the store compute, for their contracts: one entry on the record that it is for, the table being judged
-- already. The other modules say what it comes to.
use Rattle.std.specs.Prelude.{ℕ, zero, suc, Bool, [], ◌∷◌, ◌++◌, length, set, Option, None, Some, Ok, Err}
use Rattle.rules.specs.Tests.{◌when◌, Verdict, first, by_verdict}
use Rattle.rules.specs.Rules.{open_refusals, asked, step_taken, left}
use Rattle.rules.specs.Tables.{Table, record_of, value_read, caller}
use Rattle.rules.specs.declared.Claimant.{Claimant}
use Rattle.rules.specs.declared.Terms.{Terms}
use Rattle.rules.specs.declared.Turn.{Turn}
use Rattle.rules.specs.declared.Call.{Call}
use Rattle.rules.specs.declared.Call.TheVariants.{Ask, Step, Leave}
use Rattle.rules.specs.declared.Refusal.TheVariants.{Broken}
use Rattle.rules.specs.declared.Answer.TheVariants.{Refused}
use Rattle.store.specs.Schedules.{Entry}

-- Where the record of claimant w stands in a row, counted from 0. Number 0 is nobody.
unfoldable pub row_at : (w : ℕ) → Option ℕ
row_at zero = None
row_at (suc w) = Some w

-- The table with that record written, or as it was where there is none.
unfoldable pub written : Table → (w : ℕ) → Claimant → Table
written t zero c = t
written t (suc w) c = set t w c

-- Who makes the entry's call, or would have made it.
abbrev pub caller_of : Entry → ℕ
caller_of (Ok c) = caller c
caller_of (Err b) = b.who

-- The rule for a call, on the caller's own record and the value that its place reads.
abbrev pub turn_on : (n : ℕ) → Terms → Call → (own : Claimant) → (v : ℕ) → Turn
turn_on n k (Ask w s) c v = asked n k w s c
turn_on n k (Step w) c v = step_taken n k w v c
turn_on n k (Leave w) c v = left n k w c

abbrev pub turn_for : (n : ℕ) → Terms → Entry → (own : Claimant) → (v : ℕ) → Turn
turn_for n k (Ok c) own v = turn_on n k c own v
turn_for n k (Err b) own v = record { after = own; answer = Refused b.refusal }

-- The turn of an entry in a table.
unfoldable pub turn_in : Terms → Entry → Table → Turn
turn_in k e t = let own = record_of t (caller_of e) in turn_for (length t) k e own (value_read t own)

-- 1, 2 and 3, which bar each call on a table.
unfoldable pub table_bar : (n : ℕ) → Terms → (broken : Bool) → Verdict
table_bar n k broken = first (open_refusals n k ++ (Broken when broken ∷ []))

abbrev pub unless_barred : Verdict → Call → Entry
unless_barred v c = by_verdict v (Ok c) (λ r. Err (record { who = caller c; refusal = r }))
