-- What a call does to a table: a row of records, record 1 first.
use Rattle.std.specs.Prelude.{ℕ, zero, suc, ◌-◌, ◌≤◌, Bool, true, not, List, [], ◌∷◌, ◌≡◌, get_or, length, set, replicate, Option, None, Some}
use Rattle.rules.specs.Tests.{◌and◌, Verdict, first, by_verdict}
use Rattle.rules.specs.Records.{blank}
use Rattle.rules.specs.Places.{well_formed}
use Rattle.rules.specs.Rules.{reads, value_in, refusals, asked, step_taken, left}
use Rattle.rules.specs.declared.Claimant.{Claimant}
use Rattle.rules.specs.declared.Terms.{Terms}
use Rattle.rules.specs.declared.Turn.{Turn}
use Rattle.rules.specs.declared.Call.{Call}
use Rattle.rules.specs.declared.Call.TheVariants.{Ask, Step, Leave}
use Rattle.rules.specs.declared.Answer.{Answer}
use Rattle.rules.specs.declared.Answer.TheVariants.{Refused}
use Rattle.rules.specs.declared.Register.{Register}
use Rattle.rules.specs.declared.Register.TheVariants.{Choosing, Session, Token}

abbrev pub Table : Type 0
Table = List Claimant

-- A freshly opened table.
unfoldable pub opened : (n : ℕ) → Table
opened n = replicate n blank

-- The record of a claimant, counted from 1. Number 0 is nobody, as is a number past the last row.
unfoldable pub record_of : Table → ℕ → Claimant
record_of t zero = blank
record_of t (suc w) = get_or t w blank

-- The row whose register is read; 0 where none is.
abbrev pub row_read : Option Register → ℕ
row_read None = 0
row_read (Some (Choosing o)) = o
row_read (Some (Session o)) = o
row_read (Some (Token o)) = o

-- The value that a claimant with this record reads in the table.
unfoldable pub value_read : Table → Claimant → ℕ
value_read t c = value_in (reads c) (record_of t (row_read (reads c)))

unfoldable pub all_well_formed : (n : ℕ) → Terms → Table → Bool
all_well_formed n k [] = true
all_well_formed n k (c ∷ t) = well_formed n k c and all_well_formed n k t

-- Who makes the call.
unfoldable pub caller : Call → ℕ
caller (Ask w s) = w
caller (Step w) = w
caller (Leave w) = w

-- The rule for a call, on the caller's record.
unfoldable pub turn : Terms → Call → Table → Turn
turn k (Ask w s) t = asked (length t) k w s (record_of t w)
turn k (Step w) t = step_taken (length t) k w (value_read t (record_of t w)) (record_of t w)
turn k (Leave w) t = left (length t) k w (record_of t w)

pub record Called : Type 0 where
  pub table : Table
  pub answer : Answer

-- A refused table comes back as it was.
unfoldable pub unless_refused : Verdict → Table → Called → Called
unless_refused v t d = by_verdict v d (λ r. record { table = t; answer = Refused r })

-- What every call on a table refuses: 1 to 4.
unfoldable pub table_refusal : Terms → (number : ℕ) → Table → Verdict
table_refusal k w t = first (refusals (length t) k w (not (all_well_formed (length t) k t)) [])

-- One call: the caller's one record changed by its rule, and no other.
unfoldable pub called : Terms → Call → Table → Called
called k c t =
    unless_refused (table_refusal k (caller c) t) t
    (record { table = set t (caller c - 1) (turn k c t).after; answer = (turn k c t).answer })

-- Calls made one after the other.
unfoldable pub after : Terms → List Call → Table → Table
after k [] t = t
after k (c ∷ cs) t = after k cs (called k c t).table

-- A number of rows and a ceiling that opening takes.
pub record Opens (n : ℕ) (k : Terms) : Type 0 where
  pub some_row : 1 ≤ n
  pub rows : n ≤ 64
  pub ceiling_set : 1 ≤ k.ceiling

-- A table of n well-formed rows under such a ceiling.
pub record Sound (n : ℕ) (k : Terms) (t : Table) : Type 0 where
  pub opens : Opens n k
  pub length_is : length t ≡ n
  pub well_formed : all_well_formed n k t ≡ true
