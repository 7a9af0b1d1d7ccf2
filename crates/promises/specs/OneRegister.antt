-- One register a step: which one it reads or writes, and that nothing else of the table matters to it or is changed by it.
use Rattle.std.specs.Prelude.{ℕ, ◌+◌, ◌≤◌, Bool, true, false, not, ◌≢◌, ◌≡◌, ltb, length, is_some}
use Rattle.rules.specs.Tests.{pick}
use Rattle.rules.specs.Places.{place_at}
use Rattle.rules.specs.Rules.{reads, asked, step_taken, left}
use Rattle.rules.specs.Tables.{Table, record_of, value_read, caller, turn, called}
use Rattle.rules.specs.declared.Place.{Place}
use Rattle.rules.specs.declared.Place.TheVariants.{Rest, Sign, Raise, Scan, Take, Lower, SeeChoosing, SeeSession, SeeToken, SeeAgain, Inside}
use Rattle.rules.specs.declared.Place.TheVariants.{DropToken, DropSession, Nowhere}
use Rattle.rules.specs.declared.Claimant.{Claimant}
use Rattle.rules.specs.declared.Terms.{Terms}
use Rattle.rules.specs.declared.Answer.{Answer}
use Rattle.rules.specs.declared.Answer.TheVariants.{Reached, TurnedAway, Refused}
use Rattle.rules.specs.declared.Call.{Call}
use Rattle.rules.specs.declared.Call.TheVariants.{Step}

-- What a step may write: nothing, or one of the caller's registers, with this value.
pub data Write : Type 0 where
  no_write : Write
  to_session to_choosing to_token : (v : ℕ) → Write

-- The write of each place, as 01 lists it.
unfoldable pub write_at : Place → Terms → Claimant → Write
write_at Rest k c = no_write
write_at Sign k c = to_session c.want
write_at Raise k c = to_choosing 1
write_at Scan k c = no_write
write_at Take k c = pick (ltb c.seen k.ceiling) (to_token (c.seen + 1)) (to_choosing 0)
write_at Lower k c = to_choosing 0
write_at SeeChoosing k c = no_write
write_at SeeSession k c = no_write
write_at SeeToken k c = no_write
write_at SeeAgain k c = no_write
write_at Inside k c = no_write
write_at DropToken k c = to_token 0
write_at DropSession k c = to_session 0
write_at Nowhere k c = no_write

unfoldable pub writes : Terms → Claimant → Write
writes k c = write_at (place_at c.place) k c

-- The three shared registers of a claimant, and what they hold after a write.
pub record Shared : Type 0 where
  pub session : ℕ
  pub choosing : ℕ
  pub token : ℕ

abbrev pub shared : Claimant → Shared
shared c = record { session = c.session; choosing = c.choosing; token = c.token }

abbrev pub written : Write → Shared → Shared
written no_write r = r
written (to_session v) r = record { session = v; choosing = r.choosing; token = r.token }
written (to_choosing v) r = record { session = r.session; choosing = v; token = r.token }
written (to_token v) r = record { session = r.session; choosing = r.choosing; token = v }

abbrev pub is_write : Write → Bool
is_write no_write = false
is_write (to_session v) = true
is_write (to_choosing v) = true
is_write (to_token v) = true

-- Wherever a step is taken it reads one register or writes one, and not both.
unfoldable pub ReadsOrWrites : Type 0
ReadsOrWrites = (k : Terms) (c : Claimant) → c.place ≤ 12 → c.place ≢ 0 → c.place ≢ 10 → is_some (reads c) ≡ not (is_write (writes k c))

abbrev pub Accepted : Answer → Type 0
Accepted (Reached p) = Unit {0}
Accepted TurnedAway = Unit {0}
Accepted (Refused r) = ⊥

-- An accepted step leaves the caller's registers with that one write: where it reads, as they were.
unfoldable pub WritesOne : Type 0
WritesOne =
    (n : ℕ) (k : Terms) (number v : ℕ) (c : Claimant) →
    let r = step_taken n k number v c in
    Accepted r.answer →
    shared r.after ≡ written (writes k c) (shared c)

-- Where it writes, the value given does not matter ..
unfoldable pub ValueIgnored : Type 0
ValueIgnored =
    (n : ℕ) (k : Terms) (number v v' : ℕ) (c : Claimant) →
    is_some (reads c) ≡ false →
    step_taken n k number v c ≡ step_taken n k number v' c

-- .. and where it reads, two tables that agree on the own record and on the one value read give it the same turn.
unfoldable pub SeesOne : Type 0
SeesOne =
    (k : Terms) (w : ℕ) (t t' : Table) →
    length t ≡ length t' →
    record_of t w ≡ record_of t' w →
    value_read t (record_of t w) ≡ value_read t' (record_of t' w) →
    turn k (Step w) t ≡ turn k (Step w) t'

-- Ask and leave touch no register.
unfoldable pub AskTouchesNone : Type 0
AskTouchesNone = (n : ℕ) (k : Terms) (number s : ℕ) (c : Claimant) → shared (asked n k number s c).after ≡ shared c

unfoldable pub LeaveTouchesNone : Type 0
LeaveTouchesNone = (n : ℕ) (k : Terms) (number : ℕ) (c : Claimant) → shared (left n k number c).after ≡ shared c

-- No call changes another claimant's record.
unfoldable pub OthersUntouched : Type 0
OthersUntouched = (k : Terms) (c : Call) (t : Table) (j : ℕ) → j ≢ caller c → record_of (called k c t).table j ≡ record_of t j
