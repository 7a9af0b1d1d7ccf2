-- The rules of the group Bakery for one claimant, one register read or written a step.
use Rattle.std.specs.Prelude.{ℕ, ◌+◌, max, Bool, true, not, List, [], ◌∷◌, ◌++◌, eqb, ltb, leb, Option, None, Some}
use Rattle.rules.specs.Tests.{pick, ◌and◌, ◌or◌, within, Listed, ◌when◌, Verdict, first, by_verdict}
use Rattle.rules.specs.Records.{placed, with_choosing, with_session, with_token, with_want, with_other, with_seen}
use Rattle.rules.specs.Places.{place_at, is_session, well_formed}
use Rattle.rules.specs.declared.Place.{Place}
use Rattle.rules.specs.declared.Place.TheVariants.{Rest, Sign, Raise, Scan, Take, Lower, SeeChoosing, SeeSession, SeeToken, SeeAgain}
use Rattle.rules.specs.declared.Place.TheVariants.{Inside, DropToken, DropSession, Nowhere}
use Rattle.rules.specs.declared.Claimant.{Claimant}
use Rattle.rules.specs.declared.Terms.{Terms}
use Rattle.rules.specs.declared.Turn.{Turn}
use Rattle.rules.specs.declared.Refusal.{Refusal}
use Rattle.rules.specs.declared.Refusal.TheVariants.{RowCount, NoCeiling, Broken, NoClaimant, NoSession, NotAtRest, NotInside, NoStep}
use Rattle.rules.specs.declared.Answer.TheVariants.{Reached, TurnedAway, Refused}
use Rattle.rules.specs.declared.Register.{Register}
use Rattle.rules.specs.declared.Register.TheVariants.{Choosing, Session, Token}

-- Two sessions conflict if both are nonzero and differ.
unfoldable pub conflict : ℕ → ℕ → Bool
conflict s t = leb 1 s and leb 1 t and not (eqb s t)

-- (token, number) is below (token', number'): by token, and then by number.
unfoldable pub before : (token number token' number' : ℕ) → Bool
before t i u j = ltb t u or (eqb t u and ltb i j)

-- The register that a place reads, if it reads one, of the row that the claimant looks at.
unfoldable pub read_at : Place → (row : ℕ) → Option Register
read_at Rest o = None
read_at Sign o = None
read_at Raise o = None
read_at Scan o = Some (Token o)
read_at Take o = None
read_at Lower o = None
read_at SeeChoosing o = Some (Choosing o)
read_at SeeSession o = Some (Session o)
read_at SeeToken o = Some (Token o)
read_at SeeAgain o = Some (Session o)
read_at Inside o = None
read_at DropToken o = None
read_at DropSession o = None
read_at Nowhere o = None

unfoldable pub reads : Claimant → Option Register
reads c = read_at (place_at c.place) c.other

-- The value of that register, in the record of the claimant looked at.
abbrev pub value_in : Option Register → Claimant → ℕ
value_in None d = 0
value_in (Some (Choosing o)) d = d.choosing
value_in (Some (Session o)) d = d.session
value_in (Some (Token o)) d = d.token

-- A value that such a register can hold.
abbrev pub holds : Option Register → Terms → (v : ℕ) → Bool
holds None k v = true
holds (Some (Choosing o)) k v = leb v 1
holds (Some (Session o)) k v = leb v 65535
holds (Some (Token o)) k v = leb v k.ceiling

-- An accepted call answers the place reached.
abbrev pub reached : Claimant → Turn
reached c = record { after = c; answer = Reached c.place }

-- The row looked at is passed: on to the next one, or inside after the last.
unfoldable pub passed : (n : ℕ) → Claimant → Claimant
passed n c = pick (eqb c.other n) (placed 10 (with_other 0 c)) (placed 6 (with_other (c.other + 1) c))

-- The steps, a definition a place, each with its own record and what else it looks at.
-- 1 sign: write own Session = want. The doorway begins with this write.
abbrev pub signed : Claimant → Turn
signed c = reached (placed 2 (with_session c.want c))

-- 2 raise: write own Choosing = 1.
abbrev pub raised : Claimant → Turn
raised c = reached (placed 3 (with_choosing 1 (with_other 1 (with_seen 0 c))))

-- 3 scan: read Token of other; seen becomes the larger.
abbrev pub scanned : (n v : ℕ) → Claimant → Turn
scanned n v c =
    pick (eqb c.other n)
    (reached (placed 4 (with_other 0 (with_seen (max c.seen v) c))))
    (reached (placed 3 (with_other (c.other + 1) (with_seen (max c.seen v) c))))

-- 4 take: write own Token = seen + 1; where seen is at the ceiling, write own Choosing = 0 and be turned away.
abbrev pub taken : Terms → Claimant → Turn
taken k c =
    pick (ltb c.seen k.ceiling)
    (reached (placed 5 (with_token (c.seen + 1) (with_seen 0 c))))
    (record { after = placed 12 (with_choosing 0 (with_seen 0 c)); answer = TurnedAway })

-- 5 lower: write own Choosing = 0. The doorway ends.
abbrev pub lowered : Claimant → Turn
lowered c = reached (placed 6 (with_choosing 0 (with_other 1 c)))

-- 6: read Choosing of other.
abbrev pub saw_choosing : (v : ℕ) → Claimant → Turn
saw_choosing v c = reached (placed (pick (eqb v 0) 8 7) c)

-- 7: read Session of other.
abbrev pub saw_session : (v : ℕ) → Claimant → Turn
saw_session v c = reached (placed (pick (conflict v c.want) 6 8) c)

-- 8: read Token of other; `number` is the claimant's own.
abbrev pub saw_token : (n number v : ℕ) → Claimant → Turn
saw_token n i v c = pick (eqb v 0 or before c.token i v c.other) (reached (passed n c)) (reached (placed 9 c))

-- 9: read Session of other.
abbrev pub saw_again : (n v : ℕ) → Claimant → Turn
saw_again n v c = pick (conflict v c.want) (reached (placed 8 c)) (reached (passed n c))

-- 11: write own Token = 0.
abbrev pub dropped_token : Claimant → Turn
dropped_token c = reached (placed 12 (with_token 0 c))

-- 12: write own Session = 0.
abbrev pub dropped_session : Claimant → Turn
dropped_session c = reached (placed 0 (with_session 0 (with_want 0 c)))

-- One step, where nothing refuses it; `v` is the value read. Rest, inside and nowhere take none.
unfoldable pub stepped : Place → (n : ℕ) → Terms → (number v : ℕ) → Claimant → Turn
stepped Rest n k i v c = reached c
stepped Sign n k i v c = signed c
stepped Raise n k i v c = raised c
stepped Scan n k i v c = scanned n v c
stepped Take n k i v c = taken k c
stepped Lower n k i v c = lowered c
stepped SeeChoosing n k i v c = saw_choosing v c
stepped SeeSession n k i v c = saw_session v c
stepped SeeToken n k i v c = saw_token n i v c
stepped SeeAgain n k i v c = saw_again n v c
stepped Inside n k i v c = reached c
stepped DropToken n k i v c = dropped_token c
stepped DropSession n k i v c = dropped_session c
stepped Nowhere n k i v c = reached c

-- What opening refuses, and every call before all else.
abbrev pub open_refusals : (n : ℕ) → Terms → List Listed
open_refusals n k = RowCount when not (within 1 64 n) ∷ NoCeiling when eqb k.ceiling 0 ∷ []

-- What every call refuses, in 01's order, in front of what only this call refuses.
unfoldable pub refusals : (n : ℕ) → Terms → (number : ℕ) → (broken : Bool) → List Listed → List Listed
refusals n k i broken own = open_refusals n k ++ (Broken when broken ∷ NoClaimant when not (within 1 n i) ∷ own)

-- A refused record comes back as it was.
abbrev pub refused : Claimant → Refusal → Turn
refused c r = record { after = c; answer = Refused r }

-- The turn, where nothing is refused.
unfoldable pub unless : Verdict → Claimant → Turn → Turn
unless v c t = by_verdict v t (refused c)

-- The three calls: what each refuses, and what it does where nothing refuses it.
abbrev pub ask_refusals : (n : ℕ) → Terms → (number session : ℕ) → Claimant → List Listed
ask_refusals n k i s c = refusals n k i (not (well_formed n k c)) (NoSession when not (is_session s) ∷ NotAtRest when not (eqb c.place 0) ∷ [])

unfoldable pub asked : (n : ℕ) → Terms → (number session : ℕ) → Claimant → Turn
asked n k i s c = unless (first (ask_refusals n k i s c)) c (reached (placed 1 (with_want s c)))

-- A record is broken for a step also where the value read is one that no such register can hold.
abbrev pub step_refusals : (n : ℕ) → Terms → (number v : ℕ) → Claimant → List Listed
step_refusals n k i v c =
    refusals n k i (not (well_formed n k c and holds (reads c) k v)) (NoStep when (eqb c.place 0 or eqb c.place 10) ∷ [])

unfoldable pub step_taken : (n : ℕ) → Terms → (number v : ℕ) → Claimant → Turn
step_taken n k i v c = unless (first (step_refusals n k i v c)) c (stepped (place_at c.place) n k i v c)

abbrev pub leave_refusals : (n : ℕ) → Terms → (number : ℕ) → Claimant → List Listed
leave_refusals n k i c = refusals n k i (not (well_formed n k c)) (NotInside when not (eqb c.place 10) ∷ [])

unfoldable pub left : (n : ℕ) → Terms → (number : ℕ) → Claimant → Turn
left n k i c = unless (first (leave_refusals n k i c)) c (reached (placed 11 c))
