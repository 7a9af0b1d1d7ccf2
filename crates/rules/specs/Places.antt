-- The thirteen places, and what a record may hold at each.
use Rattle.std.specs.Prelude.{ℕ, Bool, List, [], ◌∷◌, eqb, leb, get_or}
use Rattle.rules.specs.Tests.{◌and◌, ◌or◌, within}
use Rattle.rules.specs.declared.Place.{Place}
use Rattle.rules.specs.declared.Place.TheVariants.{Rest, Sign, Raise, Scan, Take, Lower, SeeChoosing, SeeSession, SeeToken, SeeAgain}
use Rattle.rules.specs.declared.Place.TheVariants.{Inside, DropToken, DropSession, Nowhere}
use Rattle.rules.specs.declared.Claimant.{Claimant}
use Rattle.rules.specs.declared.Terms.{Terms}
use Rattle.rules.specs.declared.Row.{Row}
use Rattle.rules.specs.declared.Kind.{Kind}
use Rattle.rules.specs.declared.Kind.TheVariants.{Zero, Set, ZeroOrSet}

-- The places in the order of their numbers; a number over 12 is nowhere.
unfoldable pub places : List Place
places =
    Rest ∷ Sign ∷ Raise ∷ Scan ∷ Take ∷ Lower ∷ SeeChoosing ∷ SeeSession ∷ SeeToken ∷ SeeAgain ∷ Inside ∷ DropToken ∷ DropSession ∷ []

unfoldable pub place_at : ℕ → Place
unfolding places
place_at p = get_or places p Nowhere

-- A row of the table: Session, want, Choosing, Token, other, seen.
abbrev pub row : Kind → Kind → Kind → Kind → Kind → Kind → Row
row s w c t o n = record { session = s; want = w; choosing = c; token = t; other = o; seen = n }

-- The row of rest, which is also what is looked up where there is no row.
abbrev pub empty_row : Row
empty_row = row Zero Zero Zero Zero Zero Zero

-- One row a place, from 0.
unfoldable pub rows : List Row
rows =
    empty_row ∷
    row Zero Set Zero Zero Zero Zero ∷
    row Set Set Zero Zero Zero Zero ∷
    row Set Set Set Zero Set ZeroOrSet ∷
    row Set Set Set Zero Zero ZeroOrSet ∷
    row Set Set Set Set Zero Zero ∷
    row Set Set Zero Set Set Zero ∷
    row Set Set Zero Set Set Zero ∷
    row Set Set Zero Set Set Zero ∷
    row Set Set Zero Set Set Zero ∷
    row Set Set Zero Set Zero Zero ∷
    row Set Set Zero Set Zero Zero ∷
    row Set Set Zero Zero Zero Zero ∷ []

-- Whether a field of this kind may hold x, where it is set from low to high.
abbrev pub allows : Kind → (low high x : ℕ) → Bool
allows Zero low high x = eqb x 0
allows Set low high x = within low high x
allows ZeroOrSet low high x = eqb x 0 or within low high x

-- A session that a claimant may want: a register holds no larger number, and 0 is no claim.
abbrev pub is_session : ℕ → Bool
is_session s = within 1 65535 s

-- Where they are set: Session equals want, want is a session, Choosing is 1, Token and seen are 1 to the ceiling, other is 1 to N.
unfoldable pub fits : Row → (n : ℕ) → Terms → Claimant → Bool
fits r n k c =
    allows r.session c.want c.want c.session and
    allows r.want 1 65535 c.want and
    allows r.choosing 1 1 c.choosing and
    allows r.token 1 k.ceiling c.token and
    allows r.other 1 n c.other and
    allows r.seen 1 k.ceiling c.seen

-- A record is well-formed: its place has a row, and each field is of the kind that the row gives.
unfoldable pub well_formed : (n : ℕ) → Terms → Claimant → Bool
well_formed n k c = leb c.place 12 and fits (get_or rows c.place empty_row) n k c
