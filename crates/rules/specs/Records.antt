-- A claimant's record, and the writing of a single field of it.
use Rattle.std.specs.Prelude.{ℕ}
use Rattle.rules.specs.declared.Claimant.{Claimant}

-- A record, field by field.
abbrev pub claimant : (place choosing session token want other seen : ℕ) → Claimant
claimant p c s t w o n = record { place = p; choosing = c; session = s; token = t; want = w; other = o; seen = n }

-- Opening sets all fields to 0.
abbrev pub blank : Claimant
blank = claimant 0 0 0 0 0 0 0

-- The record with one field written.
abbrev pub placed : ℕ → Claimant → Claimant
placed p c = claimant p c.choosing c.session c.token c.want c.other c.seen

abbrev pub with_choosing : ℕ → Claimant → Claimant
with_choosing x c = claimant c.place x c.session c.token c.want c.other c.seen

abbrev pub with_session : ℕ → Claimant → Claimant
with_session s c = claimant c.place c.choosing s c.token c.want c.other c.seen

abbrev pub with_token : ℕ → Claimant → Claimant
with_token t c = claimant c.place c.choosing c.session t c.want c.other c.seen

abbrev pub with_want : ℕ → Claimant → Claimant
with_want w c = claimant c.place c.choosing c.session c.token w c.other c.seen

abbrev pub with_other : ℕ → Claimant → Claimant
with_other o c = claimant c.place c.choosing c.session c.token c.want o c.seen

abbrev pub with_seen : ℕ → Claimant → Claimant
with_seen n c = claimant c.place c.choosing c.session c.token c.want c.other n
