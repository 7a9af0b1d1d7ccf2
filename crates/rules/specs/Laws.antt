-- What the layers above rely on of tables and calls, beside the definitions. Proved in `proofs/Laws`.
use Rattle.std.specs.Prelude.{ℕ, ◌≤◌, ◌↔◌, ◌≡◌, Ok, Err}
use Rattle.rules.specs.Tests.{first}
use Rattle.rules.specs.Answers.{refusal_number, number_of}
use Rattle.rules.specs.Rules.{open_refusals}
use Rattle.rules.specs.Tables.{Table, opened, record_of, called, Opens, Sound}
use Rattle.rules.specs.declared.Claimant.{Claimant}
use Rattle.rules.specs.declared.Terms.{Terms}
use Rattle.rules.specs.declared.Call.{Call}
use Rattle.rules.specs.declared.Refusal.{Refusal}

-- Opening refuses nothing exactly if it has 1 to 64 rows and a ceiling; what it refuses with is 1 or 2.
abbrev pub OpensExactly : Type 0
OpensExactly = (n : ℕ) (k : Terms) → first (open_refusals n k) ≡ Ok tt ↔ Opens n k

abbrev pub OpeningRefuses : Type 0
OpeningRefuses = (n : ℕ) (k : Terms) (r : Refusal) → first (open_refusals n k) ≡ Err r → refusal_number r ≤ 2

-- An opened table is sound, and a call keeps a table sound.
abbrev pub OpenedSound : Type 0
OpenedSound = (n : ℕ) (k : Terms) → Opens n k → Sound n k (opened n)

abbrev pub CallKeepsSound : Type 0
CallKeepsSound = (n : ℕ) (k : Terms) (c : Call) (t : Table) → Sound n k t → Sound n k (called k c t).table

-- Whatever number is looked at in a sound table, its place and its registers are in range.
pub record InRange (k : Terms) (c : Claimant) : Type 0 where
  pub place : c.place ≤ 12
  pub choosing : c.choosing ≤ 1
  pub session : c.session ≤ 65535
  pub token : c.token ≤ k.ceiling

abbrev pub SoundInRange : Type 0
SoundInRange = (n : ℕ) (k : Terms) (t : Table) → Sound n k t → (w : ℕ) → InRange k (record_of t w)

-- No answer's number passes 41, on any table.
abbrev pub CallAnswerSmall : Type 0
CallAnswerSmall = (k : Terms) (c : Call) (t : Table) → number_of (called k c t).answer ≤ 41
