-- On a sound table an entry does to its caller's record what it does to the table.
use mathlib.Core.Path.{◌≡◌, refl, sym}
use mathlib.Core.Bool.{true, false}
use mathlib.Core.List.{List}
use Prim.Native.Nat.{ℕ}
use native.Mathlib.Omega.{arith}
use lib.Dec.{eqb}
use lib.ListN.{length}
use borrow.Author.Tests.{ne_eqb}
use Rattle.std.specs.Prelude.{Ok, Err}
use Rattle.rules.specs.Tests.{within, Listed, first}
use Rattle.rules.specs.Records.{blank}
use Rattle.rules.specs.Places.{rows, place_at, fits, well_formed}
use Rattle.rules.specs.Rules.{read_at, reads, refusals, unless, asked, step_taken, left}
use Rattle.rules.specs.Tables.{Table, record_of, value_read, caller, turn, Called, Opens, Sound}
use Rattle.rules.specs.declared.Terms.{Terms}
use Rattle.rules.specs.declared.Turn.{Turn}
use Rattle.rules.specs.declared.Call.{Call}
use Rattle.rules.specs.declared.Call.TheVariants.{Ask, Step, Leave}
use Rattle.rules.specs.declared.Answer.TheVariants.{Refused}
use Rattle.rules.specs.declared.Refusal.TheVariants.{NoClaimant}
use Rattle.rules.proofs.Choices.{decide, within_true, within_holds}
use Rattle.rules.proofs.Calls.{called_here, called_elsewhere}
use Rattle.rules.proofs.Rows.{own_row}
use Rattle.rules.proofs.Laws.{call_keeps_sound}
use Rattle.store.specs.declared.Barred.{Barred}
use Rattle.store.specs.Entries.{written, caller_of, turn_in}
use Rattle.store.specs.Schedules.{Entry, kind_in, claimant_in, is_nine, decoded, entered}
use Rattle.store.proofs.Records.{written_here, written_same, written_nowhere, record_nowhere}

-- The turn of a call is the rule's, on the records of the table.
turn_is : (k : Terms) (c : Call) (t : Table) → turn_in k (Ok c) t ≡ turn k c t
unfolding turn_in turn value_read caller
turn_is k (Ask w s) t = refl
turn_is k (Step w) t = refl
turn_is k (Leave w) t = refl

-- A blank record is well-formed, in any table and under any terms.
pub blank_formed : (n : ℕ) (k : Terms) → well_formed n k blank ≡ true
unfolding well_formed rows fits
blank_formed n k = refl

-- A claimant that has no row has a blank record, and its number is the first refusal.
module _ (n : ℕ) (k : Terms) (w : ℕ) (o : Opens n k) (e : within 1 n w ≡ false) where
  fourth : (own : List Listed) → first (refusals n k w false own) ≡ Err NoClaimant
  unfolding refusals first
  fourth own = rw (within_holds 1 64 n o.some_row o.rows, ne_eqb k.ceiling 0 (omega (arith, o.ceiling_set)), e)

turn_nowhere : (k : Terms) (c : Call) (t : Table) → Opens (length t) k → within 1 (length t) (caller c) ≡ false → record_of t (caller c) ≡ blank
    → turn k c t ≡ record { after = blank; answer = Refused NoClaimant }
unfolding turn caller asked step_taken left unless reads read_at place_at
turn_nowhere k (Ask w s) t o e b = rw (b, blank_formed (length t) k, fourth (length t) k w o e)
turn_nowhere k (Step w) t o e b = rw (b, blank_formed (length t) k, fourth (length t) k w o e)
turn_nowhere k (Leave w) t o e b = rw (b, blank_formed (length t) k, fourth (length t) k w o e)

-- What a turn leaves and answers is what the entry does, and the caller's record is then the turn's.
pub record Does (e : Entry) (r : Turn) (t : Table) (d : Called) : Type 0 where
  pub table : written t (caller_of e) r.after ≡ d.table
  pub answer : r.answer ≡ d.answer
  pub own : r.after ≡ record_of d.table (caller_of e)

-- An entry's number names its caller.
pub named : (e : ℕ) → caller_of (decoded e) ≡ claimant_in e
unfolding decoded caller
named e =
    decide (is_nine e) (λ a. rw a)
    (λ a. rw a (decide (eqb (kind_in e) 0) (λ b. rw b) (λ b. rw b (decide (eqb (kind_in e) 1) (λ d. rw d) (λ d. rw d)))))

pub barred : (k : Terms) (b : Barred) (t : Table) → Does (Err b) (turn_in k (Err b) t) t (record { table = t; answer = Refused b.refusal })
unfolding turn_in
barred k b t = record { table = written_same t b.who; answer = refl; own = refl }

pub entered_is : (k : Terms) (e : Entry) (t : Table) → Sound (length t) k t → Does e (turn_in k e t) t (entered k e t)
unfolding entered
entered_is k (Err b) t s = barred k b t
entered_is k (Ok c) t s =
    rw (turn_is k c t)
    (decide (within 1 (length t) (caller c))
    (λ e.
    let l = within_true 1 (length t) (caller c) e in
    let x = (turn k c t).after in
    rw (called_here s c l.0 l.1)
    (record { table = written_here t (caller c) x l.0; answer = refl; own = sym (own_row t (caller c) x l.0 l.1) }))
    (λ e.
    let none = record_nowhere t (caller c) e in
    rw (called_elsewhere s c e, turn_nowhere k c t s.opens e none)
    (record { table = written_nowhere t (caller c) blank e; answer = refl; own = sym none })))

pub entered_on : {n : ℕ} {k : Terms} {t : Table} (e : Entry) → Sound n k t → Does e (turn_in k e t) t (entered k e t)
entered_on {n} {k} {t} e s = entered_is k e t (rw s.length_is s)

-- An entry keeps the table sound.
pub sound_entered : {n : ℕ} {k : Terms} {t : Table} (e : Entry) → Sound n k t → Sound n k (entered k e t).table
unfolding entered
sound_entered {n} {k} {t} (Ok c) s = call_keeps_sound n k c t s
sound_entered (Err b) s = s
