-- The laws that the layers above rely on.
use mathlib.Core.Path.{◌≡◌, ap}
use mathlib.Core.Bool.{not}
use Prim.Native.Nat.{ℕ, zero, suc, ◌≤◌}
use native.Mathlib.Omega.{arith}
use lib.Dec.{leb}
use Rattle.std.specs.Prelude.{Ok}
use borrow.Author.Tests.{ne_eqb, eqb-false, leb-true, leb-false, not-false}
use Rattle.rules.specs.Tests.{within, first}
use Rattle.rules.specs.Rules.{open_refusals}
use Rattle.rules.specs.Tables.{Table, record_of, Opens, Sound}
use Rattle.rules.specs.Laws.{OpensExactly, OpeningRefuses, OpenedSound, CallKeepsSound, SoundInRange, CallAnswerSmall}
use Rattle.rules.specs.declared.Terms.{Terms}
use Rattle.rules.proofs.Choices.{decide, within_true, within_holds, none_given, none_refuses, first_small}
use Rattle.rules.proofs.Rows.{beyond, rows_formed, any_bounds, opened_sound}
use Rattle.rules.proofs.Calls.{answer_small}
use Rattle.rules.proofs.Keeping.{sound_called}

opens : (n : ℕ) (k : Terms) → first (open_refusals n k) ≡ Ok tt → Opens n k
opens n k e =
    let g = none_given (open_refusals n k) e in
    let w = within_true 1 64 n (not-false (within 1 64 n) g.0) in
    let z = eqb-false k.ceiling 0 g.1.0 in
    record { some_row = w.0; rows = w.1; ceiling_set = omega arith }

refuses_nothing : (n : ℕ) (k : Terms) → Opens n k → first (open_refusals n k) ≡ Ok tt
refuses_nothing n k o =
    none_refuses (open_refusals n k)
    (ap not (within_holds 1 64 n o.some_row o.rows), (ne_eqb k.ceiling 0 (omega (arith, o.ceiling_set)), tt))

pub opens_exactly : OpensExactly
opens_exactly n k = (opens n k, refuses_nothing n k)

pub opening_refuses : OpeningRefuses
opening_refuses n k r e = first_small 2 (open_refusals n k) (omega arith) r e

pub opened_is_sound : OpenedSound
opened_is_sound = opened_sound

pub call_keeps_sound : CallKeepsSound
call_keeps_sound n k c t s = sound_called c s

any_place : {n : ℕ} {k : Terms} {t : Table} → Sound n k t → (w : ℕ) → (record_of t w).place ≤ 12
unfolding record_of
any_place s zero = omega arith
any_place {n} {k} {t} s (suc w) =
    decide (leb (suc w) n)
    (λ e. (rows_formed s (suc w) (omega arith) (leb-true (suc w) n e)).has_row)
    (λ e. rw (beyond t (suc w) (omega (arith, leb-false (suc w) n e, s.length_is))) (omega arith))

pub sound_in_range : SoundInRange
sound_in_range n k t s w =
    let b = any_bounds s w in
    record { place = any_place s w; choosing = b.choosing; session = b.session; token = b.token }

pub call_answer_small : CallAnswerSmall
call_answer_small = answer_small
