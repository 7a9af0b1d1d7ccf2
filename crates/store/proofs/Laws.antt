-- The laws that the layers above rely on.
use native.Mathlib.Omega.{arith}
use mathlib.Core.Path.{◌≡◌}
use Rattle.std.specs.Prelude.{Ok}
use Rattle.rules.proofs.Choices.{decide}
use Rattle.rules.proofs.Laws.{call_answer_small}
use Rattle.store.specs.Schedules.{Entry, is_nine, call_of, decoded, entered}
use Rattle.store.specs.Laws.{EntryBarred, EntryMade, EntryIs, EntryKeepsSound, EntryAnswerSmall}
use Rattle.store.proofs.Entering.{sound_entered}

pub entry_barred : EntryBarred
unfolding decoded
entry_barred e b p = decide (is_nine e) (λ a. a) (λ a. cc (rw a at p))

pub entry_made : EntryMade
unfolding decoded
entry_made e c p =
    decide (is_nine e) (λ a. cc (rw a at p))
    (λ a.
    let q : ◌≡◌ {A = Entry} (Ok (call_of e)) (Ok c) = rw a at p in
    (a, cc))

pub entry_is : EntryIs
unfolding decoded entered
entry_is k e t = decide (is_nine e) (λ a. rw a) (λ a. rw a)

pub entry_keeps_sound : EntryKeepsSound
entry_keeps_sound n k e t s = sound_entered e s

pub entry_answer_small : EntryAnswerSmall
entry_answer_small k e t =
    rw (entry_is k e t)
    (decide (is_nine e) (λ a. rw a (omega arith)) (λ a. rw a (call_answer_small k (call_of e) t)))
