-- Every table that calls reach from a freshly opened one is sound.
use Rattle.rules.proofs.Rows.{opened_sound}
use Rattle.rules.proofs.Keeping.{sound_after}
use Rattle.promises.specs.Fairness.{StaysSound}

pub stays_sound : StaysSound
unfolding StaysSound
stays_sound n k o calls = sound_after calls (opened_sound n k o)
