-- The situations are as expected, by computation.
use mathlib.Core.Path.{refl}
use Rattle.store.specs.Standings.{opposed, stands, standing_refusal, standing_on, standing_of}
use Rattle.promises.specs.Situations.{happens, expected, situations, AsExpected}
use Rattle.promises.proofs.Computing.{computing_runs}

pub as_expected : AsExpected
unfolding AsExpected happens expected situations computing_runs opposed stands standing_refusal standing_on standing_of
as_expected = refl
