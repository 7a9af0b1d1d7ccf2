-- To compute closed calls and runs.
use Rattle.rules.specs.Tests.{first}
use Rattle.rules.specs.Places.{rows, places, place_at, fits, well_formed}
use Rattle.rules.specs.Rules.{conflict, before, read_at, reads, passed, stepped, refusals, unless, asked, step_taken, left}
use Rattle.rules.specs.Tables.{opened, record_of, value_read, all_well_formed, caller, turn, unless_refused, table_refusal, called, after}
use Rattle.store.specs.Schedules.{decoded, entered, ran, answered}
use Rattle.store.specs.Runs.{run_refusal, running}

-- Whoever unfolds one of these unfolds the rules ..
unfoldable rules_compute : Unit {0}
unfolding first rows places place_at fits well_formed conflict before read_at reads passed stepped refusals unless asked step_taken left
rules_compute = tt

-- .. and all that a call on a table is made of ..
unfoldable pub computing : Unit {0}
unfolding rules_compute opened record_of value_read all_well_formed caller turn unless_refused table_refusal called after
computing = tt

-- .. and a run.
unfoldable pub computing_runs : Unit {0}
unfolding computing decoded entered ran answered run_refusal running
computing_runs = tt
