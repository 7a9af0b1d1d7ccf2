-- 01's listing, by computation.
-- Assumes nothing.
use mathlib.Core.Path.{refl}
use Rattle.rules.specs.Tests.{first}
use Rattle.rules.specs.Places.{places, place_at, rows, fits, well_formed}
use Rattle.rules.specs.Rules.{conflict, before, read_at, reads, passed, stepped, refusals, unless, asked, step_taken, left}
use Rattle.rules.specs.Tables.{opened, record_of, value_read, all_well_formed, caller, turn, unless_refused, table_refusal, called}
use Rattle.store.specs.Schedules.{decoded, entered}
use Rattle.store.specs.Trials.{traced}
use Rattle.casetext.specs.Numerals.{numeral, numeral_within}
use Rattle.casetext.specs.Pieces.{past, digits_from, number_at, field_at}
use Rattle.casetext.specs.Lines.{ended_at, line_at, called_at, asked_by, ask_at, turn_at, do_line_at}
use Rattle.casetext.specs.Reading.{before as before_said, onward, do_lines, reading}
use Rattle.casetext.specs.Report.{entry_text, entries_text, refusal_text, run_text, opened_text, said_text, printed}
use Rattle.casetext.specs.Promises.{listed_case, listing, AsListed}

pub as_listed : AsListed
unfolding listed_case listing first places place_at rows fits well_formed conflict before read_at reads passed stepped refusals unless asked
    step_taken left opened record_of value_read all_well_formed caller turn unless_refused table_refusal called decoded entered traced
    numeral numeral_within past digits_from number_at field_at ended_at line_at called_at asked_by ask_at turn_at do_line_at
    before_said onward do_lines reading entry_text entries_text refusal_text run_text opened_text said_text printed
as_listed = refl
