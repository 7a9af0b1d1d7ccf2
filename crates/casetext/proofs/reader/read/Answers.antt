-- `read` meets its contract where a text is accepted: the entries drafted stand in the row's first places.
use lib.Seq.{take_all}
use Rattle.std.proofs.Common.{◌≡◌, ◌++◌, ℕ, List, length, take, drop, Ok, arith}
use Rattle.casetext.specs.declared.Case.{Case}
use Rattle.casetext.specs.Reading.{Said, told, row_after, Drafted}
use Rattle.casetext.specs.Reading.Said.{accepted, refused}
use Rattle.casetext.proofs.Gathering.{room_for_all}
use Rattle.casetext.proofs.reader.read.Goals as goal

-- What was drafted of an accepted text, as many entries of it as are copied, in front of the row's later places.
entries_stand : (r : Said) (row draft copied : List ℕ) {c : Case} {count : ℕ} → copied ≡ take count draft
    → Ok c ≡ told r → Drafted r draft → count ≡ length draft → copied ++ drop count row ≡ row_after r row
entries_stand (accepted n k es) row draft copied same e d size = rw (same, size, take_all (length draft) draft (omega arith), d)
entries_stand (refused why line) row draft copied same e d size = absurd cc

pub returns : goal.returns
returns c =
    let case = c.in_ok-case.ensures.value in
    let copied = c.copy_from_slice.ensures in
    rw (room_for_all c.args.entries.now c.args.text.now (omega arith))
    (case, entries_stand _ _ _ c.copy_from_slice.new.self (rw c.as_slice.ensures.value at copied.after) case c.drafted.ensures.drafted (omega (arith, c.len-count.ensures.value)))
