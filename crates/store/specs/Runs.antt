-- What opening and running give back of all that was lent to them. Refused, they change nothing.
use Rattle.std.specs.Prelude.{ℕ, ◌+◌, Bool, not, List, [], ◌∷◌, ◌++◌, map, ltb, length, drop, position, Option, option_map, Ok, Err}
use Rattle.rules.specs.Tests.{◌when◌, Verdict, first, by_verdict}
use Rattle.rules.specs.Places.{well_formed}
use Rattle.rules.specs.Answers.{byte_of}
use Rattle.rules.specs.Rules.{open_refusals}
use Rattle.rules.specs.Tables.{Table, opened, all_well_formed}
use Rattle.rules.specs.declared.Terms.{Terms}
use Rattle.rules.specs.declared.Board.{Board}
use Rattle.rules.specs.declared.Refusal.TheVariants.{Broken, NoRoom}
use Rattle.store.specs.declared.refusals.Judged.{Judged}
use Rattle.store.specs.Schedules.{ran, answered}

-- Where the first record that is not well-formed stands, counted from 0 ..
abbrev pub first_broken : Terms → Table → Option ℕ
first_broken k t = position (λ c. not (well_formed (length t) k c)) t

-- .. and the number of that record, counted from 1.
abbrev pub lowest_broken : Terms → Table → Option ℕ
lowest_broken k t = option_map (λ row. row + 1) (first_broken k t)

-- What the rules are told of a table.
abbrev pub board_of : Terms → Table → Board
board_of k t = record { n = length t; terms = k }

-- What is found of a table, once for a call or for a whole run.
abbrev pub judged_of : Terms → Table → Judged
judged_of k t = record { board = board_of k t; broken = lowest_broken k t }

-- Opening: all fields of all records 0.
abbrev pub open_refusal : (n : ℕ) → Terms → Verdict
open_refusal n k = first (open_refusals n k)

unfoldable pub opening : Terms → Table → Table
opening k t = by_verdict (open_refusal (length t) k) (opened (length t)) (λ r. t)

-- Running: 10, an answer row shorter than the schedule, comes right after 3.
unfoldable pub run_refusal : (n : ℕ) → Terms → (broken : Bool) → (entries places : ℕ) → Verdict
run_refusal n k broken m l = first (open_refusals n k ++ (Broken when broken ∷ NoRoom when ltb l m ∷ []))

pub record Ran : Type 0 where
  pub rows : Table
  pub answers : List ℕ
  pub outcome : Verdict

-- One answer byte for each entry, and the later bytes of the answer row as they were.
abbrev pub ran_unless : Verdict → Terms → (schedule row : List ℕ) → Table → Ran
ran_unless v k es row t =
    by_verdict v
    (record { rows = ran k es t; answers = map byte_of (answered k es t) ++ drop (length es) row; outcome = Ok tt })
    (λ r. record { rows = t; answers = row; outcome = Err r })

unfoldable pub running : Terms → (schedule row : List ℕ) → Table → Ran
running k es row t =
    ran_unless (run_refusal (length t) k (not (all_well_formed (length t) k t)) (length es) (length row)) k es row t
