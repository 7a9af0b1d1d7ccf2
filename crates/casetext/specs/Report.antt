-- What `boardcase` prints of a case text.
use Rattle.std.specs.Prelude.{ℕ, ◌+◌, List, [], ◌∷◌, ◌++◌, ltb, length, get_or, drop, Option, None, Some}
use Rattle.rules.specs.Tests.{pick, Verdict, first, by_verdict}
use Rattle.rules.specs.Answers.{refusal_number}
use Rattle.rules.specs.Rules.{open_refusals}
use Rattle.rules.specs.Tables.{opened}
use Rattle.store.specs.Schedules.{claimant_in}
use Rattle.store.specs.Trials.{terms_of, traced}
use Rattle.casetext.specs.Words.{ascii}
use Rattle.casetext.specs.Layout.{field_text, line_text}
use Rattle.casetext.specs.Reading.{Said, reading}
use Rattle.casetext.specs.Reading.Said.{accepted, refused}

-- A do line's report: its number, the claimant, and then what its entry left: place, Session, Choosing, Token, the answer.
unfoldable pub entry_text : (number entry : ℕ) → (left : List ℕ) → List ℕ
entry_text number entry left =
    field_text (ascii "at=") number ++ (field_text (ascii " who=") (claimant_in entry) ++
    (field_text (ascii " place=") (get_or left 0 0) ++ (field_text (ascii " session=") (get_or left 1 0) ++
    (field_text (ascii " raised=") (get_or left 2 0) ++ (field_text (ascii " token=") (get_or left 3 0) ++
    line_text (ascii " answer=") (get_or left 4 0))))))

-- The same for each entry, of which the first has this number; each left five numbers.
unfoldable pub entries_text : (number : ℕ) → (entries left : List ℕ) → List ℕ
entries_text number [] left = []
entries_text number (entry ∷ entries) left = entry_text number entry left ++ entries_text (number + 1) entries (drop 5 left)

unfoldable pub refusal_text : (number line : ℕ) → List ℕ
refusal_text number line = field_text (ascii "refused=") number ++ line_text (ascii " line=") line

-- What was run, and then how many do lines there are.
unfoldable pub run_text : (entries left : List ℕ) → List ℕ
run_text entries left = entries_text 1 entries left ++ line_text (ascii "end=") (length entries)

-- Refusal 1 of the opening is of line 1, and 2 of line 2.
unfoldable pub opened_text : Verdict → (claimants ceiling : ℕ) → (entries : List ℕ) → List ℕ
opened_text v n k entries =
    by_verdict v (run_text entries (traced (terms_of k) entries (opened n)))
    (λ r. refusal_text (refusal_number r) (refusal_number r))

unfoldable pub said_text : Said → List ℕ
said_text (accepted n k entries) = opened_text (first (open_refusals n (terms_of k))) n k entries
said_text (refused r line) = refusal_text (refusal_number r) line

-- All that is printed, from the text. The text is judged before the opening.
unfoldable pub printed : (text : List ℕ) → List ℕ
printed s = said_text (reading s)

-- 2,048 lines of at most 75 bytes, and `end=2048` with its line's end: no report is longer, and no shorter row is written to.
abbrev pub report_bytes : ℕ
report_bytes = 153609

unfoldable pub reported : (row : List ℕ) → (text : List ℕ) → Option ℕ
reported row s = pick (ltb (length row) report_bytes) None (Some (length (printed s)))

unfoldable pub report_row : (row : List ℕ) → (text : List ℕ) → List ℕ
report_row row s = pick (ltb (length row) report_bytes) row (printed s ++ drop (length (printed s)) row)
