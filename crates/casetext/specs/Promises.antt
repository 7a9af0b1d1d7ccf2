-- What is promised of the reader and of the report: the texts accepted and refused are exactly those that 01 names.
use Rattle.std.specs.Prelude.{ℕ, ◌+◌, ◌≤◌, ◌<◌, false, ◌≡◌, ◌≢◌, ◌↔◌, List, [], ◌∷◌, ◌++◌, map, length, get_or, drop, Some, Ok}
use Rattle.rules.specs.declared.Call.{Call}
use Rattle.rules.specs.declared.Call.TheVariants.{Step}
use Rattle.store.specs.Schedules.{is_nine, call_of}
use Rattle.rules.specs.Answers.{refusal_number}
use Rattle.casetext.specs.Words.{ascii}
use Rattle.casetext.specs.Layout.{InRange, AllInRange, entry_of, line_text, do_text, case_text, Writes}
use Rattle.casetext.specs.Reading.{reading, read_into, told, row_after}
use Rattle.casetext.specs.Answers.{reading_number, reading_line, reading_values}
use Rattle.casetext.specs.Report.{printed, report_bytes, reported}
use Rattle.rules.specs.declared.Refusal.{Refusal}
use Rattle.casetext.specs.declared.Case.{Case}
use Rattle.casetext.specs.Reading.Said.{accepted, refused}

-- A text that is a case: short enough, in the layout, with at most 2,048 do lines. The entries are those of its calls.
pub record IsCase (s : List ℕ) (claimants ceiling : ℕ) (entries : List ℕ) : Type 0 where
  pub short : length s ≤ 32768
  pub calls : List Call
  pub written : Writes s claimants ceiling calls
  pub few : length calls ≤ 2048
  pub says : entries ≡ map entry_of calls

-- A text is accepted exactly if it is a case, with the very numbers and entries that write it.
abbrev pub AcceptedExactly : Type 0
AcceptedExactly =
    (s : List ℕ) (claimants ceiling : ℕ) (entries : List ℕ)
    → reading s ≡ accepted claimants ceiling entries ↔ IsCase s claimants ceiling entries

-- No two readings of one text, whatever its length.
abbrev pub OneReading : Type 0
OneReading =
    (s : List ℕ) (n k n' k' : ℕ) (ts ts' : List Call)
    → Writes s n k ts → Writes s n' k' ts' → (n ≡ n') × (k ≡ k') × (ts ≡ ts')

-- What is left of a text does not begin with a line of this word and a number in range; nor with a do line.
abbrev pub NoNumberLine : (word : List ℕ) → (rest : List ℕ) → Type 0
NoNumberLine word rest = (n : ℕ) (after : List ℕ) → n ≤ 4294967295 → rest ≡ line_text word n ++ after → ⊥

abbrev pub NoDoLine : (rest : List ℕ) → Type 0
NoDoLine rest = (t : Call) (after : List ℕ) → InRange t → rest ≡ do_text t ++ after → ⊥

-- The lines before this one are as the layout wants them, and this one is not. Lines 1 and 2 may also be missing.
pub data FirstBad (s : List ℕ) (line : ℕ) : Type 0 where
  line_1 : line ≡ 1 → NoNumberLine (ascii "claimants=") s → FirstBad s line
  line_2 : (n : ℕ) (rest : List ℕ) → line ≡ 2 → n ≤ 4294967295
      → s ≡ line_text (ascii "claimants=") n ++ rest → NoNumberLine (ascii "ceiling=") rest → FirstBad s line
  line_3_on : (n k : ℕ) (ts : List Call) (rest : List ℕ) → line ≡ 3 + length ts → n ≤ 4294967295 → k ≤ 4294967295
      → AllInRange ts → length ts ≤ 2048 → s ≡ case_text n k ts ++ rest → (rest ≡ [] → ⊥) → NoDoLine rest → FirstBad s line

-- This line is a well-formed do line after 2,048 of them.
pub record TooMany (s : List ℕ) (line : ℕ) : Type 0 where
  pub claimants : ℕ
  pub ceiling : ℕ
  pub calls : List Call
  pub more : Call
  pub rest : List ℕ
  pub at : line ≡ 2051
  pub first : claimants ≤ 4294967295
  pub second : ceiling ≤ 4294967295
  pub ranged : AllInRange calls
  pub many : length calls ≡ 2048
  pub in_range : InRange more
  pub text : s ≡ case_text claimants ceiling calls ++ (do_text more ++ rest)

-- Why a text is refused with this number at this line.
pub data Cause (s : List ℕ) (number line : ℕ) : Type 0 where
  long : number ≡ 11 → line ≡ 0 → 32768 < length s → Cause s number line
  broken : number ≡ 12 → length s ≤ 32768 → FirstBad s line → Cause s number line
  many : number ≡ 13 → length s ≤ 32768 → TooMany s line → Cause s number line

-- A text is refused exactly for its cause: the line given is that of the first line at fault.
abbrev pub RefusedExactly : Type 0
RefusedExactly = (s : List ℕ) (r : Refusal) (line : ℕ) → reading s ≡ refused r line ↔ Cause s (refusal_number r) line

-- Why the reader refuses a text so, with this row lent for its entries: 10 comes before all that is wrong with the text.
pub data ReaderCause (row s : List ℕ) (number line : ℕ) : Type 0 where
  short : number ≡ 10 → line ≡ 0 → length row < 2048 → ReaderCause row s number line
  of_text : 2048 ≤ length row → Cause s number line → ReaderCause row s number line

-- The reader refuses with a number and a line exactly for that cause ..
abbrev pub ReaderRefuses : Type 0
ReaderRefuses =
    (row s : List ℕ) (number line : ℕ) → 1 ≤ number
    → let r = told (read_into row s) in
    (reading_number r ≡ number) × (reading_line r ≡ line) ↔ ReaderCause row s number line

-- .. and a refused reading leaves the lent row as it was.
abbrev pub RefusedReading : Type 0
RefusedReading = (row s : List ℕ) → let said = read_into row s in reading_number (told said) ≢ 0 → row_after said row ≡ row

-- An accepted one returns the two numbers and the count of entries, which are the row's first numbers then; later ones stay.
abbrev pub AcceptedReading : Type 0
AcceptedReading =
    (row s : List ℕ) (claimants ceiling : ℕ) (entries : List ℕ) → 2048 ≤ length row → IsCase s claimants ceiling entries
    → let said = read_into row s in
    (reading_number (told said) ≡ 0) × (reading_values (told said) ≡ claimants ∷ ceiling ∷ length entries ∷ [])
    × (row_after said row ≡ entries ++ drop (length entries) row)

-- No reading has more entries than a case text may have do lines.
abbrev pub ReadWithin : Type 0
ReadWithin = (row s : List ℕ) (c : Case) → told (read_into row s) ≡ Ok c → c.count ≤ 2048

-- Every entry given back makes the very call that its do line says: refusal 9 names none of them.
abbrev pub EntriesMade : Type 0
EntriesMade =
    (s : List ℕ) (n k : ℕ) (entries : List ℕ) (c : IsCase s n k entries) (i : ℕ) → i < length entries
    → let e = get_or entries i 0 in (is_nine e ≡ false) × (call_of e ≡ get_or c.calls i (Step 0))

-- No report is longer than the row that every report fits.
abbrev pub ReportFits : Type 0
ReportFits = (s : List ℕ) → length (printed s) ≤ report_bytes

-- What was printed lies within the row that was lent.
abbrev pub PrintedWithin : Type 0
PrintedWithin = (row s : List ℕ) (bytes : ℕ) → reported row s ≡ Some bytes → bytes ≤ length row

-- Something is always printed.
abbrev pub PrintsSomething : Type 0
PrintsSomething = (s : List ℕ) → 1 ≤ length (printed s)

-- 01's listing, to the byte.
unfoldable pub listed_case : List ℕ
listed_case =
    ascii "claimants=1\nceiling=1\ndo=ask 1 7\n" ++
    ascii "do=step 1\ndo=step 1\ndo=step 1\ndo=step 1\ndo=step 1\ndo=step 1\ndo=step 1\ndo=step 1\n" ++
    ascii "do=leave 1\ndo=step 1\ndo=step 1\n"

unfoldable pub listing : List ℕ
listing =
    ascii "at=1 who=1 place=1 session=0 raised=0 token=0 answer=1\n" ++
    ascii "at=2 who=1 place=2 session=7 raised=0 token=0 answer=2\n" ++
    ascii "at=3 who=1 place=3 session=7 raised=1 token=0 answer=3\n" ++
    ascii "at=4 who=1 place=4 session=7 raised=1 token=0 answer=4\n" ++
    ascii "at=5 who=1 place=5 session=7 raised=1 token=1 answer=5\n" ++
    ascii "at=6 who=1 place=6 session=7 raised=0 token=1 answer=6\n" ++
    ascii "at=7 who=1 place=8 session=7 raised=0 token=1 answer=8\n" ++
    ascii "at=8 who=1 place=9 session=7 raised=0 token=1 answer=9\n" ++
    ascii "at=9 who=1 place=10 session=7 raised=0 token=1 answer=10\n" ++
    ascii "at=10 who=1 place=11 session=7 raised=0 token=1 answer=11\n" ++
    ascii "at=11 who=1 place=12 session=7 raised=0 token=0 answer=12\n" ++
    ascii "at=12 who=1 place=0 session=0 raised=0 token=0 answer=0\n" ++
    ascii "end=12\n"

abbrev pub AsListed : Type 0
AsListed = printed listed_case ≡ listing
