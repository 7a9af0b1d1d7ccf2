-- What is promised of the writer: what it writes is read back, what was read is written back, and each refusal is given exactly for its cause.
use Rattle.std.specs.Prelude.{ℕ, ◌≤◌, ◌<◌, true, false, ◌≡◌, ◌≢◌, ◌↔◌, List, [], ◌∷◌, ◌++◌, length, get_or, take, drop, replicate, Ok}
use Rattle.store.specs.Schedules.{is_nine}
use Rattle.casetext.specs.Layout.{entry}
use Rattle.casetext.specs.Reading.{read_into}
use Rattle.casetext.specs.Reading.Said.{accepted}
use Rattle.casetext.specs.Written.{schedule_text, written, written_row}
use Rattle.casetext.specs.Answers.{written_number, written_bytes}

-- Reading what was written gives the same three back, into any row that the reader takes.
abbrev pub ReadsBack : Type 0
ReadsBack =
    (claimants ceiling : ℕ) (schedule lent row : List ℕ) → claimants ≤ 4294967295 → ceiling ≤ 4294967295 → 2048 ≤ length row
    → let w = written claimants ceiling schedule lent in
    written_number w ≡ 0
    → read_into row (take (written_bytes w) (written_row claimants ceiling schedule lent)) ≡ accepted claimants ceiling schedule

-- Writing what was read gives the same bytes, wherever there is room for them; the rest stays as it was.
abbrev pub WritesBack : Type 0
WritesBack =
    (text row lent : List ℕ) (claimants ceiling : ℕ) (schedule : List ℕ)
    → read_into row text ≡ accepted claimants ceiling schedule → length text ≤ length lent
    → let w = written claimants ceiling schedule lent in
    (written_number w ≡ 0) × (written_bytes w ≡ length text) × (written_row claimants ceiling schedule lent ≡ text ++ drop (length text) lent)

-- Some entry is one that refusal 9 names, also one past the 2,048th; or none is.
abbrev pub SomeNine : (schedule : List ℕ) → Type 0
SomeNine es = (i : ℕ) × (i < length es) × (is_nine (get_or es i 0) ≡ true)

abbrev pub NoNine : (schedule : List ℕ) → Type 0
NoNine es = (i : ℕ) → i < length es → is_nine (get_or es i 0) ≡ false

-- Why a schedule is refused with this number, where this many bytes are lent.
pub data WriterCause (claimants ceiling : ℕ) (schedule : List ℕ) (room number : ℕ) : Type 0 where
  barred : number ≡ 9 → SomeNine schedule → WriterCause claimants ceiling schedule room number
  many : number ≡ 13 → NoNine schedule → 2048 < length schedule → WriterCause claimants ceiling schedule room number
  long : number ≡ 11 → NoNine schedule → length schedule ≤ 2048 → 32768 < length (schedule_text claimants ceiling schedule)
      → WriterCause claimants ceiling schedule room number
  short : number ≡ 11 → NoNine schedule → length schedule ≤ 2048 → room < length (schedule_text claimants ceiling schedule)
      → WriterCause claimants ceiling schedule room number

-- A schedule is refused exactly for its cause ..
abbrev pub WriterRefuses : Type 0
WriterRefuses =
    (claimants ceiling : ℕ) (schedule lent : List ℕ) (number : ℕ) → 1 ≤ number
    → written_number (written claimants ceiling schedule lent) ≡ number ↔ WriterCause claimants ceiling schedule (length lent) number

-- .. and then the lent bytes are as they were.
abbrev pub RefusedWriting : Type 0
RefusedWriting =
    (claimants ceiling : ℕ) (schedule lent : List ℕ)
    → written_number (written claimants ceiling schedule lent) ≢ 0 → written_row claimants ceiling schedule lent ≡ lent

-- Every other one is written: the text in front, whose bytes are told, and the rest as it was.
abbrev pub AcceptedWriting : Type 0
AcceptedWriting =
    (claimants ceiling : ℕ) (schedule lent : List ℕ)
    → let text = schedule_text claimants ceiling schedule in
    let w = written claimants ceiling schedule lent in
    NoNine schedule → length schedule ≤ 2048 → length text ≤ 32768 → length text ≤ length lent
    → (written_number w ≡ 0) × (written_bytes w ≡ length text) × (written_row claimants ceiling schedule lent ≡ text ++ drop (length text) lent)

-- What was written is no longer than a case text may be, and lies within what was lent.
abbrev pub WrittenWithin : Type 0
WrittenWithin =
    (claimants ceiling : ℕ) (schedule lent : List ℕ) (bytes : ℕ)
    → written claimants ceiling schedule lent ≡ Ok bytes → (bytes ≤ 32768) × (bytes ≤ length lent)

-- Each of these happens. 2,046 asks of 16 bytes each, after 32 bytes of head, are the longest text; a head that is one byte longer is refused.
abbrev pub longest : List ℕ
longest = replicate 2046 (entry 1 10 65535)

pub record EachHappens (lent : List ℕ) : Type 0 where
  pub most : written_bytes (written 64 4294967295 longest lent) ≡ 32768
  pub over : written_number (written 100 4294967295 longest lent) ≡ 11
  pub nobody : written_bytes (written 0 0 [] lent) ≡ 22
  pub no_room : written_number (written 0 0 [] []) ≡ 11
  pub many : written_number (written 1 1 (replicate 2049 0) lent) ≡ 13
  pub barred : written_number (written 1 1 (replicate 2049 0 ++ (entry 3 1 0 ∷ [])) lent) ≡ 9

abbrev pub WriterHappens : Type 0
WriterHappens = (lent : List ℕ) → 32768 ≤ length lent → EachHappens lent
