-- What a case text says, read line by line from the top: the first line that is refused decides.
use Rattle.std.specs.Prelude.{ℕ, zero, suc, ◌+◌, ◌≡◌, List, [], ◌∷◌, ◌++◌, length, drop, leb, ltb, Option, None, Some, Result, Ok, Err}
use Rattle.rules.specs.Tests.{pick}
use Rattle.casetext.specs.Words.{ascii}
use Rattle.casetext.specs.Lines.{line_at, do_line_at}
use Rattle.rules.specs.declared.Refusal.{Refusal}
use Rattle.rules.specs.declared.Refusal.TheVariants.{NoRoom, TooLong, BadLine, TooManyLines}
use Rattle.casetext.specs.declared.cursor.Found.{Found}
use Rattle.casetext.specs.declared.Case.{Case}
use Rattle.casetext.specs.declared.Fault.{Fault}

-- A case: the two numbers and the entries; or a refusal with its line.
pub data Said : Type 0 where
  accepted : (claimants ceiling : ℕ) → (entries : List ℕ) → Said
  refused : Refusal → (line : ℕ) → Said

-- The case that begins with these entries.
unfoldable pub before : (entries : List ℕ) → Said → Said
before es (accepted n k rest) = accepted n k (es ++ rest)
before es (refused r line) = refused r line

-- One line: its entry and what comes after, or 12.
unfoldable pub onward : (line : ℕ) → Option Found → ((next : ℕ) → Said) → Said
onward line None after = refused BadLine line
onward line (Some f) after = before (f.value ∷ []) (after f.next)

-- The do lines from a place on, the first of which has this number, where so many may still come.
unfoldable pub do_lines : (claimants ceiling places : ℕ) → (text : List ℕ) → (at line : ℕ) → Said
do_lines n k zero s at line =
    pick (leb (length s) at) (accepted n k []) (onward line (do_line_at s at) (λ next. refused TooManyLines line))
do_lines n k (suc places) s at line =
    pick (leb (length s) at) (accepted n k [])
    (onward line (do_line_at s at) (λ next. do_lines n k places s next (line + 1)))

abbrev pub from_line3 : (text : List ℕ) → (claimants : ℕ) → Option Found → Said
from_line3 s n None = refused BadLine 2
from_line3 s n (Some f) = do_lines n f.value 2048 s f.next 3

abbrev pub from_line2 : (text : List ℕ) → Option Found → Said
from_line2 s None = refused BadLine 1
from_line2 s (Some f) = from_line3 s f.value (line_at (ascii "ceiling=") 4294967295 s f.next)

unfoldable pub reading : (text : List ℕ) → Said
reading s =
    pick (ltb 32768 (length s)) (refused TooLong 0) (from_line2 s (line_at (ascii "claimants=") 4294967295 s 0))

-- The same into a lent row, which has room for 2,048 entries or is refused first.
unfoldable pub read_into : (row : List ℕ) → (text : List ℕ) → Said
read_into row s = pick (ltb (length row) 2048) (refused NoRoom 0) (reading s)

-- What the reader gives back.
abbrev pub told : Said → Result Case Fault
told (accepted n k entries) = Ok (record { claimants = n; ceiling = k; count = length entries })
told (refused r line) = Err (record { refusal = r; line = line })

-- What the lent row holds then: the entries in its first places, or what it held.
abbrev pub row_after : Said → List ℕ → List ℕ
row_after (accepted n k entries) held = entries ++ drop (length entries) held
row_after (refused r line) held = held

-- A draft holds the entries. Of a refused text a draft says nothing.
abbrev pub Drafted : Said → (draft : List ℕ) → Type 0
Drafted (accepted n k entries) draft = draft ≡ entries
Drafted (refused r line) draft = Unit {0}
