-- What is found in a line of a case text, read at a place.
use Rattle.std.specs.Prelude.{ℕ, ◌+◌, List, get_or, drop, eqb, Option, None}
use Rattle.rules.specs.Tests.{pick}
use Rattle.casetext.specs.Words.{ascii}
use Rattle.casetext.specs.Layout.{entry}
use Rattle.casetext.specs.Pieces.{found, and_then, begins, past, number_at, field_at}
use Rattle.casetext.specs.declared.cursor.Found.{Found}

-- What was found, if the line ends right after it, past the line's end.
unfoldable pub ended_at : (text : List ℕ) → Found → Option Found
ended_at s f = pick (eqb (get_or s f.next 0) 10) (found f.value (f.next + 1)) None

-- A line of a word and a number.
unfoldable pub line_at : (word : List ℕ) → (most : ℕ) → (text : List ℕ) → (at : ℕ) → Option Found
line_at w most s at = and_then (field_at w most s at) (ended_at s)

-- The entry of a call of this kind by the claimant found.
unfoldable pub called_at : (kind : ℕ) → (text : List ℕ) → (at : ℕ) → Option Found
called_at kind s at = and_then (number_at 255 s at) (λ who. found (entry kind who.value 0) who.next)

-- The entry of an ask by this claimant under the session found.
unfoldable pub asked_by : (who : ℕ) → (text : List ℕ) → (at : ℕ) → Option Found
asked_by who s at = and_then (field_at (ascii " ") 65535 s at) (λ session. found (entry 1 who session.value) session.next)

unfoldable pub ask_at : (text : List ℕ) → (at : ℕ) → Option Found
ask_at s at = and_then (number_at 255 s at) (λ who. asked_by who.value s who.next)

-- What stands after `do=`.
unfoldable pub turn_at : (text : List ℕ) → (at : ℕ) → Option Found
turn_at s at =
    pick (begins (ascii "step ") (drop at s)) (called_at 0 s (at + 5))
    (pick (begins (ascii "ask ") (drop at s)) (ask_at s (at + 4))
    (pick (begins (ascii "leave ") (drop at s)) (called_at 2 s (at + 6)) None))

unfoldable pub do_line_at : (text : List ℕ) → (at : ℕ) → Option Found
do_line_at s at = and_then (and_then (past (ascii "do=") s at) (turn_at s)) (ended_at s)
