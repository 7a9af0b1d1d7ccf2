-- What is found at a place of a text: a byte, a word, a number, a word with its number.
use Rattle.std.specs.Prelude.{ℕ, suc, ◌+◌, ◌-◌, ◌*◌, Bool, List, [], ◌∷◌, length, get_or, drop, eqb, leb, Option, None, Some}
use Rattle.std.specs.List.{starts_with}
use Rattle.std.specs.Char.{is_ascii_digit}
use Rattle.rules.specs.Tests.{pick}
use Rattle.casetext.specs.declared.cursor.Found.{Found}

-- A number, and the place past it.
abbrev pub found : (value next : ℕ) → Option Found
found v next = Some (record { value = v; next = next })

-- What comes of a thing found; of nothing, nothing comes.
abbrev pub and_then : {A B : Type 0} → Option A → (A → Option B) → Option B
and_then None f = None
and_then (Some x) f = f x

-- The list begins with this word.
abbrev pub begins : (word : List ℕ) → List ℕ → Bool
begins w l = starts_with eqb l w

-- The place past this word, if the text goes on with it.
unfoldable pub past : (word : List ℕ) → (text : List ℕ) → (at : ℕ) → Option ℕ
past w s at = pick (begins w (drop at s)) (Some (at + length w)) None

-- The number that digits say, read on from a value at a place: up to the first byte that is no digit.
unfoldable pub digits_from : (most value at : ℕ) → List ℕ → Option Found
digits_from most v at [] = found v at
digits_from most v at (b ∷ bs) =
    pick (is_ascii_digit b)
    (pick (leb (v * 10 + (b - 48)) most) (digits_from most (v * 10 + (b - 48)) (suc at) bs) None)
    (found v at)

-- A number of at most `most`: 0 is a single digit, and no other begins with it.
unfoldable pub number_at : (most : ℕ) → (text : List ℕ) → (at : ℕ) → Option Found
number_at most s at =
    pick (eqb (get_or s at 0) 48) (found 0 (at + 1))
    (pick (is_ascii_digit (get_or s at 0)) (digits_from most 0 at (drop at s)) None)

unfoldable pub field_at : (word : List ℕ) → (most : ℕ) → (text : List ℕ) → (at : ℕ) → Option Found
field_at w most s at = and_then (past w s at) (number_at most s)
