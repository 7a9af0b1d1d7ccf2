-- A number as text: its decimal digits, with no zero in front.
use Rattle.std.specs.Prelude.{ℕ, zero, suc, ◌+◌, ◌/◌, ◌%◌, List, [], ◌∷◌, ◌++◌, ltb}
use Rattle.rules.specs.Tests.{pick}

-- The digits of n where there are at most this many: those of n / 10, unless n is a single digit, and then the last one.
unfoldable pub numeral_within : ℕ → ℕ → List ℕ
numeral_within zero n = []
numeral_within (suc most) n =
    let front = numeral_within most (n / 10) in
    pick (ltb n 10) [] front ++ ((48 + n % 10) ∷ [])

-- n has at most n + 1 digits.
unfoldable pub numeral : ℕ → List ℕ
numeral n = numeral_within (suc n) n
