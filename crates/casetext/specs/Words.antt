-- Words as bytes.
use Rattle.std.specs.Prelude.{ℕ, List, [], ◌∷◌}
use Prim.Native.Char.{code}
use Prim.Native.String.{String, [] as empty, ◌∷◌ as char_then}

-- The bytes of a word in ASCII.
abbrev pub ascii : String → List ℕ
ascii empty = []
ascii (char_then c cs) = code c ∷ ascii cs
