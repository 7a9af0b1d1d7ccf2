-- The layout of a case text, by writing: a line is the text of what it says.
use Rattle.std.specs.Prelude.{ℕ, ◌+◌, ◌*◌, ◌≤◌, ◌≡◌, List, [], ◌∷◌, ◌++◌}
use Rattle.rules.specs.declared.Call.{Call}
use Rattle.rules.specs.declared.Call.TheVariants.{Ask, Step, Leave}
use Rattle.casetext.specs.Words.{ascii}
use Rattle.casetext.specs.Numerals.{numeral}

-- A do line says a call. Claimants go up to 255 and sessions up to 65,535.
unfoldable pub InRange : Call → Type 0
InRange (Ask who session) = (who ≤ 255) × (session ≤ 65535)
InRange (Step who) = who ≤ 255
InRange (Leave who) = who ≤ 255

unfoldable pub AllInRange : List Call → Type 0
AllInRange [] = Unit {0}
AllInRange (t ∷ ts) = InRange t × AllInRange ts

-- A schedule's entry: kind × 16,777,216 + claimant × 65,536 + session. Kind 0 is step, 1 ask, 2 leave.
abbrev pub entry : (kind who session : ℕ) → ℕ
entry kind who session = kind * 16777216 + who * 65536 + session

unfoldable pub entry_of : Call → ℕ
entry_of (Ask who session) = entry 1 who session
entry_of (Step who) = entry 0 who 0
entry_of (Leave who) = entry 2 who 0

-- A word and a number.
abbrev pub field_text : (word : List ℕ) → (n : ℕ) → List ℕ
field_text w n = w ++ numeral n

abbrev pub line_text : (word : List ℕ) → (n : ℕ) → List ℕ
line_text w n = field_text w n ++ ascii "\n"

unfoldable pub turn_text : Call → List ℕ
turn_text (Ask who session) = field_text (ascii "ask ") who ++ field_text (ascii " ") session
turn_text (Step who) = field_text (ascii "step ") who
turn_text (Leave who) = field_text (ascii "leave ") who

abbrev pub do_text : Call → List ℕ
do_text t = ascii "do=" ++ turn_text t ++ ascii "\n"

unfoldable pub do_texts : List Call → List ℕ
do_texts [] = []
do_texts (t ∷ ts) = do_text t ++ do_texts ts

-- The first two lines.
abbrev pub head_text : (claimants ceiling : ℕ) → List ℕ
head_text n k = line_text (ascii "claimants=") n ++ line_text (ascii "ceiling=") k

abbrev pub case_text : (claimants ceiling : ℕ) → List Call → List ℕ
case_text n k ts = head_text n k ++ do_texts ts

-- A text keeps the layout if it is the lines of some numbers and calls in range.
pub record Writes (s : List ℕ) (claimants ceiling : ℕ) (calls : List Call) : Type 0 where
  pub first : claimants ≤ 4294967295
  pub second : ceiling ≤ 4294967295
  pub ranged : AllInRange calls
  pub text : s ≡ case_text claimants ceiling calls
