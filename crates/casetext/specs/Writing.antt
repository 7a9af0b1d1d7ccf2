-- A text written with a pen: what the row held before the pen's place stays, and so does what comes after the text.
use Rattle.std.specs.Prelude.{ℕ, ◌≤◌, ◌≡◌, List, ◌++◌, length, take, drop}
use Rattle.casetext.specs.declared.writing.Pen.{Pen}

-- The row up to the pen's place, and what is left of it from there on.
abbrev pub done : Pen → List ℕ
done p = take p.at p.row.now

abbrev pub left : Pen → List ℕ
left p = drop p.at p.row.now

-- There is room for the text.
pub record Room (pen : Pen) (text : List ℕ) : Type 0 where
  pub fits : length text ≤ length (left pen)

-- The text was written, into the same row.
pub record Wrote (pen : Pen) (text : List ℕ) (after : Pen) : Type 0 where
  pub row : after.row.ghost_name ≡ pen.row.ghost_name
  pub done : done after ≡ done pen ++ text
  pub left : left after ≡ drop (length text) (left pen)

-- The text was written at a row's beginning: how many bytes, and what the row holds then.
pub record Filled (held text : List ℕ) (bytes : ℕ) (after : List ℕ) : Type 0 where
  pub ends : bytes ≡ length text
  pub row : after ≡ text ++ drop (length text) held
