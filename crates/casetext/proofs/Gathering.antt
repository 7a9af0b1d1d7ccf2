-- The do lines gathered one by one into a draft.
-- Assumes nothing.
use Prim.Native.Nat.{ℕ, zero, suc, ◌+◌, ◌-◌, ◌≤◌, ◌<◌}
use native.Mathlib.Omega.{arith}
use mathlib.Core.Path.{◌≡◌, refl}
use mathlib.Core.List.{List, [], ◌∷◌, ◌++◌, append-nil, append_assoc}
use lib.ListN.{length, length-append}
use borrow.Author.Tests.{le-leb, lt-leb, le-ltb}
use Rattle.std.specs.Prelude.{None, Some, Err}
use Rattle.rules.specs.declared.Refusal.TheVariants.{BadLine, TooManyLines}
use Rattle.casetext.specs.declared.Fault.{Fault}
use Rattle.casetext.specs.declared.cursor.Found.{Found}
use Rattle.casetext.specs.Lines.{do_line_at}
use Rattle.casetext.specs.Reading.{Said, before, onward, do_lines, reading, read_into, told, row_after}
use Rattle.casetext.specs.Reading.Said.{accepted, refused}

-- One turn of the do lines, by what is found.
module _ (n k : ℕ) (s : List ℕ) (at line : ℕ) where
  pub lines_end : (places : ℕ) → length s ≤ at → do_lines n k places s at line ≡ accepted n k []
  unfolding do_lines
  lines_end zero h = rw (le-leb _ _ h)
  lines_end (suc p) h = rw (le-leb _ _ h)

  module _ (h : at < length s) where
    pub lines_broken : (places : ℕ) → do_line_at s at ≡ None → do_lines n k places s at line ≡ refused BadLine line
    unfolding do_lines onward
    lines_broken zero e = rw (lt-leb _ _ h, e)
    lines_broken (suc p) e = rw (lt-leb _ _ h, e)

    pub lines_full : {f : Found} → do_line_at s at ≡ Some f → do_lines n k 0 s at line ≡ refused TooManyLines line
    unfolding do_lines onward before
    lines_full e = rw (lt-leb _ _ h, e)

    pub lines_more : (places : ℕ) {f : Found} → do_line_at s at ≡ Some f
        → do_lines n k (suc places) s at line ≡ before (f.value ∷ []) (do_lines n k places s f.next (line + 1))
    unfolding do_lines onward
    lines_more p e = rw (lt-leb _ _ h, e)

pub before_before : (a b : List ℕ) (r : Said) → before a (before b r) ≡ before (a ++ b) r
unfolding before
before_before a b (accepted n k es) = rw append_assoc
before_before a b (refused r line) = refl

pub before_none : (r : Said) → before [] r ≡ r
unfolding before
before_none (accepted a b es) = refl
before_none (refused a b) = refl

-- The loop's state: what the draft holds, and then what is still to be read, make up the whole.
pub record Gathering (n k : ℕ) (s : List ℕ) (from : ℕ) (draft : List ℕ) (at : ℕ) : Type 0 where
  pub few : length draft ≤ 2048
  pub rest : before draft (do_lines n k (2048 - length draft) s at (length draft + 3)) ≡ do_lines n k 2048 s from 3

pub gathering_start : (n k : ℕ) (s : List ℕ) (from : ℕ) → Gathering n k s from [] from
gathering_start n k s from = record { few = omega arith; rest = before_none (do_lines n k 2048 s from 3) }

module _ {n k : ℕ} {s : List ℕ} {from : ℕ} {draft : List ℕ} {at : ℕ} (g : Gathering n k s from draft at) where
  pub gathering_broken : at < length s → do_line_at s at ≡ None → do_lines n k 2048 s from 3 ≡ refused BadLine (length draft + 3)
  unfolding before
  gathering_broken h e = rw (← g.rest, lines_broken n k s at (length draft + 3) h (2048 - length draft) e)

  pub gathering_full : {f : Found} → at < length s → do_line_at s at ≡ Some f → length draft ≡ 2048
      → do_lines n k 2048 s from 3 ≡ refused TooManyLines (length draft + 3)
  unfolding before
  gathering_full h e m =
      let z : 2048 - length draft ≡ 0 = omega arith in
      rw (← g.rest, z, lines_full n k s at (length draft + 3) h e)

  pub gathering_more : {f : Found} → at < length s → do_line_at s at ≡ Some f → length draft < 2048
      → Gathering n k s from (draft ++ (f.value ∷ [])) f.next
  gathering_more {f} h e m =
      let size : length (draft ++ (f.value ∷ [])) ≡ length draft + 1 = length-append draft (f.value ∷ []) in
      let one : 2048 - length draft ≡ suc (2048 - (length draft + 1)) = omega arith in
      let line : length draft + 1 + 3 ≡ length draft + 3 + 1 = omega arith in
      record {
        few = omega arith;
        rest =
            rw (size, line, ← before_before)
            (rw (one, lines_more n k s at (length draft + 3) h (2048 - (length draft + 1)) e) at g.rest);
      }

  pub gathering_end : length s ≤ at → do_lines n k 2048 s from 3 ≡ accepted n k draft
  unfolding before
  gathering_end h = rw (← g.rest, lines_end n k s at (length draft + 3) (2048 - length draft) h, append-nil)

-- A refused text leaves the row as it was.
pub told_refused : (r : Said) {f : Fault} (held : List ℕ) → told r ≡ Err f → held ≡ row_after r held
told_refused (accepted n k es) held e = cc
told_refused (refused q line) held e = refl

pub ruleset gathering = (gathering_start, gathering_broken, gathering_full, gathering_more, gathering_end)

-- A row with room for every entry is read into.
pub room_for_all : (row s : List ℕ) → 2048 ≤ length row → read_into row s ≡ reading s
unfolding read_into
room_for_all row s h = rw (le-ltb _ _ h)
