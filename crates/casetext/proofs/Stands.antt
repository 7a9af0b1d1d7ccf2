-- That a text stands in a longer one, from a place up to another.
-- Assumes nothing.
use Prim.Native.Nat.{ℕ, suc, ◌+◌, ◌≤◌}
use native.Mathlib.Nat.{add-zero}
use native.Mathlib.Omega.{arith}
use mathlib.Core.Path.{◌≡◌, refl, sym, ap, ◌∙◌}
use mathlib.Core.Bool.{true}
use mathlib.Core.List.{List, [], ◌∷◌, ◌++◌, append_assoc}
use lib.ListN.{length, get_or, drop, length-append}
use lib.Seq.{drop-drop, drop-append_seam, get_or-drop, drop-cons}
use Rattle.casetext.specs.Pieces.{begins}
use Rattle.casetext.proofs.Words.{begins_true, begins_append, byte_inside}

pub record Stands (s : List ℕ) (at next : ℕ) (w : List ℕ) : Type 0 where
  pub ends : next ≡ at + length w
  pub text : drop at s ≡ w ++ drop next s

pub stands_at : (s : List ℕ) (at : ℕ) (w l : List ℕ) → drop at s ≡ w ++ l → Stands s at (at + length w) w
stands_at s at w l e = record {
  ends = refl;
  text = rw (← drop-drop (length w) at s, e, drop-append_seam w l);
}

pub rest_at : (s : List ℕ) (at : ℕ) (w l : List ℕ) → drop at s ≡ w ++ l → drop (at + length w) s ≡ l
rest_at s at w l e = rw (← drop-drop (length w) at s, e, drop-append_seam w l)

pub stands_as : (s : List ℕ) (at next : ℕ) (v w l : List ℕ) → v ≡ w → next ≡ at + length w → drop at s ≡ w ++ l → Stands s at next v
stands_as s at next v w l a b e = rw (a, b) (stands_at s at w l e)

pub stands_both : {s : List ℕ} {a b c : ℕ} {w v : List ℕ} → Stands s a b w → Stands s b c v → Stands s a c (w ++ v)
stands_both {s} {a} {b} {c} {w} {v} p q = record {
  ends = omega (arith, p.ends, q.ends, length-append w v);
  text = p.text ∙ ap (λ (l : List ℕ). w ++ l) q.text ∙ sym (append_assoc w v (drop c s));
}

module _ {s : List ℕ} {a c : ℕ} (w v : List ℕ) (p : Stands s a c (w ++ v)) where
  pub stands_left : Stands s a (a + length w) w
  stands_left = stands_at s a w (v ++ drop c s) (p.text ∙ append_assoc w v (drop c s))

  pub stands_right : Stands s (a + length w) c v
  stands_right = record {
    ends = omega (arith, p.ends, length-append w v);
    text = rest_at s a w (v ++ drop c s) (p.text ∙ append_assoc w v (drop c s));
  }

-- a word is found just where it stands
pub word_stands : (w s : List ℕ) (at : ℕ) → begins w (drop at s) ≡ true → Stands s at (at + length w) w
word_stands w s at e = stands_at s at w (drop (length w) (drop at s)) (begins_true w (drop at s) e)

pub word_found : {w s : List ℕ} {at next : ℕ} → Stands s at next w → begins w (drop at s) ≡ true
word_found {w} {s} {at} {next} p = rw p.text (begins_append w (drop next s))

-- a byte at a place is the first of what is left
pub first_byte : (s : List ℕ) (at : ℕ) → get_or s at 0 ≡ get_or (drop at s) 0 0
first_byte s at = sym (get_or-drop at s 0 0 ∙ ap (λ (i : ℕ). get_or s i 0) (add-zero at))

-- a byte that is not 0 stands where it was read
pub byte_stands : (s : List ℕ) (at b : ℕ) → 1 ≤ b → get_or s at 0 ≡ b → Stands s at (at + 1) (b ∷ [])
byte_stands s at b h e =
    stands_at s at (b ∷ []) (drop (suc at) s) (rw (← e) (drop-cons s at 0 (byte_inside s at (omega arith))))
