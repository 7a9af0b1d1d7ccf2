-- Whole texts: what the do lines come to, and what a text comes to.
-- Assumes nothing.
use Prim.Native.Nat.{ℕ, zero, suc, ◌+◌, ◌-◌, ◌≤◌, ◌<◌}
use native.Mathlib.Nat.{sub-zero, add-zero}
use native.Mathlib.Omega.{arith}
use mathlib.Core.Path.{◌≡◌, refl, sym, ap, ◌∙◌}
use mathlib.Core.List.{List, [], ◌∷◌, ◌++◌, append_assoc, map}
use lib.Dec.{leb}
use lib.ListN.{length, drop, length-append, length-drop, drop_of_length-le}
use borrow.Author.Tests.{leb-true, leb-false}
use Rattle.rules.specs.declared.Call.{Call}
use Rattle.casetext.specs.Layout.{InRange, AllInRange, entry_of, do_text, do_texts}
use Rattle.casetext.specs.Lines.{do_line_at}
use Rattle.casetext.specs.Reading.{Said, before, do_lines}
use Rattle.casetext.specs.Reading.Said.{accepted, refused}
use Rattle.casetext.specs.Promises.{NoDoLine}
use Rattle.std.specs.Prelude.{Option, None, Some}
use Rattle.rules.specs.declared.Refusal.TheVariants.{BadLine, TooManyLines}
use Rattle.casetext.specs.declared.cursor.Found.{Found}
use borrow.Table.Steps.{cases as decide}
use Rattle.casetext.proofs.Gathering.{lines_end, lines_broken, lines_full, lines_more, before_none, before_before}
use Rattle.casetext.proofs.Stands.{Stands, stands_at, rest_at}
use Rattle.casetext.proofs.Turns.{do_found, do_stands}

-- something is left, so the place is before the end
pub inside : (s : List ℕ) (at b : ℕ) (l : List ℕ) → drop at s ≡ b ∷ l → at < length s
inside s at b l e = omega (arith, sym (length-drop at s) ∙ ap length e)

module _ (n k : ℕ) (s : List ℕ) where
  -- calls that stand at a place are read, and then what comes after them
  pub calls_read : (ts : List Call) (places at line : ℕ) (rest : List ℕ) → AllInRange ts → length ts ≤ places → drop at s ≡ do_texts ts ++ rest
      → do_lines n k places s at line
      ≡ before (map entry_of ts) (do_lines n k (places - length ts) s (at + length (do_texts ts)) (line + length ts))
  unfolding AllInRange do_texts
  calls_read [] places at line rest h m e =
      rw (sub-zero, add-zero at, add-zero line) (sym (before_none (do_lines n k places s at line)))
  calls_read (t ∷ ts) zero at line rest h m e = absurd (omega arith)
  calls_read (t ∷ ts) (suc p) at line rest h m e =
      let next = at + length (do_text t) in
      let f : drop at s ≡ do_text t ++ (do_texts ts ++ rest) = e ∙ append_assoc (do_text t) (do_texts ts) rest in
      let d = do_found t h.0 (stands_at s at (do_text t) (do_texts ts ++ rest) f) in
      let ih = calls_read ts p next (line + 1) rest h.1 (omega arith) (rest_at s at (do_text t) (do_texts ts ++ rest) f) in
      let a : suc p - length (t ∷ ts) ≡ p - length ts = omega arith in
      let b : at + length (do_text t ++ do_texts ts) ≡ next + length (do_texts ts) = omega (arith, length-append (do_text t) (do_texts ts)) in
      let c : line + length (t ∷ ts) ≡ line + 1 + length ts = omega arith in
      rw (a, b, c)
      (lines_more n k s at line (inside s at _ _ f) p d ∙ ap (before (entry_of t ∷ [])) ih
      ∙ before_before (entry_of t ∷ []) (map entry_of ts) _)

-- What the do lines from a place come to.
pub data Run (n k : ℕ) (s : List ℕ) (places at line : ℕ) (r : Said) : Type 0 where
  whole : (ts : List Call) → AllInRange ts → length ts ≤ places → drop at s ≡ do_texts ts → r ≡ accepted n k (map entry_of ts)
      → Run n k s places at line r
  bad : (ts : List Call) (rest : List ℕ) → AllInRange ts → length ts ≤ places → drop at s ≡ do_texts ts ++ rest → (rest ≡ [] → ⊥) → NoDoLine rest
      → r ≡ refused BadLine (line + length ts) → Run n k s places at line r
  many : (ts : List Call) (t : Call) (rest : List ℕ) → AllInRange ts → InRange t → length ts ≡ places
      → drop at s ≡ do_texts ts ++ (do_text t ++ rest) → r ≡ refused TooManyLines (line + length ts) → Run n k s places at line r

module _ (n k : ℕ) (s : List ℕ) where
  at_end : (places at line : ℕ) → length s ≤ at → Run n k s places at line (do_lines n k places s at line)
  unfolding AllInRange do_texts
  at_end places at line h = whole [] tt (omega arith) (drop_of_length-le s h) (lines_end n k s at line places h)

  at_bad : (places at line : ℕ) → at < length s → do_line_at s at ≡ None → Run n k s places at line (do_lines n k places s at line)
  unfolding AllInRange do_texts
  at_bad places at line h e =
      bad [] (drop at s) tt (omega arith) refl
      (λ z. omega (arith, sym (length-drop at s) ∙ ap length z))
      (λ t after r z. cc (do_found t r (stands_at s at (do_text t) after z)))
      (rw (add-zero line) (lines_broken n k s at line h places e))

  -- one turn more in front
  one_more : (places at line next : ℕ) (t : Call) (r : Said) → InRange t → Stands s at next (do_text t)
      → Run n k s places next (line + 1) r → Run n k s (suc places) at line (before (entry_of t ∷ []) r)
  unfolding AllInRange do_texts before
  one_more places at line next t r h p (whole ts a m e q) =
      whole (t ∷ ts) (h, a) (omega arith) (p.text ∙ ap (λ (l : List ℕ). do_text t ++ l) e) (rw q)
  one_more places at line next t r h p (bad ts rest a m e o d q) =
      let c : line + 1 + length ts ≡ line + length (t ∷ ts) = omega arith in
      bad (t ∷ ts) rest (h, a) (omega arith)
      (p.text ∙ ap (λ (l : List ℕ). do_text t ++ l) e ∙ sym (append_assoc (do_text t) (do_texts ts) rest)) o d
      (rw (q, c))
  one_more places at line next t r h p (many ts u rest a g m e q) =
      let c : line + 1 + length ts ≡ line + length (t ∷ ts) = omega arith in
      many (t ∷ ts) u rest (h, a) g (omega arith)
      (p.text ∙ ap (λ (l : List ℕ). do_text t ++ l) e ∙ sym (append_assoc (do_text t) (do_texts ts) (do_text u ++ rest)))
      (rw (q, c))

  pub run : (places at line : ℕ) → Run n k s places at line (do_lines n k places s at line)
  unfolding AllInRange do_texts
  run zero at line =
      decide (leb (length s) at) (λ t. at_end zero at line (leb-true _ _ t))
      (λ t. go (leb-false _ _ t) (do_line_at s at) refl)
    where
      go : at < length s → (o : Option Found) → do_line_at s at ≡ o → Run n k s zero at line (do_lines n k zero s at line)
      go h None e = at_bad zero at line h e
      go h (Some f) e =
          let d = do_stands s at {f = f} e in
          many [] d.0 (drop f.next s) tt d.1 refl d.3.text (rw (add-zero line) (lines_full n k s at line h e))
  run (suc p) at line =
      decide (leb (length s) at) (λ t. at_end (suc p) at line (leb-true _ _ t))
      (λ t. go (λ next. run p next (line + 1)) (leb-false _ _ t) (do_line_at s at) refl)
    where
      go : ((next : ℕ) → Run n k s p next (line + 1) (do_lines n k p s next (line + 1))) → at < length s
          → (o : Option Found) → do_line_at s at ≡ o → Run n k s (suc p) at line (do_lines n k (suc p) s at line)
      go ih h None e = at_bad (suc p) at line h e
      go ih h (Some f) e =
          let d = do_stands s at {f = f} e in
          rw (lines_more n k s at line h p e, d.2) (one_more p at line f.next d.0 _ d.1 d.3 (ih f.next))
