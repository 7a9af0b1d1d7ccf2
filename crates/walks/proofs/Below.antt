-- The tests `i < n` of code, each as one rule of the judgement of Walk.antt, for the statements that it is: the count is read, the two are compared, and the code branches.
--     whiles_below     `while _i < n`, at the head of a turn.        ifs_below        `if _i < n { .. }`
-- Each takes a tuple that says what the MIR is about, `(refl, tt, tt)`, and that n fits.
-- Assumes `Logic`.
use mathlib.Core.Path.{◌≡◌, ap}
use Prim.Native.Nat.{ℕ, ◌<◌, ◌≤◌, ◌^◌}
use mathlib.Core.Option.{Option, some}
use mathlib.Core.List.{List, [], ◌∷◌}
use lib.Dec.{ltb, ltb→lt, nltb→le}
use seplogic.Ra.Ura.{Ura}
use mir.Syntax.{Ty, place, copy, rv_opd, op2, lt, unsigned, w64, ty_int, ty_bool, Body, skip, seq, assign, cond, exit, Opd as Operand}
use mir.Val.{Val, vint, vbool}
use prog.Wp.{Calls, Loops, Tables}
use types.Logic.{Logic}
use types.Kit.{Item, ‵, Post, runs, Seq, ◌$◌}
use types.Run.{stop, from, load, of_opd, bin, assigns}
use Rattle.walks.proofs.Holds.{Hold, items}
use Rattle.walks.proofs.Locals.{Cell, Local', locals, got, upd, opd_good, opd_value, puts}
use Rattle.walks.proofs.Slices.{type_of, stores_at, in_at, held_upd, reads_local, opd_at, good_here}
use Rattle.walks.proofs.Walk.{Run, End, arm, turn, ending, ifs, whiles}

abbrev Sides : Type 0
Sides = Val × Val × Option Ty × Option Ty

abbrev pub Compared : (E : List Local') (ss : List Cell) (z u : Operand) (a b i n : ℕ) → Type 0
Compared E ss z u a b i n = (◌≡◌ {A = Sides} (opd_value E ss z, opd_value E (upd ss a (vint w64 n)) u, type_of E ss a, type_of E (upd ss a (vint w64 n)) b) (vint w64 n, vint w64 i, some (ty_int w64), some ty_bool)) × opd_good E ss z × opd_good E (upd ss a (vint w64 n)) u

-- `_a = z; _b = u < _a`
module _ {M : Type 1} {𝓤 : Ura M} (𝓛 : Logic 𝓤) (K : Type 0) (t : K) (E : List Local') (ss : List Cell) (Γ : List (Item 𝓤)) (C : Calls 𝓤 𝓛.H) (Λ : Loops 𝓤 𝓛.H) (Q : Post 𝓤 𝓛.H) (rest : Body) where
  compares : (z u : Operand) (a b i n : ℕ) → Compared E ss z u a b i n → n < 2 ^ 64 → Seq K 𝓛 (‵ (locals E (upd (upd ss a (vint w64 n)) b (vbool (ltb i n)))) ∷ Γ) (runs C Λ E rest Q)
      → Seq K 𝓛 (‵ (locals E ss) ∷ Γ) (runs C Λ E (seq (assign (place a []) (rv_opd z)) (seq (assign (place b []) (op2 (lt unsigned) u (copy (place a [])))) rest)) Q)
  compares z u a b i n g fits k =
      let ss₁ : List Cell = upd ss a (vint w64 n) in
      assigns t (of_opd t (opd_at 𝓛 K t E ss Γ z (vint w64 n) g.1 (ap (λ (f : Sides). f.0) g.0))) (from t (stop t)) (puts 𝓛 K t E ss Γ a (vint w64 n) (stores_at E ss a (ty_int w64) (vint w64 n) (ap (λ (f : Sides). f.2) g.0) (tt, record { fits = fits }))) $
      assigns t (bin t (opd_at 𝓛 K t E ss₁ Γ u (vint w64 i) g.2 (ap (λ (f : Sides). f.1) g.0)) (load t (from t (stop t)) (reads_local 𝓛 K t E ss₁ Γ a (vint w64 n) (held_upd ss a (vint w64 n)) (in_at E ss a (ty_int w64) (ap (λ (f : Sides). f.2) g.0)))) tt) (from t (stop t))
      (puts 𝓛 K t E ss₁ Γ b (vbool (ltb i n)) (stores_at E ss₁ b ty_bool (vbool (ltb i n)) (ap (λ (f : Sides). f.3) g.0) (tt, tt))) $ k

module _ {M : Type 1} {𝓤 : Ura M} {𝓛 : Logic 𝓤} {K : Type 0} {𝓣 : Tables 𝓤 𝓛.H} {E : List Local'} {ss : List Cell} {Γ : List Hold} {e : End 𝓤} {z u : Operand} {a b : ℕ} {rest : Body} where
  pub ifs_below : K → (i n : ℕ) {yes : Body} → Compared E ss z u a b i n → n < 2 ^ 64 → (i < n → Run K 𝓛 𝓣 E (upd (upd ss a (vint w64 n)) b (vbool (ltb i n))) Γ yes (arm rest e))
      → (n ≤ i → Run K 𝓛 𝓣 E (upd (upd ss a (vint w64 n)) b (vbool (ltb i n))) Γ rest e)
      → Run K 𝓛 𝓣 E ss Γ (seq (assign (place a []) (rv_opd z)) (seq (assign (place b []) (op2 (lt unsigned) u (copy (place a [])))) (seq (cond (copy (place b [])) yes skip) rest))) e
  ifs_below t i n g fits k k' = record {
    prf = compares 𝓛 K t E ss (items Γ) 𝓣.C 𝓣.Λ (ending 𝓛 𝓣 E e) _ z u a b i n g fits
        (ifs t (ltb i n) (good_here E (upd (upd ss a (vint w64 n)) b (vbool (ltb i n))) b (vbool (ltb i n)) (in_at E (upd ss a (vint w64 n)) b ty_bool (ap (λ (f : Sides). f.3) g.0)) (held_upd (upd ss a (vint w64 n)) b (vbool (ltb i n))))
        (ap got (held_upd (upd ss a (vint w64 n)) b (vbool (ltb i n)))) (λ h. k (ltb→lt i n h)) (λ h. k' (nltb→le i n h))).prf;
  }

  pub whiles_below : K → (i n : ℕ) {X : Type 0} {μ : X → ℕ} {vars : X → List Cell} {hold : X → List Hold} {s : X} {after : Body} → Compared E ss z u a b i n → n < 2 ^ 64
      → (i < n → Run K 𝓛 𝓣 E (upd (upd ss a (vint w64 n)) b (vbool (ltb i n))) Γ rest (turn μ vars hold s after e)) → (n ≤ i → Run K 𝓛 𝓣 E (upd (upd ss a (vint w64 n)) b (vbool (ltb i n))) Γ after e)
      → Run K 𝓛 𝓣 E ss Γ (seq (assign (place a []) (rv_opd z)) (seq (assign (place b []) (op2 (lt unsigned) u (copy (place a [])))) (seq (cond (copy (place b [])) skip (exit 1)) rest))) (turn μ vars hold s after e)
  whiles_below t i n {X} {μ} {vars} {hold} {s} {after} g fits k k' = record {
    prf = compares 𝓛 K t E ss (items Γ) 𝓣.C 𝓣.Λ (ending 𝓛 𝓣 E (turn μ vars hold s after e)) _ z u a b i n g fits
        (whiles t (ltb i n) (good_here E (upd (upd ss a (vint w64 n)) b (vbool (ltb i n))) b (vbool (ltb i n)) (in_at E (upd ss a (vint w64 n)) b ty_bool (ap (λ (f : Sides). f.3) g.0)) (held_upd (upd ss a (vint w64 n)) b (vbool (ltb i n))))
        (ap got (held_upd (upd ss a (vint w64 n)) b (vbool (ltb i n)))) (λ h. k (ltb→lt i n h)) (λ h. k' (nltb→le i n h))).prf;
  }
