-- The rules for an element of a slice, in the judgement of Walk.antt. Each is for the statements that `s[j]` is: the byte offset, the pointer, and the load or the store.
--     reads        `d = s[j]` of a `&[D]`.        reads_mut    of a `&mut [D]`.        writes       `s[j] = c` of a `&mut [D]`.        writes_byte, reads_byte      the same where an element is one byte, and no offset is computed
-- Assumes `Logic`.
use mathlib.Core.Path.{◌≡◌, refl, sym, ◌∙◌, ap, subst}
use Prim.Native.Nat.{ℕ, zero, suc, ◌+◌, ◌*◌, ◌<◌, ◌^◌}
use mathlib.Core.Option.{Option, none, some}
use mathlib.Core.List.{List, [], ◌∷◌}
use lib.ListN.{length, get_or, set, length-set}
use lib.Dec.{T, ltb}
use native.Mathlib.Nat.{mul-le-mul_right, le_of_lt}
use native.Mathlib.Omega.{arith}
use seplogic.Ra.Ura.{Ura}
use base.Fraction.{full_share}
use mir.Syntax.{Ty, deref, place, copy, int, rv_opd, op2, mul, offset, unsigned, w64, ty_int, ty_ptr, Body, seq, assign, Opd as Operand}
use mir.Val.{Val, vint, vptr, WT, has_ty}
use mir.Raw.{raw as raw_ty}
use base.Logic.{ent, id⊢}
use base.Fml.{Lft, Share, fat}
use prog.Wp.{Calls, Loops, Tables}
use types.Logic.{Logic, sem}
use types.Kit.{Item, ‵, Post, runs, Seq, ◌$◌, move, drop, use1, rewrite, fsplit, fjoin}
use types.Run.{Reads, Opd, bin, lit, stop, hop, from, load, look_raw, store_raw, of_opd, assigns}
use types.Part.{look_in}
use denote.Shadow.{pure_l, pure_i}
use denote.Laws.{Is, shows}
use denote.Memory.{mem, cell_at}
use denote.Ref.{Bor, MutBor, at_last}
use denote.Slice.{slice_val, shr_slice_vals, mut_slice_vals, shr_slice_at, mut_slice_at, Room}
use denote.Index.{place as place_of, place_is, place_byte, elem_out, elem_back, elem_put, looks_slice, shuts_slice, opens_slice, closes_slice}
use denote.Steps.{owned}
use Rattle.walks.proofs.Holds.{Elem, typed_of, Hold, shr, mut, formula, items, hold, swap, swap_same, Says, tells_hold, focus, unfocus}
use Rattle.walks.proofs.Locals.{Cell, free, has, lent, Local', nth_local, locals, held, upd, got, Within, There, local_good, local_part, Stores, opd_good, opd_value, operand, puts}
use Rattle.walks.proofs.Walk.{Run, Rule, End, ending}

is_there : (s : Cell) (v : Val) → s ≡ has v → There s
is_there s v e = subst There (sym e) tt

module _ {M : Type 1} {𝓤 : Ura M} (𝓛 : Logic 𝓤) (K : Type 0) (t : K) where
  open 𝓛 use {H}

  cell_out : (D : Elem) (q : Share) (v : Val) (b o : ℕ) → ent 𝓤 (sem 𝓛 (cell_at q D.R.mir (v ∷ []) b o)) (H.at q (raw_ty D.τ) b o v)
  cell_out D q v b o = subst (λ (τs : List Ty). ent 𝓤 (sem 𝓛 (cell_at q τs (v ∷ []) b o)) (H.at q (raw_ty D.τ) b o v)) (sym D.one) (id⊢ 𝓤 _)

  cell_in : (D : Elem) (q : Share) (v : Val) (b o : ℕ) → ent 𝓤 (H.at q (raw_ty D.τ) b o v) (sem 𝓛 (cell_at q D.R.mir (v ∷ []) b o))
  cell_in D q v b o = subst (λ (τs : List Ty). ent 𝓤 (H.at q (raw_ty D.τ) b o v) (sem 𝓛 (cell_at q τs (v ∷ []) b o))) (sym D.one) (id⊢ 𝓤 _)

  abbrev vals : (D : Elem) → D.R.Denot → List Val
  vals D y = D.val y ∷ []

  pub reads_local : (E : List Local') (ss : List Cell) (Γ : List (Item 𝓤)) (p : ℕ) (v : Val) → held ss p ≡ has v → Within E p → Reads K 𝓛 (‵ (locals E ss) ∷ Γ) (nth_local E p).0 (nth_local E p).1 zero v
  reads_local E ss Γ p v e l = subst (λ (s : Cell). Reads K 𝓛 (‵ (locals E ss) ∷ Γ) (nth_local E p).0 (nth_local E p).1 zero (got s)) e (look_in t 0 (local_part 𝓛 K t E ss p l (is_there (held ss p) v e)))

  module _ (E : List Local') (ss : List Cell) (Γ : List Hold) (n : ℕ) (C : Calls 𝓤 H) (Λ : Loops 𝓤 H) (Q : Post 𝓤 H) (rest : Body) (κ : Lft) (q : Share) (D : Elem) (x : Bor (List D.R.Denot)) (i a p : ℕ)
      (at_p : held ss p ≡ has (vptr x.ref_ptr.0 a)) (p-in : Within E p) (is-place : place_of (mem D.R).size x.ref_ptr.1 i ≡ a) where
    load_shr : (d : ℕ) (d₀ : D.R.Denot) → hold Γ n ≡ shr κ q D x → i < length x.now → ((g : Is D.R (get_or x.now i d₀) (vals D (get_or x.now i d₀))) → Stores E ss d (D.val (get_or x.now i d₀)))
        → (Is D.R (get_or x.now i d₀) (vals D (get_or x.now i d₀)) → Seq K 𝓛 (‵ (locals E (upd ss d (D.val (get_or x.now i d₀)))) ∷ items Γ) (runs C Λ E rest Q))
        → Seq K 𝓛 (‵ (locals E ss) ∷ items Γ) (runs C Λ E (seq (assign (place d []) (rv_opd (copy (place p (deref D.τ ∷ []))))) rest) Q)
    load_shr d d₀ is l st k =
        let b : ℕ = x.ref_ptr.0 in
        let o : ℕ = x.ref_ptr.1 in
        let ys : List D.R.Denot = x.now in
        let y : D.R.Denot = get_or ys i d₀ in
        focus t n Γ (‵ (locals E ss)) (rewrite t 0 (λ (h : Hold). ‵ (formula h)) is refl $ fsplit t $ fsplit t $ pure_l t (shr_slice_at D.R x (shr_slice_vals x)) (λ facts.
        looks_slice t tt D.R (D.copied 𝓛) ys b o (λ q'. elem_out t D.R (Is D.R) (shows 𝓛 D.R) (vals D) D.tells q' ys i d₀ b o l (λ g.
        -- [the element; what it owns; the others; the token's way back; the elements as they are shared; the locals; ..]
        use1 𝓛 (‵ (fat q' (raw_ty D.τ) b (place_of (mem D.R).size o i) (D.val y))) (cell_out D q' (D.val y) b (place_of (mem D.R).size o i)) $
        rewrite t 0 (λ (r : ℕ). ‵ (fat q' (raw_ty D.τ) b r (D.val y))) is-place refl $ move t (5 ∷ []) $
        assigns t (of_opd t (load t (from t (hop t (reads_local E ss _ p (vptr b a) at_p p-in) (stop t))) (look_raw t 1 refl))) (from t (stop t)) (puts 𝓛 K t E ss _ d (D.val y) (st g)) $
        move t (1 ∷ []) $ rewrite t 0 (λ (r : ℕ). ‵ (fat q' (raw_ty D.τ) b r (D.val y))) (sym is-place) refl $
        use1 𝓛 (‵ (cell_at q' D.R.mir (vals D y) b (place_of (mem D.R).size o i))) (cell_in D q' (D.val y) b (place_of (mem D.R).size o i)) $ move t (0 ∷ 2 ∷ 3 ∷ []) $
        elem_back t D.R q' ys i d₀ (vals D y) b o l $ move t (0 ∷ 2 ∷ []) $ shuts_slice t tt D.R q' ys b o $ move t (2 ∷ []) $
        pure_i t (shr_slice_at D.R x (shr_slice_vals x)) (tt, (tt, tt)) facts $ fjoin t $ fjoin t $ unfocus t n Γ (‵ (locals E (upd ss d (D.val y)))) (shr κ q D x)
        (subst (λ (Δ : List Hold). Seq K 𝓛 (‵ (locals E (upd ss d (D.val y))) ∷ items Δ) (runs C Λ E rest Q)) (sym (swap_same Γ n (shr κ q D x) is)) (k g))))))

  module _ (E : List Local') (ss : List Cell) (Γ : List Hold) (n : ℕ) (C : Calls 𝓤 H) (Λ : Loops 𝓤 H) (Q : Post 𝓤 H) (rest : Body) (κ : Lft) (q : Share) (D : Elem) (x : MutBor (List D.R.Denot)) (i a p : ℕ)
      (at_p : held ss p ≡ has (vptr x.ref_ptr.0 a)) (p-in : Within E p) (is-place : place_of (mem D.R).size x.ref_ptr.1 i ≡ a) where
    abbrev b : ℕ
    b = x.ref_ptr.0

    abbrev o : ℕ
    o = x.ref_ptr.1

    abbrev Facts : List D.R.Denot → Type 0
    Facts ys = (mut_slice_vals x ≡ mut_slice_vals (at_last x ys)) × Room D.R (length ys)

    load_mut : (d : ℕ) (d₀ : D.R.Denot) (ys : List D.R.Denot) → hold Γ n ≡ mut κ q D x ys → i < length ys → ((g : Is D.R (get_or ys i d₀) (vals D (get_or ys i d₀))) → Stores E ss d (D.val (get_or ys i d₀)))
        → (Is D.R (get_or ys i d₀) (vals D (get_or ys i d₀)) → Seq K 𝓛 (‵ (locals E (upd ss d (D.val (get_or ys i d₀)))) ∷ items Γ) (runs C Λ E rest Q))
        → Seq K 𝓛 (‵ (locals E ss) ∷ items Γ) (runs C Λ E (seq (assign (place d []) (rv_opd (copy (place p (deref D.τ ∷ []))))) rest) Q)
    load_mut d d₀ ys is l st k =
        let y : D.R.Denot = get_or ys i d₀ in
        focus t n Γ (‵ (locals E ss)) (rewrite t 0 (λ (h : Hold). ‵ (formula h)) is refl $ fsplit t $ fsplit t $ pure_l t (mut_slice_at D.R (at_last x ys) (mut_slice_vals x)) (λ facts. fsplit t $
        opens_slice t tt D.R ys b o $ elem_out t D.R (Is D.R) (shows 𝓛 D.R) (vals D) D.tells full_share ys i d₀ b o l (λ g.
        -- [the element; what it owns; the others; the open borrow; obs; auth; the locals; ..]
        use1 𝓛 (‵ (fat full_share (raw_ty D.τ) b (place_of (mem D.R).size o i) (D.val y))) (cell_out D full_share (D.val y) b (place_of (mem D.R).size o i)) $
        rewrite t 0 (λ (r : ℕ). ‵ (fat full_share (raw_ty D.τ) b r (D.val y))) is-place refl $ move t (6 ∷ []) $
        assigns t (of_opd t (load t (from t (hop t (reads_local E ss _ p (vptr b a) at_p p-in) (stop t))) (look_raw t 1 refl))) (from t (stop t)) (puts 𝓛 K t E ss _ d (D.val y) (st g)) $
        move t (1 ∷ []) $ rewrite t 0 (λ (r : ℕ). ‵ (fat full_share (raw_ty D.τ) b r (D.val y))) (sym is-place) refl $
        use1 𝓛 (‵ (cell_at full_share D.R.mir (vals D y) b (place_of (mem D.R).size o i))) (cell_in D full_share (D.val y) b (place_of (mem D.R).size o i)) $ move t (0 ∷ 2 ∷ 3 ∷ []) $
        elem_back t D.R full_share ys i d₀ (vals D y) b o l $ move t (0 ∷ 2 ∷ 3 ∷ 4 ∷ []) $ closes_slice t tt D.R ys ys refl b o $ fjoin t $
        pure_i t (mut_slice_at D.R (at_last x ys) (mut_slice_vals x)) (tt, (tt, tt)) facts $ fjoin t $ fjoin t $ unfocus t n Γ (‵ (locals E (upd ss d (D.val y)))) (mut κ q D x ys)
        (subst (λ (Δ : List Hold). Seq K 𝓛 (‵ (locals E (upd ss d (D.val y))) ∷ items Δ) (runs C Λ E rest Q)) (sym (swap_same Γ n (mut κ q D x ys) is)) (k g)))))

    after_set : (ys : List D.R.Denot) (y : D.R.Denot) → Facts ys → Facts (set ys i y)
    after_set ys y f = (f.0 ∙ ap (λ (m : ℕ). slice_val x.ref_ptr m ∷ []) (sym (length-set ys i y)), subst (Room D.R) (sym (length-set ys i y)) f.1)

    store_mut : (c : ℕ) (d₀ y : D.R.Denot) (ys : List D.R.Denot) → hold Γ n ≡ mut κ q D x ys → i < length ys → held ss c ≡ has (D.val y) → Within E c → Is D.R y (vals D y)
        → Seq K 𝓛 (‵ (locals E ss) ∷ items (swap Γ n (mut κ q D x (set ys i y)))) (runs C Λ E rest Q)
        → Seq K 𝓛 (‵ (locals E ss) ∷ items Γ) (runs C Λ E (seq (assign (place p (deref D.τ ∷ [])) (rv_opd (copy (place c [])))) rest) Q)
    store_mut c d₀ y ys is l at_c c-in gy k =
        let y₀ : D.R.Denot = get_or ys i d₀ in
        let zs : List D.R.Denot = set ys i y in
        focus t n Γ (‵ (locals E ss)) (rewrite t 0 (λ (h : Hold). ‵ (formula h)) is refl $ fsplit t $ fsplit t $ pure_l t (mut_slice_at D.R (at_last x ys) (mut_slice_vals x)) (λ facts. fsplit t $
        opens_slice t tt D.R ys b o $ elem_out t D.R (Is D.R) (shows 𝓛 D.R) (vals D) D.tells full_share ys i d₀ b o l (λ g.
        use1 𝓛 (‵ (fat full_share (raw_ty D.τ) b (place_of (mem D.R).size o i) (D.val y₀))) (cell_out D full_share (D.val y₀) b (place_of (mem D.R).size o i)) $
        rewrite t 0 (λ (r : ℕ). ‵ (fat full_share (raw_ty D.τ) b r (D.val y₀))) is-place refl $ move t (6 ∷ []) $
        assigns t (of_opd t (load t (from t (stop t)) (reads_local E ss _ c (D.val y) at_c c-in))) (from t (hop t (reads_local E ss _ p (vptr b a) at_p p-in) (stop t))) (store_raw t 1 refl (typed_of 𝓛 D y gy)) $
        move t (1 ∷ []) $ rewrite t 0 (λ (r : ℕ). ‵ (fat full_share (raw_ty D.τ) b r (D.val y))) (sym is-place) refl $
        use1 𝓛 (‵ (cell_at full_share D.R.mir (vals D y) b (place_of (mem D.R).size o i))) (cell_in D full_share (D.val y) b (place_of (mem D.R).size o i)) $
        move t (2 ∷ []) $ drop t $ owned t D.R (Is D.R) (D.made 𝓛) y (vals D y) gy $ move t (1 ∷ 0 ∷ 3 ∷ []) $
        elem_put t D.R full_share ys i y (vals D y) b o l $ move t (0 ∷ 2 ∷ 3 ∷ 4 ∷ []) $ closes_slice t tt D.R ys zs (length-set ys i y) b o $ fjoin t $
        pure_i t (mut_slice_at D.R (at_last x zs) (mut_slice_vals x)) (tt, (tt, tt)) (after_set ys y facts) $ fjoin t $ fjoin t $ unfocus t n Γ (‵ (locals E ss)) (mut κ q D x zs) k)))

-- ---- the statements that compute where an element lies
abbrev slot_type : Ty → Cell → Option Ty
slot_type τ free = some τ
slot_type τ (has v) = some τ
slot_type τ lent = none

-- the type of local i, where its memory is there
abbrev pub type_of : List Local' → List Cell → ℕ → Option Ty
type_of [] ss i = none
type_of (e ∷ E) [] zero = some e.0
type_of (e ∷ E) [] (suc i) = type_of E [] i
type_of (e ∷ E) (s ∷ ss) zero = slot_type e.0 s
type_of (e ∷ E) (s ∷ ss) (suc i) = type_of E ss i

-- then it takes a value of that type
abbrev Takes : (E : List Local') (ss : List Cell) (i : ℕ) → Option Ty → Type 0
Takes E ss i none = Unit {0}
Takes E ss i (some τ) = Within E i × ((v : Val) → T (has_ty τ v) × WT v → Stores E ss i v)

takes_deeper : (e : Local') (E : List Local') (s : Cell) (ss : List Cell) (i : ℕ) (o : Option Ty) → Takes E ss i o → Takes (e ∷ E) (s ∷ ss) (suc i) o
takes_deeper e E s ss i none f = tt
takes_deeper e E s ss i (some τ) f = f

takes_past : (e : Local') (E : List Local') (i : ℕ) (o : Option Ty) → Takes E [] i o → Takes (e ∷ E) [] (suc i) o
takes_past e E i none f = tt
takes_past e E i (some τ) f = f

takes_here : (e : Local') (E : List Local') (s : Cell) (ss : List Cell) → Takes (e ∷ E) (s ∷ ss) zero (slot_type e.0 s)
takes_here e E free ss = (tt, λ v wt. wt)
takes_here e E (has u) ss = (tt, λ v wt. wt)
takes_here e E lent ss = tt

takes : (E : List Local') (ss : List Cell) (i : ℕ) → Takes E ss i (type_of E ss i)
takes [] ss i = tt
takes (e ∷ E) [] zero = (tt, λ v wt. wt)
takes (e ∷ E) [] (suc i) = takes_past e E i (type_of E [] i) (takes E [] i)
takes (e ∷ E) (s ∷ ss) zero = takes_here e E s ss
takes (e ∷ E) (s ∷ ss) (suc i) = takes_deeper e E s ss i (type_of E ss i) (takes E ss i)

pub stores_at : (E : List Local') (ss : List Cell) (i : ℕ) (τ : Ty) (v : Val) → type_of E ss i ≡ some τ → T (has_ty τ v) × WT v → Stores E ss i v
stores_at E ss i τ v e = (subst (Takes E ss i) e (takes E ss i)).1 v

pub in_at : (E : List Local') (ss : List Cell) (i : ℕ) (τ : Ty) → type_of E ss i ≡ some τ → Within E i
in_at E ss i τ e = (subst (Takes E ss i) e (takes E ss i)).0

-- an operand that is a local
pub good_here : (E : List Local') (ss : List Cell) (i : ℕ) (v : Val) → Within E i → held ss i ≡ has v → local_good E ss i []
good_here [] ss i v l e = absurd l
good_here (e₀ ∷ E) [] i v l e = is_there free v e
good_here (e₀ ∷ E) (s ∷ ss) zero v l e = is_there s v e
good_here (e₀ ∷ E) (s ∷ ss) (suc i) v l e = good_here E ss i v l e

pub held_upd : (ss : List Cell) (i : ℕ) (v : Val) → held (upd ss i v) i ≡ has v
held_upd [] zero v = refl
held_upd [] (suc i) v = held_upd [] i v
held_upd (s ∷ ss) zero v = refl
held_upd (s ∷ ss) (suc i) v = held_upd ss i v

-- the byte offset of an element fits
fits_of : (i n s : ℕ) → i < n → n * s < 2 ^ 63 → i * s < 2 ^ 64
fits_of i n s l room = omega (arith, mul-le-mul_right s (le_of_lt l), room)

module _ {M : Type 1} {𝓤 : Ura M} (𝓛 : Logic 𝓤) (K : Type 0) (t : K) (E : List Local') (ss : List Cell) (Γ : List (Item 𝓤)) where
  pub opd_at : (z : Operand) (v : Val) → opd_good E ss z → opd_value E ss z ≡ v → Opd K 𝓛 (‵ (locals E ss) ∷ Γ) E z v
  opd_at z v good e = subst (λ (u : Val). Opd K 𝓛 (‵ (locals E ss) ∷ Γ) E z u) e (operand 𝓛 K t E ss Γ z good)

module _ {M : Type 1} {𝓤 : Ura M} (𝓛 : Logic 𝓤) (K : Type 0) (t : K) (E : List Local') (ss : List Cell) (Γ : List (Item 𝓤)) (C : Calls 𝓤 𝓛.H) (Λ : Loops 𝓤 𝓛.H) (Q : Post 𝓤 𝓛.H) (rest : Body) where
  -- `_p = s.0 + z`
  to_byte : (z r : Operand) (p i b o : ℕ) → opd_good E ss z → opd_value E ss z ≡ vint w64 i → opd_good E ss r → opd_value E ss r ≡ vptr b o → type_of E ss p ≡ some ty_ptr
      → Seq K 𝓛 (‵ (locals E (upd ss p (vptr b (i + o)))) ∷ Γ) (runs C Λ E rest Q) → Seq K 𝓛 (‵ (locals E ss) ∷ Γ) (runs C Λ E (seq (assign (place p []) (op2 offset r z)) rest) Q)
  to_byte z r p i b o gz ez gr er ep k = assigns t (bin t (opd_at 𝓛 K t E ss Γ r (vptr b o) gr er) (opd_at 𝓛 K t E ss Γ z (vint w64 i) gz ez) tt) (from t (stop t)) (puts 𝓛 K t E ss Γ p (vptr b (i + o)) (stores_at E ss p ty_ptr (vptr b (i + o)) ep (tt, tt))) $ k

module _ {M : Type 1} {𝓤 : Ura M} (𝓛 : Logic 𝓤) (K : Type 0) (t : K) (E : List Local') (ss : List Cell) (Γ : List (Item 𝓤)) (C : Calls 𝓤 𝓛.H) (Λ : Loops 𝓤 𝓛.H) (Q : Post 𝓤 𝓛.H) (rest : Body) where
  -- `_m = z * s; _p = s.0 + _m`
  to_elem : (z r : Operand) (m p i s b o : ℕ) → i * s < 2 ^ 64 → T (ltb s (2 ^ 64)) → opd_good E ss z → opd_value E ss z ≡ vint w64 i → type_of E ss m ≡ some (ty_int w64)
      → opd_good E (upd ss m (vint w64 (i * s))) r → opd_value E (upd ss m (vint w64 (i * s))) r ≡ vptr b o → type_of E (upd ss m (vint w64 (i * s))) p ≡ some ty_ptr
      → Seq K 𝓛 (‵ (locals E (upd (upd ss m (vint w64 (i * s))) p (vptr b (i * s + o)))) ∷ Γ) (runs C Λ E rest Q)
      → Seq K 𝓛 (‵ (locals E ss) ∷ Γ) (runs C Λ E (seq (assign (place m []) (op2 (mul unsigned) z (int w64 s))) (seq (assign (place p []) (op2 offset r (copy (place m [])))) rest)) Q)
  to_elem z r m p i s b o fits ls gz ez em gr er ep k =
      let st : Stores E ss m (vint w64 (i * s)) = stores_at E ss m (ty_int w64) (vint w64 (i * s)) em (tt, record { fits = fits }) in
      let ss₁ : List Cell = upd ss m (vint w64 (i * s)) in
      assigns t (bin t (opd_at 𝓛 K t E ss Γ z (vint w64 i) gz ez) (lit t ls) (record { fits = fits })) (from t (stop t)) (puts 𝓛 K t E ss Γ m (vint w64 (i * s)) st) $
      assigns t (bin t (opd_at 𝓛 K t E ss₁ Γ r (vptr b o) gr er) (load t (from t (stop t)) (reads_local 𝓛 K t E ss₁ Γ m (vint w64 (i * s)) (held_upd ss m (vint w64 (i * s))) (in_at E ss m (ty_int w64) em))) tt)
      (from t (stop t)) (puts 𝓛 K t E ss₁ Γ p (vptr b (i * s + o)) (stores_at E ss₁ p ty_ptr (vptr b (i * s + o)) ep (tt, tt))) $ k

-- ---- the rules of the judgement. Each takes a tuple that says what the MIR is about: which hold the slice is, what the index and the slice's pointer evaluate to, the types of the locals, the element's size. It is `(refl, tt, tt, tt)`, and for bytes `(refl, tt, tt)`
abbrev Bytes : Type 2
Bytes = Hold × Val × Val × Option Ty × Ty × ℕ

module _ (E : List Local') (ss : List Cell) (Γ : List Hold) (n : ℕ) (h : Hold) (D : Elem) (z r : Operand) (m p i s b o : ℕ) (σ : Ty) where
  abbrev Parts : Type 2
  Parts = (hold Γ n ≡ h) × opd_good E ss z × (opd_value E ss z ≡ vint w64 i) × opd_good E (upd ss m (vint w64 (i * s))) r × (opd_value E (upd ss m (vint w64 (i * s))) r ≡ vptr b o)
      × (type_of E ss m ≡ some (ty_int w64)) × (type_of E (upd ss m (vint w64 (i * s))) p ≡ some ty_ptr) × (D.τ ≡ σ) × ((mem D.R).size ≡ s) × T (ltb s (2 ^ 64))

  abbrev Seven : Type 2
  Seven = Hold × Val × Val × Option Ty × Option Ty × Ty × ℕ

  abbrev pub Indexed : Type 2
  Indexed = (◌≡◌ {A = Seven} (hold Γ n, opd_value E ss z, opd_value E (upd ss m (vint w64 (i * s))) r, type_of E ss m, type_of E (upd ss m (vint w64 (i * s))) p, D.τ, (mem D.R).size) (h, vint w64 i, vptr b o, some (ty_int w64), some ty_ptr, σ, s))
      × opd_good E ss z × opd_good E (upd ss m (vint w64 (i * s))) r × T (ltb s (2 ^ 64))

  parts_of : Indexed → Parts
  parts_of g = (ap (λ (f : Seven). f.0) g.0, g.1, ap (λ (f : Seven). f.1) g.0, g.2, ap (λ (f : Seven). f.2) g.0, ap (λ (f : Seven). f.3) g.0, ap (λ (f : Seven). f.4) g.0, ap (λ (f : Seven). f.5) g.0, ap (λ (f : Seven). f.6) g.0, g.3)

module _ {M : Type 1} {𝓤 : Ura M} {𝓛 : Logic 𝓤} {K : Type 0} {𝓣 : Tables 𝓤 𝓛.H} {E : List Local'} {ss : List Cell} {Γ : List Hold} {e : End 𝓤} where
  -- `_d = s[z]` of a `&[D]`
  pub reads : K → (D : Elem) (n : ℕ) (d₀ : D.R.Denot) {κ : Lft} {q : Share} {x : Bor (List D.R.Denot)} {z r : Operand} {m p d i s : ℕ} {σ : Ty} {rest : Body}
      → Indexed E ss Γ n (shr κ q D x) D z r m p i s x.ref_ptr.0 x.ref_ptr.1 σ → type_of E (upd (upd ss m (vint w64 (i * s))) p (vptr x.ref_ptr.0 (i * s + x.ref_ptr.1))) d ≡ some σ → i < length x.now
      → (Is D.R (get_or x.now i d₀) (D.val (get_or x.now i d₀) ∷ [])
      → Run K 𝓛 𝓣 E (upd (upd (upd ss m (vint w64 (i * s))) p (vptr x.ref_ptr.0 (i * s + x.ref_ptr.1))) d (D.val (get_or x.now i d₀))) Γ rest e)
      → Run K 𝓛 𝓣 E ss Γ (seq (assign (place m []) (op2 (mul unsigned) z (int w64 s))) (seq (assign (place p []) (op2 offset r (copy (place m [])))) (seq (assign (place d []) (rv_opd (copy (place p (deref σ ∷ []))))) rest))) e
  reads t D n d₀ {κ} {q} {x} {z} {r} {m} {p} {d} {i} {s} {σ} {rest} jx ed l k = record {
    prf =
        let ix : Parts E ss Γ n (shr κ q D x) D z r m p i s x.ref_ptr.0 x.ref_ptr.1 σ = parts_of E ss Γ n (shr κ q D x) D z r m p i s x.ref_ptr.0 x.ref_ptr.1 σ jx in
        tells_hold t n Γ (‵ (locals E ss)) (λ says.
        let room : Room D.R (length x.now) = subst Says ix.0 says in
        let ss₂ : List Cell = upd (upd ss m (vint w64 (i * s))) p (vptr x.ref_ptr.0 (i * s + x.ref_ptr.1)) in
        to_elem 𝓛 K t E ss (items Γ) 𝓣.C 𝓣.Λ _ _ z r m p i s x.ref_ptr.0 x.ref_ptr.1 (subst (λ (u : ℕ). i * u < 2 ^ 64) ix.8 (fits_of i (length x.now) (mem D.R).size l room.1)) ix.9 ix.1 ix.2 ix.5 ix.3 ix.4 ix.6
        (subst (λ (u : Ty). Seq K 𝓛 (‵ (locals E ss₂) ∷ items Γ) (runs 𝓣.C 𝓣.Λ E (seq (assign (place d []) (rv_opd (copy (place p (deref u ∷ []))))) rest) (ending 𝓛 𝓣 E e))) ix.7
        (load_shr 𝓛 K t E ss₂ Γ n 𝓣.C 𝓣.Λ _ rest κ q D x i (i * s + x.ref_ptr.1) p (held_upd (upd ss m (vint w64 (i * s))) p _) (in_at E (upd ss m (vint w64 (i * s))) p ty_ptr ix.6) (place_is (mem D.R).size x.ref_ptr.1 i ∙ ap (λ (u : ℕ). i * u + x.ref_ptr.1) ix.8) d d₀ ix.0 l
        (λ g. stores_at E ss₂ d D.τ (D.val (get_or x.now i d₀)) (ed ∙ ap some (sym ix.7)) (typed_of 𝓛 D (get_or x.now i d₀) g)) (λ g. (k g).prf))));
  }

  -- `_d = s[z]` of a `&mut [D]`
  pub reads_mut : K → (D : Elem) (n : ℕ) (d₀ : D.R.Denot) {κ : Lft} {q : Share} {x : MutBor (List D.R.Denot)} {ys : List D.R.Denot} {z r : Operand} {m p d i s : ℕ} {σ : Ty} {rest : Body}
      → Indexed E ss Γ n (mut κ q D x ys) D z r m p i s x.ref_ptr.0 x.ref_ptr.1 σ → type_of E (upd (upd ss m (vint w64 (i * s))) p (vptr x.ref_ptr.0 (i * s + x.ref_ptr.1))) d ≡ some σ → i < length ys
      → (Is D.R (get_or ys i d₀) (D.val (get_or ys i d₀) ∷ [])
      → Run K 𝓛 𝓣 E (upd (upd (upd ss m (vint w64 (i * s))) p (vptr x.ref_ptr.0 (i * s + x.ref_ptr.1))) d (D.val (get_or ys i d₀))) Γ rest e)
      → Run K 𝓛 𝓣 E ss Γ (seq (assign (place m []) (op2 (mul unsigned) z (int w64 s))) (seq (assign (place p []) (op2 offset r (copy (place m [])))) (seq (assign (place d []) (rv_opd (copy (place p (deref σ ∷ []))))) rest))) e
  reads_mut t D n d₀ {κ} {q} {x} {ys} {z} {r} {m} {p} {d} {i} {s} {σ} {rest} jx ed l k = record {
    prf =
        let ix : Parts E ss Γ n (mut κ q D x ys) D z r m p i s x.ref_ptr.0 x.ref_ptr.1 σ = parts_of E ss Γ n (mut κ q D x ys) D z r m p i s x.ref_ptr.0 x.ref_ptr.1 σ jx in
        tells_hold t n Γ (‵ (locals E ss)) (λ says.
        let room : Room D.R (length ys) = (subst Says ix.0 says).1 in
        let ss₂ : List Cell = upd (upd ss m (vint w64 (i * s))) p (vptr x.ref_ptr.0 (i * s + x.ref_ptr.1)) in
        to_elem 𝓛 K t E ss (items Γ) 𝓣.C 𝓣.Λ _ _ z r m p i s x.ref_ptr.0 x.ref_ptr.1 (subst (λ (u : ℕ). i * u < 2 ^ 64) ix.8 (fits_of i (length ys) (mem D.R).size l room.1)) ix.9 ix.1 ix.2 ix.5 ix.3 ix.4 ix.6
        (subst (λ (u : Ty). Seq K 𝓛 (‵ (locals E ss₂) ∷ items Γ) (runs 𝓣.C 𝓣.Λ E (seq (assign (place d []) (rv_opd (copy (place p (deref u ∷ []))))) rest) (ending 𝓛 𝓣 E e))) ix.7
        (load_mut 𝓛 K t E ss₂ Γ n 𝓣.C 𝓣.Λ _ rest κ q D x i (i * s + x.ref_ptr.1) p (held_upd (upd ss m (vint w64 (i * s))) p _) (in_at E (upd ss m (vint w64 (i * s))) p ty_ptr ix.6) (place_is (mem D.R).size x.ref_ptr.1 i ∙ ap (λ (u : ℕ). i * u + x.ref_ptr.1) ix.8) d d₀ ys ix.0 l
        (λ g. stores_at E ss₂ d D.τ (D.val (get_or ys i d₀)) (ed ∙ ap some (sym ix.7)) (typed_of 𝓛 D (get_or ys i d₀) g)) (λ g. (k g).prf))));
  }

  -- `s[z] = _c` of a `&mut [D]`, where _c holds y
  pub writes : K → (D : Elem) (n : ℕ) (d₀ y : D.R.Denot) {κ : Lft} {q : Share} {x : MutBor (List D.R.Denot)} {ys : List D.R.Denot} {z r : Operand} {m p c i s : ℕ} {σ : Ty} {rest : Body}
      → Indexed E ss Γ n (mut κ q D x ys) D z r m p i s x.ref_ptr.0 x.ref_ptr.1 σ → Within E c × (held (upd (upd ss m (vint w64 (i * s))) p (vptr x.ref_ptr.0 (i * s + x.ref_ptr.1))) c ≡ has (D.val y)) → i < length ys → Is D.R y (D.val y ∷ [])
      → Rule K 𝓛 𝓣 E (upd (upd ss m (vint w64 (i * s))) p (vptr x.ref_ptr.0 (i * s + x.ref_ptr.1))) (swap Γ n (mut κ q D x (set ys i y))) rest e
      ss Γ (seq (assign (place m []) (op2 (mul unsigned) z (int w64 s))) (seq (assign (place p []) (op2 offset r (copy (place m [])))) (seq (assign (place p (deref σ ∷ [])) (rv_opd (copy (place c [])))) rest))) e
  writes t D n d₀ y {κ} {q} {x} {ys} {z} {r} {m} {p} {c} {i} {s} {σ} {rest} jx ec l gy = record {
    go = λ k. record {
      prf =
          let ix : Parts E ss Γ n (mut κ q D x ys) D z r m p i s x.ref_ptr.0 x.ref_ptr.1 σ = parts_of E ss Γ n (mut κ q D x ys) D z r m p i s x.ref_ptr.0 x.ref_ptr.1 σ jx in
          tells_hold t n Γ (‵ (locals E ss)) (λ says.
          let room : Room D.R (length ys) = (subst Says ix.0 says).1 in
          let ss₂ : List Cell = upd (upd ss m (vint w64 (i * s))) p (vptr x.ref_ptr.0 (i * s + x.ref_ptr.1)) in
          to_elem 𝓛 K t E ss (items Γ) 𝓣.C 𝓣.Λ _ _ z r m p i s x.ref_ptr.0 x.ref_ptr.1 (subst (λ (u : ℕ). i * u < 2 ^ 64) ix.8 (fits_of i (length ys) (mem D.R).size l room.1)) ix.9 ix.1 ix.2 ix.5 ix.3 ix.4 ix.6
          (subst (λ (u : Ty). Seq K 𝓛 (‵ (locals E ss₂) ∷ items Γ) (runs 𝓣.C 𝓣.Λ E (seq (assign (place p (deref u ∷ [])) (rv_opd (copy (place c [])))) rest) (ending 𝓛 𝓣 E e))) ix.7
          (store_mut 𝓛 K t E ss₂ Γ n 𝓣.C 𝓣.Λ _ rest κ q D x i (i * s + x.ref_ptr.1) p (held_upd (upd ss m (vint w64 (i * s))) p _) (in_at E (upd ss m (vint w64 (i * s))) p ty_ptr ix.6) (place_is (mem D.R).size x.ref_ptr.1 i ∙ ap (λ (u : ℕ). i * u + x.ref_ptr.1) ix.8) c d₀ y ys ix.0 l ec.1 ec.0 gy k.prf)));
    };
  }

  -- the same of bytes: no offset is computed
  pub writes_byte : K → (D : Elem) (n : ℕ) (d₀ y : D.R.Denot) {κ : Lft} {q : Share} {x : MutBor (List D.R.Denot)} {ys : List D.R.Denot} {z r : Operand} {p c i : ℕ} {σ : Ty} {rest : Body}
      → (◌≡◌ {A = Bytes} (hold Γ n, opd_value E ss z, opd_value E ss r, type_of E ss p, D.τ, (mem D.R).size) (mut κ q D x ys, vint w64 i, vptr x.ref_ptr.0 x.ref_ptr.1, some ty_ptr, σ, 1)) × opd_good E ss z × opd_good E ss r
      → Within E c × (held (upd ss p (vptr x.ref_ptr.0 (i + x.ref_ptr.1))) c ≡ has (D.val y)) → i < length ys → Is D.R y (D.val y ∷ [])
      → Rule K 𝓛 𝓣 E (upd ss p (vptr x.ref_ptr.0 (i + x.ref_ptr.1))) (swap Γ n (mut κ q D x (set ys i y))) rest e ss Γ (seq (assign (place p []) (op2 offset r z)) (seq (assign (place p (deref σ ∷ [])) (rv_opd (copy (place c [])))) rest)) e
  writes_byte t D n d₀ y {κ} {q} {x} {ys} {z} {r} {p} {c} {i} {σ} {rest} ix ec l gy = record {
    go = λ k. record {
      prf =
          let ss₂ : List Cell = upd ss p (vptr x.ref_ptr.0 (i + x.ref_ptr.1)) in
          to_byte 𝓛 K t E ss (items Γ) 𝓣.C 𝓣.Λ _ _ z r p i x.ref_ptr.0 x.ref_ptr.1 ix.1 (ap (λ (f : Bytes). f.1) ix.0) ix.2 (ap (λ (f : Bytes). f.2) ix.0) (ap (λ (f : Bytes). f.3) ix.0)
          (subst (λ (u : Ty). Seq K 𝓛 (‵ (locals E ss₂) ∷ items Γ) (runs 𝓣.C 𝓣.Λ E (seq (assign (place p (deref u ∷ [])) (rv_opd (copy (place c [])))) rest) (ending 𝓛 𝓣 E e))) (ap (λ (f : Bytes). f.4) ix.0)
          (store_mut 𝓛 K t E ss₂ Γ n 𝓣.C 𝓣.Λ _ rest κ q D x i (i + x.ref_ptr.1) p (held_upd ss p _) (in_at E ss p ty_ptr (ap (λ (f : Bytes). f.3) ix.0)) (ap (λ (u : ℕ). place_of u x.ref_ptr.1 i) (ap (λ (f : Bytes). f.5) ix.0) ∙ place_byte x.ref_ptr.1 i) c d₀ y ys (ap (λ (f : Bytes). f.0) ix.0) l ec.1 ec.0 gy k.prf));
    };
  }

  -- `_d = s[z]` of a `&[D]` of bytes
  pub reads_byte : K → (D : Elem) (n : ℕ) (d₀ : D.R.Denot) {κ : Lft} {q : Share} {x : Bor (List D.R.Denot)} {z r : Operand} {p d i : ℕ} {σ : Ty} {rest : Body}
      → (◌≡◌ {A = Bytes} (hold Γ n, opd_value E ss z, opd_value E ss r, type_of E ss p, D.τ, (mem D.R).size) (shr κ q D x, vint w64 i, vptr x.ref_ptr.0 x.ref_ptr.1, some ty_ptr, σ, 1)) × opd_good E ss z × opd_good E ss r
      → type_of E (upd ss p (vptr x.ref_ptr.0 (i + x.ref_ptr.1))) d ≡ some σ → i < length x.now
      → (Is D.R (get_or x.now i d₀) (D.val (get_or x.now i d₀) ∷ []) → Run K 𝓛 𝓣 E (upd (upd ss p (vptr x.ref_ptr.0 (i + x.ref_ptr.1))) d (D.val (get_or x.now i d₀))) Γ rest e)
      → Run K 𝓛 𝓣 E ss Γ (seq (assign (place p []) (op2 offset r z)) (seq (assign (place d []) (rv_opd (copy (place p (deref σ ∷ []))))) rest)) e
  reads_byte t D n d₀ {κ} {q} {x} {z} {r} {p} {d} {i} {σ} {rest} ix ed l k = record {
    prf =
        let ss₂ : List Cell = upd ss p (vptr x.ref_ptr.0 (i + x.ref_ptr.1)) in
        let τ-is : D.τ ≡ σ = ap (λ (f : Bytes). f.4) ix.0 in
        let p-is : type_of E ss p ≡ some ty_ptr = ap (λ (f : Bytes). f.3) ix.0 in
        to_byte 𝓛 K t E ss (items Γ) 𝓣.C 𝓣.Λ _ _ z r p i x.ref_ptr.0 x.ref_ptr.1 ix.1 (ap (λ (f : Bytes). f.1) ix.0) ix.2 (ap (λ (f : Bytes). f.2) ix.0) p-is
        (subst (λ (u : Ty). Seq K 𝓛 (‵ (locals E ss₂) ∷ items Γ) (runs 𝓣.C 𝓣.Λ E (seq (assign (place d []) (rv_opd (copy (place p (deref u ∷ []))))) rest) (ending 𝓛 𝓣 E e))) τ-is
        (load_shr 𝓛 K t E ss₂ Γ n 𝓣.C 𝓣.Λ _ rest κ q D x i (i + x.ref_ptr.1) p (held_upd ss p _) (in_at E ss p ty_ptr p-is) (ap (λ (u : ℕ). place_of u x.ref_ptr.1 i) (ap (λ (f : Bytes). f.5) ix.0) ∙ place_byte x.ref_ptr.1 i) d d₀ (ap (λ (f : Bytes). f.0) ix.0) l
        (λ g. stores_at E ss₂ d D.τ (D.val (get_or x.now i d₀)) (ed ∙ ap some (sym τ-is)) (typed_of 𝓛 D (get_or x.now i d₀) g)) (λ g. (k g).prf)));
  }
