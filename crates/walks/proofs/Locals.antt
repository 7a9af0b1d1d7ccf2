-- A function's locals as ONE entry of the context, the first: a list that says of each local, by its number in the MIR, what it holds. So a walk names locals by their MIR numbers,
-- whatever else is in the context, and all of them are allocated, and freed, in one step.
--     locals E ss      local i holds v where the i-th of ss is `has v`, nothing that is known where it is `free` or past the end of ss, and its memory is away, as what is lent, where it is `lent`
--     begins           a function's locals are allocated and its arguments stored
--     opd_good, opd_value, rv_good, rv_value      what an operand or a right side asks, and what it evaluates to: both compute from the MIR and ss
--     operand, rvalue  so they are read;  puts     and a local is stored to
--     forgets_at       what some locals hold is forgotten, as at the end of a turn
--     take_out, put_in a local's memory goes out, as when it is lent, and comes back
--     free_all         all are freed, at a function's end
-- Assumes `Logic`.
use mathlib.Core.Path.{◌≡◌, refl, sym, ap, subst}
use Prim.Native.Nat.{ℕ, zero, suc, ◌+◌, ◌-◌, ◌^◌}
use mathlib.Core.Bool.{true, false, ◌&&◌}
use mathlib.Core.Option.{Option, none, some}
use mathlib.Core.List.{List, [], ◌∷◌}
use lib.ListN.{get_or, replicate}
use lib.Dec.{T, ltb, leb}
use seplogic.Ra.Ura.{Ura}
use base.Fraction.{full_share}
use mir.Syntax.{Sym, Ty, Tys, ty_int, ty_bool, ty_float, ty_ptr, ty_ref, ty_array, ty_unit, ty_struct, ty_enum, ty_param, ty_const, ty_array_p, ty_named, ttnil, Step as PStep, deref, field, variant, place, Opd as Operand, copy, int, int_neg, int_big, float, opd_true, opd_false, opd_unit, ptr_const, size_of, align_of, num_of, fn_addr, vtable, Rv as RValue, rv_opd, op2, op1, addr_of, aggregate, repeat, repeat_p, select, w64, Local, local, Fn}
use mir.Val.{Val, vunit, vbool, vint, vfloat, vptr, vcode, vstruct, Vals, of_list, WT, has_ty, bits, as_ptr, Dom, op2_chk, op2_val, op1_chk, op1_val}
use mir.Fields.{get_v}
use base.Logic.{SProp, ent, sep, wand, all, id⊢, mono_r, all_e, apply∗, never}
use base.Fml.{Fml, ftrue, fsep, fat, froom, fdies}
use prog.Memory.{field_at, field_of, size, align, capped}
use prog.Wp.{part, read, eval_opd, Env, Calls, Loops, WpFn}
use types.Logic.{Logic, sem}
use types.Kit.{Item, ‵, raw, ◌⊛◌, ⋆, Goal, prop, runs, allocs, params', passes, frees, at_ret, Seq, ◌$◌, ◌∵◌, !, qed, by, move, rewrite, use0, use1, use2, drop, split, fsplit, fjoin, frame, each, assume, check, done}
use types.Run.{Reads, Writes, Opd, Opds, Rv, init, forget, stop, from, lit, neg_lit, unit_lit, true_lit, false_lit, size_word, align_word, no_more, and_then, of_opd, bin, un, addr, enter, alloc1, alloc0, params1, pass1, pass0, free1, free0}
use types.Part.{Part, sub, look_in, agg, rep}

-- ---- what a local holds
abbrev pub Local' : Type 0
Local' = Ty × ℕ

pub data Cell : Type 0 where
  free : Cell
  has : Val → Cell
  lent : Cell

abbrev pub slot : Local' → Cell → Fml
slot e free = froom e.0 e.1 zero
slot e lent = ftrue
slot e (has v) = fat full_share e.0 e.1 zero v

unfoldable pub locals : List Local' → List Cell → Fml
locals [] ss = ftrue
locals (e ∷ E) [] = fsep (froom e.0 e.1 zero) (fsep (fdies e.0 e.1) (locals E []))
locals (e ∷ E) (s ∷ ss) = fsep (slot e s) (fsep (fdies e.0 e.1) (locals E ss))

abbrev pub held : List Cell → ℕ → Cell
held [] i = free
held (s ∷ ss) zero = s
held (s ∷ ss) (suc i) = held ss i

-- local i is given the value v
abbrev pub upd : List Cell → ℕ → Val → List Cell
upd [] zero v = has v ∷ []
upd [] (suc i) v = free ∷ upd [] i v
upd (s ∷ ss) zero v = has v ∷ ss
upd (s ∷ ss) (suc i) v = s ∷ upd ss i v

-- its memory is there; and that of all
abbrev pub Kept : Cell → Type 0
Kept free = Unit {0}
Kept (has v) = Unit {0}
Kept lent = ⊥

abbrev pub Here : List Cell → Type 0
Here [] = Unit {0}
Here (free ∷ ss) = Here ss
Here (has v ∷ ss) = Here ss
Here (lent ∷ ss) = ⊥

abbrev pub There : Cell → Type 0
There free = ⊥
There lent = ⊥
There (has v) = Unit {0}

abbrev pub got : Cell → Val
got free = vunit
got lent = vunit
got (has v) = v

upd_same : (ss : List Cell) (i : ℕ) → There (held ss i) → upd ss i (got (held ss i)) ≡ ss
upd_same [] i e = absurd e
upd_same (free ∷ ss) zero e = absurd e
upd_same (lent ∷ ss) zero e = absurd e
upd_same (has v ∷ ss) zero e = refl
upd_same (s ∷ ss) (suc i) e = ap (λ (os : List Cell). s ∷ os) (upd_same ss i e)

-- local i: its type and block; and that there is one
abbrev pub nth_local : List Local' → ℕ → Local'
nth_local E i = get_or E i (ty_enum [] ttnil, zero)

abbrev pub Within : List Local' → ℕ → Type 0
Within [] i = ⊥
Within (e ∷ E) zero = Unit {0}
Within (e ∷ E) (suc i) = Within E i

-- the environment of a list of locals, at their blocks
abbrev pub Blocks : List Local → Type 0
Blocks [] = Unit {0}
Blocks (local τ h ∷ ls) = ℕ × Blocks ls

abbrev pub env_of : (ls : List Local) → Blocks ls → List Local'
env_of [] bs = []
env_of (local τ h ∷ ls) bs = (τ, bs.0) ∷ env_of ls bs.1

abbrev pub holding : List Val → List Cell
holding [] = []
holding (v ∷ vs) = has v ∷ holding vs

-- each argument is of its local's type
abbrev pub Typeds : List Local' → List Val → Type 0
Typeds E [] = Unit {0}
Typeds [] (v ∷ vs) = ⊥
Typeds (e ∷ E) (v ∷ vs) = (T (has_ty e.0 v) × WT v) × Typeds E vs

module _ {M : Type 1} {𝓤 : Ura M} {𝓛 : Logic 𝓤} {K : Type 0} where
  -- ---- entry
  open 𝓛 use {H}

  alloc_all : K → (ls : List Local) (Γ : List (Item 𝓤)) (Kt : Env 𝓤 H → Goal 𝓤 H) → ((bs : Blocks ls) → Seq K 𝓛 (‵ (locals (env_of ls bs) []) ∷ Γ) (Kt (env_of ls bs))) → Seq K 𝓛 Γ (allocs ls Kt)
  unfolding locals
  alloc_all t [] Γ Kt k = alloc0 t $ use0 𝓛 (‵ ftrue) (id⊢ 𝓤 _) $ k tt
  alloc_all t (local τ h ∷ ls) Γ Kt k =
      alloc1 t (λ b. alloc_all t ls (‵ (froom τ b zero) ∷ ‵ (fdies τ b) ∷ Γ) (λ E. Kt ((τ, b) ∷ E)) (λ bs.
      move t (2 ∷ 0 ∷ []) $ fjoin t $ move t (1 ∷ 0 ∷ []) $ fjoin t $ k (b, bs)))

  pass_all : K → (E : List Local') (vs : List Val) (Γ : List (Item 𝓤)) (g : Goal 𝓤 H) → Typeds E vs → Seq K 𝓛 (‵ (locals E (holding vs)) ∷ Γ) g → Seq K 𝓛 (‵ (locals E []) ∷ Γ) (passes E vs g)
  unfolding locals
  pass_all t E [] Γ g wt k = pass0 t $ k
  pass_all t [] (v ∷ vs) Γ g wt k = absurd wt
  pass_all t (e ∷ E) (v ∷ vs) Γ g wt k =
      fsplit t $ pass1 t (init t 0 refl wt.0) $ move t (1 ∷ []) $ fsplit t $ move t (1 ∷ []) $
      pass_all t E vs (‵ (fdies e.0 e.1) ∷ ‵ (fat full_share e.0 e.1 zero v) ∷ Γ) g wt.1
      (move t (1 ∷ 0 ∷ []) $ fjoin t $ move t (1 ∷ 0 ∷ []) $ fjoin t $ k)

  pub free_all : K → (E : List Local') (ss : List Cell) (Γ : List (Item 𝓤)) (g : Goal 𝓤 H) → Here ss → Seq K 𝓛 Γ g → Seq K 𝓛 (‵ (locals E ss) ∷ Γ) (frees E g)
  unfolding locals
  free_all t [] ss Γ g here k = drop t $ free0 t $ k
  free_all t (e ∷ E) [] Γ g here k = fsplit t $ move t (1 ∷ []) $ fsplit t $ move t (2 ∷ 0 ∷ []) $ free1 t $ free_all t E [] Γ g tt k
  free_all t (e ∷ E) (lent ∷ ss) Γ g here k = absurd here
  free_all t (e ∷ E) (free ∷ ss) Γ g here k = fsplit t $ move t (1 ∷ []) $ fsplit t $ move t (2 ∷ 0 ∷ []) $ free1 t $ free_all t E ss Γ g here k
  free_all t (e ∷ E) (has v ∷ ss) Γ g here k = fsplit t $ forget t 0 refl $ move t (1 ∷ []) $ fsplit t $ move t (2 ∷ 0 ∷ []) $ free1 t $ free_all t E ss Γ g here k

-- ---- one local, and the way back with any value in it
module _ {M : Type 1} {𝓤 : Ura M} (𝓛 : Logic 𝓤) where
  open 𝓛 use {H}

  abbrev ⟦◌⟧ : Fml → SProp 𝓤
  ⟦ P ⟧ = sem 𝓛 P

  abbrev pub Filled : List Local' → List Cell → ℕ → Val → SProp 𝓤
  Filled E ss i u = wand 𝓤 (H.at full_share (nth_local E i).0 (nth_local E i).1 zero u) ⟦ locals E (upd ss i u) ⟧

  abbrev pub Around : List Local' → List Cell → ℕ → SProp 𝓤
  Around E ss i = all 𝓤 (Filled E ss i)

  -- an entry before it
  around_next : (e : Local') (E : List Local') (s : Cell) (ss : List Cell) (i : ℕ) → ent 𝓤 (sep 𝓤 ⟦ slot e s ⟧ (sep 𝓤 ⟦ fdies e.0 e.1 ⟧ (Around E ss i))) (Around (e ∷ E) (s ∷ ss) (suc i))
  unfolding locals
  around_next e E s ss i =
      qed 𝓛 (‵ (slot e s) ∷ ‵ (fdies e.0 e.1) ∷ raw (Around E ss i) ∷ []) ∵ each ! (Filled (e ∷ E) (s ∷ ss) (suc i)) (λ u.
      assume {P = ⟦ locals (e ∷ E) (s ∷ upd ss i u) ⟧} ! (‵ (fat full_share (nth_local E i).0 (nth_local E i).1 zero u)) $ move ! (3 ∷ []) $ use1 𝓛 (raw (Filled E ss i u)) (all_e 𝓤 (Filled E ss i) u) $ move ! (1 ∷ 0 ∷ []) $
      use2 𝓛 (‵ (locals E (upd ss i u))) (apply∗ 𝓤 (H.at full_share (nth_local E i).0 (nth_local E i).1 zero u) ⟦ locals E (upd ss i u) ⟧) $ move ! (2 ∷ 0 ∷ []) $ fjoin ! $ move ! (1 ∷ 0 ∷ []) $ fjoin ! $ done !)

  around_here : (e : Local') (E : List Local') (s : Cell) (ss : List Cell) → ent 𝓤 ⟦ fsep (fdies e.0 e.1) (locals E ss) ⟧ (Around (e ∷ E) (s ∷ ss) zero)
  unfolding locals
  around_here e E s ss =
      qed 𝓛 (‵ (fsep (fdies e.0 e.1) (locals E ss)) ∷ []) ∵ each ! (Filled (e ∷ E) (s ∷ ss) zero) (λ u.
      assume {P = ⟦ locals (e ∷ E) (has u ∷ ss) ⟧} ! (‵ (fat full_share e.0 e.1 zero u)) $ fjoin ! $ done !)

  pub cut_in : (E : List Local') (ss : List Cell) (i : ℕ) → Within E i → ent 𝓤 ⟦ locals E ss ⟧ (sep 𝓤 ⟦ slot (nth_local E i) (held ss i) ⟧ (Around E ss i))
  unfolding locals
  cut_in [] ss i l = absurd l
  cut_in (e ∷ E) [] zero l = mono_r 𝓤 ⟦ froom e.0 e.1 zero ⟧ (around_here e E free [])
  cut_in (e ∷ E) [] (suc i) l =
      qed 𝓛 (‵ (locals (e ∷ E) []) ∷ []) ∵ fsplit ! $ move ! (1 ∷ []) $ fsplit ! $ move ! (1 ∷ []) $ use1 𝓛 (‵ (slot (nth_local E i) free) ⊛ raw (Around E [] i)) (cut_in E [] i l) $ split ! $ frame ! $ move ! (2 ∷ 1 ∷ 0 ∷ []) $ by ! (around_next e E free [] i)
  cut_in (e ∷ E) (s ∷ ss) zero l = mono_r 𝓤 ⟦ slot e s ⟧ (around_here e E s ss)
  cut_in (e ∷ E) (s ∷ ss) (suc i) l =
      qed 𝓛 (‵ (locals (e ∷ E) (s ∷ ss)) ∷ []) ∵ fsplit ! $ move ! (1 ∷ []) $ fsplit ! $ move ! (1 ∷ []) $ use1 𝓛 (‵ (slot (nth_local E i) (held ss i)) ⊛ raw (Around E ss i)) (cut_in E ss i l) $ split ! $ frame ! $ move ! (2 ∷ 1 ∷ 0 ∷ []) $ by ! (around_next e E s ss i)

-- ---- what an operand and a right side ask of the locals, and what they evaluate to
abbrev as_struct {ℓ} : {X : Type ℓ} → X → Val → (Vals → X) → X
as_struct z vunit k = z
as_struct z (vbool b) k = z
as_struct z (vint w a) k = z
as_struct z (vfloat f x) k = z
as_struct z (vptr b o) k = z
as_struct z (vcode ι) k = z
as_struct z (vstruct vs) k = k vs

abbrev IsField : Option (Ty × ℕ) → Type 0
IsField none = ⊥
IsField (some f) = Unit {0}

abbrev field_good : Ty → Cell → ℕ → Type 0
field_good τ free k = ⊥
field_good τ lent k = ⊥
field_good τ (has v) k = as_struct ⊥ v (λ vs. IsField (field_of τ k))

-- the value itself, or a field of it: no other place is read by an operand here
abbrev pub steps_good : Ty → Cell → List PStep → Type 0
steps_good τ s [] = There s
steps_good τ s (deref σ ∷ st) = ⊥
steps_good τ s (variant k ∷ st) = ⊥
steps_good τ s (field k ∷ []) = field_good τ s k
steps_good τ s (field k ∷ x ∷ st) = ⊥

abbrev pub local_good : List Local' → List Cell → ℕ → List PStep → Type 0
local_good [] ss i st = ⊥
local_good (e ∷ E) [] i st = ⊥
local_good (e ∷ E) (s ∷ ss) zero st = steps_good e.0 s st
local_good (e ∷ E) (s ∷ ss) (suc i) st = local_good E ss i st

field_there : (τ : Ty) (s : Cell) (k : ℕ) → field_good τ s k → There s × as_struct ⊥ (got s) (λ vs. IsField (field_of τ k))
field_there τ free k g = absurd g
field_there τ lent k g = absurd g
field_there τ (has v) k g = (tt, g)

pub local_is : (E : List Local') (ss : List Cell) (i : ℕ) (st : List PStep) → local_good E ss i st → Within E i × steps_good (nth_local E i).0 (held ss i) st
local_is [] ss i st g = absurd g
local_is (e ∷ E) [] i st g = absurd g
local_is (e ∷ E) (s ∷ ss) zero st g = (tt, g)
local_is (e ∷ E) (s ∷ ss) (suc i) st g = local_is E ss i st g

-- v may be stored to local i
abbrev stores_slot : Ty → Cell → Val → Type 0
stores_slot τ free v = T (has_ty τ v) × WT v
stores_slot τ (has u) v = T (has_ty τ v) × WT v
stores_slot τ lent v = ⊥

abbrev pub Stores : List Local' → List Cell → ℕ → Val → Type 0
Stores [] ss i v = ⊥
Stores (e ∷ E) [] zero v = T (has_ty e.0 v) × WT v
Stores (e ∷ E) [] (suc i) v = Stores E [] i v
Stores (e ∷ E) (s ∷ ss) zero v = stores_slot e.0 s v
Stores (e ∷ E) (s ∷ ss) (suc i) v = Stores E ss i v

slot_is : (τ : Ty) (s : Cell) (v : Val) → stores_slot τ s v → Kept s × (T (has_ty τ v) × WT v)
slot_is τ free v g = (tt, g)
slot_is τ (has u) v g = (tt, g)
slot_is τ lent v g = absurd g

stores_is : (E : List Local') (ss : List Cell) (i : ℕ) (v : Val) → Stores E ss i v → Within E i × Kept (held ss i) × (T (has_ty (nth_local E i).0 v) × WT v)
stores_is [] ss i v g = absurd g
stores_is (e ∷ E) [] zero v g = (tt, tt, g)
stores_is (e ∷ E) [] (suc i) v g = stores_is E [] i v g
stores_is (e ∷ E) (s ∷ ss) zero v g = (tt, (slot_is e.0 s v g).0, (slot_is e.0 s v g).1)
stores_is (e ∷ E) (s ∷ ss) (suc i) v g = stores_is E ss i v g

abbrev steps_value : Val → List PStep → Val
steps_value v [] = v
steps_value v (deref σ ∷ st) = vunit
steps_value v (variant k ∷ st) = vunit
steps_value v (field k ∷ []) = as_struct vunit v (λ vs. get_v vs k)
steps_value v (field k ∷ x ∷ st) = vunit

module _ (E : List Local') (ss : List Cell) where
  abbrev pub opd_good : Operand → Type 0
  opd_good (copy (place i st)) = local_good E ss i st
  opd_good (int w n) = T (ltb n (2 ^ bits w))
  opd_good (int_neg w k) = T (ltb zero k && leb k (2 ^ bits w))
  opd_good (int_big w n) = ⊥
  opd_good (float f n) = ⊥
  opd_good opd_true = Unit {0}
  opd_good opd_false = Unit {0}
  opd_good opd_unit = Unit {0}
  opd_good (ptr_const n) = ⊥
  opd_good (size_of τ) = Unit {0}
  opd_good (align_of τ) = Unit {0}
  opd_good (num_of w τ) = ⊥
  opd_good (fn_addr c ς) = ⊥
  opd_good (vtable τ cs) = ⊥

  abbrev pub opd_value : Operand → Val
  opd_value (copy (place i st)) = steps_value (got (held ss i)) st
  opd_value (int w n) = vint w n
  opd_value (int_neg w k) = vint w (2 ^ bits w - k)
  opd_value (int_big w n) = vunit
  opd_value (float f n) = vunit
  opd_value opd_true = vbool true
  opd_value opd_false = vbool false
  opd_value opd_unit = vunit
  opd_value (ptr_const n) = vunit
  opd_value (size_of τ) = vint w64 (capped (size τ))
  opd_value (align_of τ) = vint w64 (capped (align τ))
  opd_value (num_of w τ) = vunit
  opd_value (fn_addr c ς) = vunit
  opd_value (vtable τ cs) = vunit

  abbrev pub opds_good : List Operand → Type 0
  opds_good [] = Unit {0}
  opds_good (x ∷ xs) = opd_good x × opds_good xs

  abbrev pub opds_value : List Operand → List Val
  opds_value [] = []
  opds_value (x ∷ xs) = opd_value x ∷ opds_value xs

slot_there : (e : Local') (s : Cell) → There s → slot e s ≡ fat full_share e.0 e.1 zero (got s)
slot_there e free h = absurd h
slot_there e lent h = absurd h
slot_there e (has v) h = refl

module _ {M : Type 1} {𝓤 : Ura M} (𝓛 : Logic 𝓤) (K : Type 0) (t : K) (E : List Local') (ss : List Cell) where
  open 𝓛 use {H}

  slot_room : (e : Local') (s : Cell) → Kept s → ent 𝓤 (sem 𝓛 (slot e s)) (H.room e.0 e.1 zero)
  slot_room e free k = id⊢ 𝓤 _
  slot_room e lent k = absurd k
  slot_room e (has v) k = 𝓛.laws.at_room e.0 e.1 zero v

  pub local_part : (i : ℕ) → Within E i → There (held ss i) → Part K 𝓛 (‵ (locals E ss)) full_share (nth_local E i).0 (nth_local E i).1 zero (got (held ss i)) (λ u. ‵ (locals E (upd ss i u)))
  local_part i l h = record {
    out = subst (λ (P : Fml). ent 𝓤 (sem 𝓛 (locals E ss)) (sep 𝓤 (sem 𝓛 P) (Around 𝓛 E ss i))) (slot_there (nth_local E i) (held ss i) h) (cut_in 𝓛 E ss i l);
    same = ap (λ (os : List Cell). ‵ (locals E os)) (upd_same ss i h);
  }

  module _ (Γ : List (Item 𝓤)) where
    -- local i is stored to, whatever it holds
    pub puts : (i : ℕ) (v : Val) → Stores E ss i v → Writes K 𝓛 (‵ (locals E ss) ∷ Γ) (nth_local E i).0 (nth_local E i).1 zero v (‵ (locals E (upd ss i v)) ∷ Γ)
    puts i v good = record {
      go = λ P h. qed 𝓛 (‵ (locals E ss) ∷ Γ) ∵
          use1 𝓛 (‵ (slot (nth_local E i) (held ss i)) ⊛ raw (Around 𝓛 E ss i)) (cut_in 𝓛 E ss i (stores_is E ss i v good).0) $ split ! $
          use1 𝓛 (‵ (froom (nth_local E i).0 (nth_local E i).1 zero)) (slot_room (nth_local E i) (held ss i) (stores_is E ss i v good).1) $
          check ! (stores_is E ss i v good).2 $ frame ! $ assume {P = P} ! (‵ (fat full_share (nth_local E i).0 (nth_local E i).1 zero v)) $
          move ! (1 ∷ []) $ use1 𝓛 (raw (Filled 𝓛 E ss i v)) (all_e 𝓤 (Filled 𝓛 E ss i) v) $ move ! (1 ∷ 0 ∷ []) $
          use2 𝓛 (‵ (locals E (upd ss i v))) (apply∗ 𝓤 (H.at full_share (nth_local E i).0 (nth_local E i).1 zero v) (sem 𝓛 (locals E (upd ss i v)))) $ by ! h;
    }

    -- a field of a struct that p finds
    abbrev Fielded : Ty → ℕ → ℕ → (Val → SProp 𝓤) → SProp 𝓤
    Fielded τ b k Kt = part 𝓤 H (field_of τ k) (λ σ d. read 𝓤 H σ b (zero + d) Kt)

    abbrev held_now : SProp 𝓤
    held_now = ⋆ 𝓛 (‵ (locals E ss) ∷ Γ)

    field_at_lem : (ν : Sym) (τs : Tys) (vs : Vals) (b k : ℕ) {back : Val → Item 𝓤} → Part K 𝓛 (‵ (locals E ss)) full_share (ty_struct ν τs) b zero (vstruct vs) back → (f : Option (Ty × ℕ)) → field_at zero τs k ≡ f → IsField f
        → (Kt : Val → SProp 𝓤) → ent 𝓤 held_now (Kt (get_v vs k)) → ent 𝓤 held_now (part 𝓤 H f (λ σ d. read 𝓤 H σ b (zero + d) Kt))
    field_at_lem ν τs vs b k p none e good Kt h = absurd good
    field_at_lem ν τs vs b k p (some f) e good Kt h =
        let rd : Reads K 𝓛 (‵ (locals E ss) ∷ Γ) f.0 b (zero + f.1) (get_v vs k) = look_in t 0 (sub t k e p) in
        rd.go Kt h

    field_in : (τ : Ty) (vs : Vals) (b k : ℕ) {back : Val → Item 𝓤} → Part K 𝓛 (‵ (locals E ss)) full_share τ b zero (vstruct vs) back → IsField (field_of τ k) → (Kt : Val → SProp 𝓤) → ent 𝓤 held_now (Kt (get_v vs k)) → ent 𝓤 held_now (Fielded τ b k Kt)
    field_in (ty_int w) vs b k p good Kt h = absurd good
    field_in ty_bool vs b k p good Kt h = absurd good
    field_in (ty_float f) vs b k p good Kt h = absurd good
    field_in ty_ptr vs b k p good Kt h = absurd good
    field_in (ty_ref κ μ τ) vs b k p good Kt h = absurd good
    field_in (ty_array τ n) vs b k p good Kt h = absurd good
    field_in ty_unit vs b k p good Kt h = absurd good
    field_in (ty_struct ν τs) vs b k p good Kt h = field_at_lem ν τs vs b k p (field_at zero τs k) refl good Kt h
    field_in (ty_enum ν τss) vs b k p good Kt h = absurd good
    field_in (ty_param n) vs b k p good Kt h = absurd good
    field_in (ty_const n) vs b k p good Kt h = absurd good
    field_in (ty_array_p τ n) vs b k p good Kt h = absurd good
    field_in (ty_named ν τs) vs b k p good Kt h = absurd good

    field_of_lem : (τ : Ty) (v : Val) (b k : ℕ) {back : Val → Item 𝓤} → Part K 𝓛 (‵ (locals E ss)) full_share τ b zero v back → as_struct ⊥ v (λ vs. IsField (field_of τ k))
        → (Kt : Val → SProp 𝓤) → ent 𝓤 held_now (Kt (as_struct vunit v (λ vs. get_v vs k))) → ent 𝓤 held_now (Fielded τ b k Kt)
    field_of_lem τ vunit b k p good Kt h = absurd good
    field_of_lem τ (vbool x) b k p good Kt h = absurd good
    field_of_lem τ (vint w n) b k p good Kt h = absurd good
    field_of_lem τ (vfloat f x) b k p good Kt h = absurd good
    field_of_lem τ (vptr b' o) b k p good Kt h = absurd good
    field_of_lem τ (vcode ι) b k p good Kt h = absurd good
    field_of_lem τ (vstruct vs) b k p good Kt h = field_in τ vs b k p good Kt h

    pub steps : (i : ℕ) (st : List PStep) → Within E i × steps_good (nth_local E i).0 (held ss i) st → (Kt : Val → SProp 𝓤) → ent 𝓤 held_now (Kt (steps_value (got (held ss i)) st)) → ent 𝓤 held_now (eval_opd 𝓤 H E (copy (place i st)) Kt)
    steps i [] g Kt h =
        let rd : Reads K 𝓛 (‵ (locals E ss) ∷ Γ) (nth_local E i).0 (nth_local E i).1 zero (got (held ss i)) = look_in t 0 (local_part i g.0 g.1) in
        rd.go Kt h
    steps i (deref σ ∷ st) g Kt h = absurd g.1
    steps i (variant k ∷ st) g Kt h = absurd g.1
    steps i (field k ∷ []) g Kt h =
        let f = field_there (nth_local E i).0 (held ss i) k g.1 in
        field_of_lem (nth_local E i).0 (got (held ss i)) (nth_local E i).1 k (local_part i g.0 f.0) f.1 Kt h
    steps i (field k ∷ x ∷ st) g Kt h = absurd g.1

    pub operand : (x : Operand) → opd_good E ss x → Opd K 𝓛 (‵ (locals E ss) ∷ Γ) E x (opd_value E ss x)
    operand (copy (place i st)) g = record { go = steps i st (local_is E ss i st g) }
    operand (int w n) g = lit t g
    operand (int_neg w k) g = neg_lit t g
    operand (int_big w n) g = absurd g
    operand (float f n) g = absurd g
    operand opd_true g = true_lit t
    operand opd_false g = false_lit t
    operand opd_unit g = unit_lit t
    operand (ptr_const n) g = absurd g
    operand (size_of τ) g = size_word t
    operand (align_of τ) g = align_word t
    operand (num_of w τ) g = absurd g
    operand (fn_addr c ς) g = absurd g
    operand (vtable τ cs) g = absurd g

    pub operands : (xs : List Operand) → opds_good E ss xs → Opds K 𝓛 (‵ (locals E ss) ∷ Γ) E xs (opds_value E ss xs)
    operands [] g = no_more t
    operands (x ∷ xs) g = and_then t (operand x g.0) (operands xs g.1)

-- ---- right sides. A `&mut *s`, of a slice's pointer, is that pointer: `addr_of` of a field and a `deref`
abbrev IsPtr : Val → Type 0
IsPtr v = as_ptr ⊥ v (λ b o. Unit {0})

abbrev addr_good : List Local' → List Cell → ℕ → List PStep → Type 0
addr_good E ss i [] = Within E i
addr_good E ss i (deref σ ∷ st) = ⊥
addr_good E ss i (variant k ∷ st) = ⊥
addr_good E ss i (field k ∷ []) = ⊥
addr_good E ss i (field k ∷ deref σ ∷ []) = local_good E ss i (field k ∷ []) × IsPtr (steps_value (got (held ss i)) (field k ∷ []))
addr_good E ss i (field k ∷ deref σ ∷ x ∷ st) = ⊥
addr_good E ss i (field k ∷ field j ∷ st) = ⊥
addr_good E ss i (field k ∷ variant j ∷ st) = ⊥

abbrev addr_value : List Local' → List Cell → ℕ → List PStep → Val
addr_value E ss i [] = vptr (nth_local E i).1 zero
addr_value E ss i (deref σ ∷ st) = vunit
addr_value E ss i (variant k ∷ st) = vunit
addr_value E ss i (field k ∷ []) = vunit
addr_value E ss i (field k ∷ deref σ ∷ []) = steps_value (got (held ss i)) (field k ∷ [])
addr_value E ss i (field k ∷ deref σ ∷ x ∷ st) = vunit
addr_value E ss i (field k ∷ field j ∷ st) = vunit
addr_value E ss i (field k ∷ variant j ∷ st) = vunit

module _ (E : List Local') (ss : List Cell) where
  abbrev pub rv_good : RValue → Type 0
  rv_good (rv_opd x) = opd_good E ss x
  rv_good (op2 o x y) = opd_good E ss x × opd_good E ss y × Dom (op2_chk o (opd_value E ss x) (opd_value E ss y))
  rv_good (op1 o x) = opd_good E ss x × Dom (op1_chk o (opd_value E ss x))
  rv_good (addr_of (place i st)) = addr_good E ss i st
  rv_good (aggregate xs) = opds_good E ss xs
  rv_good (repeat x n) = opd_good E ss x
  rv_good (repeat_p x n) = ⊥
  rv_good (select m x y) = ⊥

  abbrev pub rv_value : RValue → Val
  rv_value (rv_opd x) = opd_value E ss x
  rv_value (op2 o x y) = op2_val o (opd_value E ss x) (opd_value E ss y)
  rv_value (op1 o x) = op1_val o (opd_value E ss x)
  rv_value (addr_of (place i st)) = addr_value E ss i st
  rv_value (aggregate xs) = vstruct (of_list (opds_value E ss xs))
  rv_value (repeat x n) = vstruct (of_list (replicate n (opd_value E ss x)))
  rv_value (repeat_p x n) = vunit
  rv_value (select m x y) = vunit

as_ptr_lem : {M : Type 1} (𝓤 : Ura M) (Kt : Val → SProp 𝓤) (v : Val) → IsPtr v → as_ptr (never 𝓤) v (λ b o. Kt (vptr b o)) ≡ Kt v
as_ptr_lem 𝓤 Kt vunit g = absurd g
as_ptr_lem 𝓤 Kt (vbool b) g = absurd g
as_ptr_lem 𝓤 Kt (vint w a) g = absurd g
as_ptr_lem 𝓤 Kt (vfloat f x) g = absurd g
as_ptr_lem 𝓤 Kt (vptr b o) g = refl
as_ptr_lem 𝓤 Kt (vcode ι) g = absurd g
as_ptr_lem 𝓤 Kt (vstruct vs) g = absurd g

module _ {M : Type 1} {𝓤 : Ura M} (𝓛 : Logic 𝓤) (K : Type 0) (t : K) (E : List Local') (ss : List Cell) (Γ : List (Item 𝓤)) where
  address : (i : ℕ) (st : List PStep) → addr_good E ss i st → Rv K 𝓛 (‵ (locals E ss) ∷ Γ) E (addr_of (place i st)) (addr_value E ss i st)
  address i [] g = addr t (from t (stop t))
  address i (deref σ ∷ st) g = absurd g
  address i (variant k ∷ st) g = absurd g
  address i (field k ∷ []) g = absurd g
  address i (field k ∷ deref σ ∷ []) g = record {
    go = λ Kt h. steps 𝓛 K t E ss Γ i (field k ∷ []) (local_is E ss i (field k ∷ []) g.0) (λ v. as_ptr (never 𝓤) v (λ b o. Kt (vptr b o)))
        (subst (λ (P : SProp 𝓤). ent 𝓤 (⋆ 𝓛 (‵ (locals E ss) ∷ Γ)) P) (sym (as_ptr_lem 𝓤 Kt (steps_value (got (held ss i)) (field k ∷ [])) g.1)) h);
  }
  address i (field k ∷ deref σ ∷ x ∷ st) g = absurd g
  address i (field k ∷ field j ∷ st) g = absurd g
  address i (field k ∷ variant j ∷ st) g = absurd g

  pub rvalue : (rv : RValue) → rv_good E ss rv → Rv K 𝓛 (‵ (locals E ss) ∷ Γ) E rv (rv_value E ss rv)
  rvalue (rv_opd x) g = of_opd t (operand 𝓛 K t E ss Γ x g)
  rvalue (op2 o x y) g = bin t (operand 𝓛 K t E ss Γ x g.0) (operand 𝓛 K t E ss Γ y g.1) g.2
  rvalue (op1 o x) g = un t (operand 𝓛 K t E ss Γ x g.0) g.1
  rvalue (addr_of (place i st)) g = address i st g
  rvalue (aggregate xs) g = agg t (operands 𝓛 K t E ss Γ xs g)
  rvalue (repeat x n) g = rep t n (operand 𝓛 K t E ss Γ x g)
  rvalue (repeat_p x n) g = absurd g
  rvalue (select m x y) g = absurd g

-- of an environment that a function begins in
abbrev pub Starts : List Local → List Val → Type 0
Starts ls [] = Unit {0}
Starts [] (v ∷ vs) = ⊥
Starts (local τ h ∷ ls) (v ∷ vs) = (T (has_ty τ v) × WT v) × Starts ls vs

starts_typed : (ls : List Local) (bs : Blocks ls) (vs : List Val) → Starts ls vs → Typeds (env_of ls bs) vs
starts_typed ls bs [] g = tt
starts_typed [] bs (v ∷ vs) g = absurd g
starts_typed (local τ h ∷ ls) bs (v ∷ vs) g = (g.0, starts_typed ls bs.1 vs g.1)

abbrev pub Starts₀ : List Local → List Val → Type 0
Starts₀ [] vs = ⊥
Starts₀ (l ∷ ls) vs = Starts ls vs

-- what is known of each local is known
abbrev pub Less : List Cell → List Cell → Type 0
Less [] ss = Here ss
Less (free ∷ ss') [] = Less ss' []
Less (free ∷ ss') (free ∷ ss) = Less ss' ss
Less (free ∷ ss') (has u ∷ ss) = Less ss' ss
Less (free ∷ ss') (lent ∷ ss) = ⊥
Less (has v ∷ ss') [] = ⊥
Less (has v ∷ ss') (free ∷ ss) = ⊥
Less (has v ∷ ss') (has u ∷ ss) = (u ≡ v) × Less ss' ss
Less (has v ∷ ss') (lent ∷ ss) = ⊥
Less (lent ∷ ss') [] = ⊥
Less (lent ∷ ss') (free ∷ ss) = ⊥
Less (lent ∷ ss') (has u ∷ ss) = ⊥
Less (lent ∷ ss') (lent ∷ ss) = Less ss' ss

module _ {M : Type 1} {𝓤 : Ura M} {𝓛 : Logic 𝓤} {K : Type 0} where
  open 𝓛 use {H}

  begin_at : K → (Γ : List (Item 𝓤)) (ls : List Local) (vs : List Val) (g : Env 𝓤 H → Goal 𝓤 H) → Starts₀ ls vs → ((bs : Blocks ls) → Seq K 𝓛 (‵ (locals (env_of ls bs) (free ∷ holding vs)) ∷ Γ) (g (env_of ls bs))) → Seq K 𝓛 Γ (allocs ls (λ E. params' E vs (g E)))
  unfolding locals
  begin_at t Γ [] vs g wt k = absurd wt
  begin_at t Γ (local τ h ∷ ls) vs g wt k = alloc_all t (local τ h ∷ ls) Γ (λ E. params' E vs (g E)) (λ bs. params1 t $ fsplit t $ move t (1 ∷ []) $ fsplit t $ move t (1 ∷ []) $
      pass_all t (env_of ls bs.1) vs (‵ (fdies τ bs.0) ∷ ‵ (froom τ bs.0 zero) ∷ Γ) (g ((τ, bs.0) ∷ env_of ls bs.1)) (starts_typed ls bs.1 vs wt)
      (move t (1 ∷ 0 ∷ []) $ fjoin t $ move t (1 ∷ 0 ∷ []) $ fjoin t $ k bs))

  -- the function begins: its locals are allocated, and its arguments stored
  pub begins : K → {Γ : List (Item 𝓤)} (C : Calls 𝓤 H) (Λ : Loops 𝓤 H) (f : Fn) (vs : List Val) (Kf : Val → SProp 𝓤) → Starts₀ f.locals vs
      → ((bs : Blocks f.locals) → Seq K 𝓛 (‵ (locals (env_of f.locals bs) (free ∷ holding vs)) ∷ Γ) (runs C Λ (env_of f.locals bs) f.body (at_ret (env_of f.locals bs) Kf))) → Seq K 𝓛 Γ (prop (WpFn 𝓤 H C Λ f vs Kf))
  begins t {Γ} C Λ f vs Kf wt k = enter t C Λ f vs Kf $ begin_at t Γ f.locals vs (λ E. runs C Λ E f.body (at_ret E Kf)) wt k

  pub forgets_at : K → (E : List Local') (ss ss' : List Cell) (G : Goal 𝓤 H) (Δ : List (Item 𝓤)) → Less ss' ss → Seq K 𝓛 (‵ (locals E ss') ∷ Δ) G → Seq K 𝓛 (‵ (locals E ss) ∷ Δ) G
  unfolding locals
  forgets_at t [] ss ss' G Δ l k = k
  forgets_at t (e ∷ E) [] [] G Δ l k = k
  forgets_at t (e ∷ E) [] (free ∷ ss') G Δ l k = fsplit t $ move t (1 ∷ []) $ fsplit t $ move t (1 ∷ []) $ forgets_at t E [] ss' G (‵ (fdies e.0 e.1) ∷ ‵ (froom e.0 e.1 zero) ∷ Δ) l
      (move t (1 ∷ 0 ∷ []) $ fjoin t $ move t (1 ∷ 0 ∷ []) $ fjoin t $ k)
  forgets_at t (e ∷ E) [] (has v ∷ ss') G Δ l k = absurd l
  forgets_at t (e ∷ E) [] (lent ∷ ss') G Δ l k = absurd l
  forgets_at t (e ∷ E) (lent ∷ ss) [] G Δ l k = absurd l
  forgets_at t (e ∷ E) (lent ∷ ss) (free ∷ ss') G Δ l k = absurd l
  forgets_at t (e ∷ E) (lent ∷ ss) (has v ∷ ss') G Δ l k = absurd l
  forgets_at t (e ∷ E) (free ∷ ss) (lent ∷ ss') G Δ l k = absurd l
  forgets_at t (e ∷ E) (has u ∷ ss) (lent ∷ ss') G Δ l k = absurd l
  forgets_at t (e ∷ E) (lent ∷ ss) (lent ∷ ss') G Δ l k = fsplit t $ move t (1 ∷ []) $ fsplit t $ move t (1 ∷ []) $ forgets_at t E ss ss' G (‵ (fdies e.0 e.1) ∷ ‵ ftrue ∷ Δ) l
      (move t (1 ∷ 0 ∷ []) $ fjoin t $ move t (1 ∷ 0 ∷ []) $ fjoin t $ k)
  forgets_at t (e ∷ E) (free ∷ ss) [] G Δ l k = fsplit t $ move t (1 ∷ []) $ fsplit t $ move t (1 ∷ []) $ forgets_at t E ss [] G (‵ (fdies e.0 e.1) ∷ ‵ (froom e.0 e.1 zero) ∷ Δ) l
      (move t (1 ∷ 0 ∷ []) $ fjoin t $ move t (1 ∷ 0 ∷ []) $ fjoin t $ k)
  forgets_at t (e ∷ E) (has u ∷ ss) [] G Δ l k = fsplit t $ forget t 0 refl $ move t (1 ∷ []) $ fsplit t $ move t (1 ∷ []) $ forgets_at t E ss [] G (‵ (fdies e.0 e.1) ∷ ‵ (froom e.0 e.1 zero) ∷ Δ) l
      (move t (1 ∷ 0 ∷ []) $ fjoin t $ move t (1 ∷ 0 ∷ []) $ fjoin t $ k)
  forgets_at t (e ∷ E) (free ∷ ss) (free ∷ ss') G Δ l k = fsplit t $ move t (1 ∷ []) $ fsplit t $ move t (1 ∷ []) $ forgets_at t E ss ss' G (‵ (fdies e.0 e.1) ∷ ‵ (froom e.0 e.1 zero) ∷ Δ) l
      (move t (1 ∷ 0 ∷ []) $ fjoin t $ move t (1 ∷ 0 ∷ []) $ fjoin t $ k)
  forgets_at t (e ∷ E) (has u ∷ ss) (free ∷ ss') G Δ l k = fsplit t $ forget t 0 refl $ move t (1 ∷ []) $ fsplit t $ move t (1 ∷ []) $ forgets_at t E ss ss' G (‵ (fdies e.0 e.1) ∷ ‵ (froom e.0 e.1 zero) ∷ Δ) l
      (move t (1 ∷ 0 ∷ []) $ fjoin t $ move t (1 ∷ 0 ∷ []) $ fjoin t $ k)
  forgets_at t (e ∷ E) (free ∷ ss) (has v ∷ ss') G Δ l k = absurd l
  forgets_at t (e ∷ E) (has u ∷ ss) (has v ∷ ss') G Δ l k = fsplit t $ rewrite t 0 (λ (w : Val). ‵ (fat full_share e.0 e.1 zero w)) l.0 refl $ move t (1 ∷ []) $ fsplit t $ move t (1 ∷ []) $
      forgets_at t E ss ss' G (‵ (fdies e.0 e.1) ∷ ‵ (fat full_share e.0 e.1 zero v) ∷ Δ) l.1
      (move t (1 ∷ 0 ∷ []) $ fjoin t $ move t (1 ∷ 0 ∷ []) $ fjoin t $ k)

-- ---- a local's memory is taken out, as when it is lent, and put back
abbrev pub set_cell : List Cell → ℕ → Cell → List Cell
set_cell [] zero s = s ∷ []
set_cell [] (suc i) s = free ∷ set_cell [] i s
set_cell (s₀ ∷ ss) zero s = s ∷ ss
set_cell (s₀ ∷ ss) (suc i) s = s₀ ∷ set_cell ss i s

module _ {M : Type 1} {𝓤 : Ura M} (𝓛 : Logic 𝓤) where
  pub take_out : (E : List Local') (ss : List Cell) (i : ℕ) → Within E i → ent 𝓤 (sem 𝓛 (locals E ss)) (sep 𝓤 (sem 𝓛 (slot (nth_local E i) (held ss i))) (sem 𝓛 (locals E (set_cell ss i lent))))
  unfolding locals
  take_out [] ss i l = absurd l
  take_out (e ∷ E) [] zero l = qed 𝓛 (‵ (locals (e ∷ E) []) ∷ []) ∵ fsplit ! $ frame ! $ use0 𝓛 (‵ ftrue) (id⊢ 𝓤 _) $ fjoin ! $ done !
  take_out (e ∷ E) [] (suc i) l = qed 𝓛 (‵ (locals (e ∷ E) []) ∷ []) ∵ fsplit ! $ move ! (1 ∷ []) $ fsplit ! $ move ! (1 ∷ []) $ use1 𝓛 (‵ (slot (nth_local E i) free) ⊛ ‵ (locals E (set_cell [] i lent))) (take_out E [] i l) $ split ! $ frame ! $
      move ! (1 ∷ 0 ∷ []) $ fjoin ! $ move ! (1 ∷ 0 ∷ []) $ fjoin ! $ done !
  take_out (e ∷ E) (s ∷ ss) zero l = qed 𝓛 (‵ (locals (e ∷ E) (s ∷ ss)) ∷ []) ∵ fsplit ! $ frame ! $ use0 𝓛 (‵ ftrue) (id⊢ 𝓤 _) $ fjoin ! $ done !
  take_out (e ∷ E) (s ∷ ss) (suc i) l = qed 𝓛 (‵ (locals (e ∷ E) (s ∷ ss)) ∷ []) ∵ fsplit ! $ move ! (1 ∷ []) $ fsplit ! $ move ! (1 ∷ []) $ use1 𝓛 (‵ (slot (nth_local E i) (held ss i)) ⊛ ‵ (locals E (set_cell ss i lent))) (take_out E ss i l) $ split ! $ frame ! $
      move ! (1 ∷ 0 ∷ []) $ fjoin ! $ move ! (1 ∷ 0 ∷ []) $ fjoin ! $ done !

  -- it comes back as s
  pub put_in : (E : List Local') (ss : List Cell) (i : ℕ) (s : Cell) → Within E i → ent 𝓤 (sep 𝓤 (sem 𝓛 (slot (nth_local E i) s)) (sem 𝓛 (locals E ss))) (sem 𝓛 (locals E (set_cell ss i s)))
  unfolding locals
  put_in [] ss i s l = absurd l
  put_in (e ∷ E) [] zero s l = qed 𝓛 (‵ (slot e s) ∷ ‵ (locals (e ∷ E) []) ∷ []) ∵ move ! (1 ∷ []) $ fsplit ! $ drop ! $ move ! (1 ∷ 0 ∷ []) $ fjoin ! $ done !
  put_in (e ∷ E) [] (suc i) s l = qed 𝓛 (‵ (slot (nth_local E i) s) ∷ ‵ (locals (e ∷ E) []) ∷ []) ∵ move ! (1 ∷ []) $ fsplit ! $ move ! (1 ∷ []) $ fsplit ! $ move ! (3 ∷ 1 ∷ []) $
      use2 𝓛 (‵ (locals E (set_cell [] i s))) (put_in E [] i s l) $ move ! (1 ∷ 0 ∷ []) $ fjoin ! $ move ! (1 ∷ 0 ∷ []) $ fjoin ! $ done !
  put_in (e ∷ E) (s₀ ∷ ss) zero s l = qed 𝓛 (‵ (slot e s) ∷ ‵ (locals (e ∷ E) (s₀ ∷ ss)) ∷ []) ∵ move ! (1 ∷ []) $ fsplit ! $ drop ! $ move ! (1 ∷ 0 ∷ []) $ fjoin ! $ done !
  put_in (e ∷ E) (s₀ ∷ ss) (suc i) s l = qed 𝓛 (‵ (slot (nth_local E i) s) ∷ ‵ (locals (e ∷ E) (s₀ ∷ ss)) ∷ []) ∵ move ! (1 ∷ []) $ fsplit ! $ move ! (1 ∷ []) $ fsplit ! $ move ! (3 ∷ 1 ∷ []) $
      use2 𝓛 (‵ (locals E (set_cell ss i s))) (put_in E ss i s l) $ move ! (1 ∷ 0 ∷ []) $ fjoin ! $ move ! (1 ∷ 0 ∷ []) $ fjoin ! $ done !
