-- A part of a local array, `&mut a[..k]`, that is lent to a callee for one call, beside other references that are handed over for good: a rule of the judgement of Walk.antt.
-- Assumes `Logic`.
use mathlib.Core.Path.{◌≡◌, refl, sym, ◌∙◌, ap, subst}
use Prim.Native.Nat.{ℕ, zero, suc, ◌+◌, ◌-◌, ◌≤◌}
use native.Mathlib.Omega.{arith}
use mathlib.Core.Option.{some}
use mathlib.Core.List.{List, [], ◌∷◌, ◌++◌}
use lib.ListN.{length, replicate, length-append, length-replicate, replicate-append-replicate}
use seplogic.Ra.Ura.{Ura}
use base.Fraction.{full_share}
use mir.Syntax.{Callee, Ty, ty_array, named, place, Opd as Operand, Body, seq, call}
use mir.Val.{Val, WT, has_ty}
use base.Logic.{ent, sep, emp, ex, via, never_e}
use base.Fml.{Lft, GName, Fml, fsep, fat, froom, flft, fdead, feq, flent, fbor}
use prog.Wp.{Tables}
use types.Logic.{Logic, sem}
use types.Kit.{Item, ‵, raw, ◌⊛◌, given, some as someᴵ, later, pop, Goal, runs, Seq, ◌$◌, ◌∵◌, !, qed, by, move, keep, use1, use2, use3, drop, split, pick, rewrite, fsplit, fjoin, fpick, fpack, feq_l, feq_i, frame, learn, await, updating, now as at_once, show, done}
use types.Tokens.{lft_new, lft_end}
use types.SemTy.{cells, Arr}
use contract.Monad.{fact}
use denote.Signature.{type_at}
use denote.Triple.Entry.{Res, alive, on_entry}
use denote.Triple.Bound.{passed}
use denote.Triple.Spec.{triple_of}
use denote.Triple.Clauses.{Clauses, Ended, Lasts, lasts, at_exit, closing}
use borrow.Table.Elements.{at, cut_app, join_app}
use denote.Array.{Array, array_val, each, Array-repeat, Array-Typed}
use denote.Shadow.{shadow}
use lib.Dec.{T}
use denote.ArrayMemory.{Array-apart, Array-whole, Single}
use denote.Laws.{Is}
use denote.Memory.{mem, part_at, part_of, cell_at, lone}
use denote.Ref.{MutBor}
use denote.Slice.{Room, finally}
use denote.Lend.{Held, lends_slice, slice_back}
use denote.Index.{row, whole_out, whole_in}
use denote.Steps.{owned}
use Rattle.walks.proofs.Holds.{Elem, Hold, mut, other, owned_of, formula, items, tokens, owned_all}
use Rattle.walks.proofs.Calls.{Known, back, called, under}
use Rattle.walks.proofs.Hand.{Handed, Ends, said_of, Sames, after, kept, Its, regain, cuts, joins, beneath, inserts, doubles}
use Rattle.walks.proofs.Locals.{Cell, free, has, lent, Local', slot, locals, nth_local, held, upd, set_cell, Within, take_out, put_in, opds_good, opds_value}
use Rattle.walks.proofs.Slices.{type_of}
use Rattle.walks.proofs.Walk.{Run, End, ending}

module _ {M : Type 1} {𝓤 : Ura M} (𝓛 : Logic 𝓤) (D : Elem) (b m : ℕ) where
  open 𝓛 use {H, A}

  single : Single D.R.mir
  single = subst Single (sym D.one) tt

  lone_is : lone D.R.mir ≡ D.τ
  lone_is = ap lone D.one

  -- an array of m times a, in memory, is its elements
  apart : (a : D.R.Denot) → Is D.R a (D.val a ∷ []) → ent 𝓤 (H.at full_share (ty_array D.τ m) b zero (array_val (replicate m (D.val a)))) (sem 𝓛 (cells (mem D.R) (replicate m a) b zero))
  unfolding part_of
  apart a is =
      qed 𝓛 (‵ (fat full_share (ty_array D.τ m) b zero (array_val (replicate m (D.val a)))) ∷ []) ∵
      rewrite ! 0 (λ (τ : Ty). ‵ (fat full_share (ty_array τ m) b zero (array_val (replicate m (D.val a))))) (sym lone_is) refl $
      use1 𝓛 (‵ (cell_at full_share (Array D.R m).mir (array_val (replicate m (D.val a)) ∷ []) b zero)) (𝓛.laws.at_raw full_share (ty_array (lone D.R.mir) m) b zero (array_val (replicate m (D.val a)))) $
      owned ! D.R (Is D.R) (D.made 𝓛) a (D.val a ∷ []) is $ use1 𝓛 (‵ ((Array D.R m).own_val (replicate m a) (array_val (replicate m (D.val a)) ∷ []))) (Array-repeat 𝓛 D.R (D.copies 𝓛) m a (D.val a)) $
      move ! (1 ∷ 0 ∷ []) $ fjoin ! $ fpack ! (List Val) (λ vs. fsep (cell_at full_share (Array D.R m).mir vs b zero) ((Array D.R m).own_val (replicate m a) vs)) (array_val (replicate m (D.val a)) ∷ []) $
      use1 𝓛 (‵ (fsep (feq ℕ (length (replicate m a)) m) (row D.R full_share (replicate m a) b zero))) (Array-apart 𝓛 D.R full_share single m (replicate m a) b zero) $ fsplit ! $ drop ! $
      by ! (whole_in 𝓛 D.R (replicate m a) b zero)

  cell_room : (τ : Ty) (vs : List Val) → ent 𝓤 (sem 𝓛 (cell_at full_share (τ ∷ []) vs b zero)) (H.room τ b zero)
  cell_room τ [] = never_e 𝓤 _
  cell_room τ (v ∷ []) = via 𝓤 (H.at full_share τ b zero v) (𝓛.laws.raw_at full_share τ b zero v) (𝓛.laws.at_room τ b zero v)
  cell_room τ (v ∷ u ∷ vs) = never_e 𝓤 _

  -- its elements, whatever they are, are room for it
  whole : (xs : List D.R.Denot) → length xs ≡ m → ent 𝓤 (sem 𝓛 (cells (mem D.R) xs b zero)) (H.room (ty_array D.τ m) b zero)
  unfolding part_of
  whole xs l =
      qed 𝓛 (‵ (cells (mem D.R) xs b zero) ∷ []) ∵ use1 𝓛 (‵ (row D.R full_share xs b zero)) (whole_out 𝓛 D.R xs b zero) $ feq_i ! ℕ (length xs) m l $ fjoin ! $
      use1 𝓛 (‵ (part_at (Array D.R m) full_share xs b zero)) (Array-whole 𝓛 D.R full_share m xs b zero) $ fpick ! (λ vs. fsplit ! $ keep ! (0 ∷ []) $ by ! (subst (λ (τ : Ty). ent 𝓤 (sem 𝓛 (cell_at full_share (ty_array (lone D.R.mir) m ∷ []) vs b zero)) (H.room (ty_array τ m) b zero)) lone_is (cell_room (ty_array (lone D.R.mir) m) vs)))

  in_two : (k : ℕ) (a : D.R.Denot) → k ≤ m → replicate m a ≡ replicate k a ++ replicate (m - k) a
  in_two k a le =
      let e : k + (m - k) ≡ m = omega arith in
      sym (replicate-append-replicate k (m - k) a ∙ ap (λ (j : ℕ). replicate j a) e)

  module _ (κ' : Lft) (k : ℕ) (a : D.R.Denot) where
    -- the part as a reference under the name γ₁, and what the lender keeps: its own part of the loan, and the other elements
    abbrev pub part : GName → MutBor (List D.R.Denot)
    part γ₁ = record { ref_ptr = (b, zero); ghost_name = γ₁; now = replicate k a }

    abbrev pub Keeps : GName → Fml
    Keeps γ₁ = fsep (flent κ' (Held D.R (length (replicate k a)) b zero γ₁)) (cells (mem D.R) (replicate (m - k) a) b (at zero (mem D.R).size (length (replicate k a))))

    part_lends : k ≤ m → Room D.R (length (replicate k a)) → Is D.R a (D.val a ∷ [])
        → ent 𝓤 (H.at full_share (ty_array D.τ m) b zero (array_val (replicate m (D.val a)))) (H.⇛ (ex 𝓤 (λ (γ₁ : GName). sep 𝓤 (sem 𝓛 (owned_of (mut κ' full_share D (part γ₁) (replicate k a)))) (sem 𝓛 (Keeps γ₁)))))
    part_lends le room is =
        qed 𝓛 (‵ (fat full_share (ty_array D.τ m) b zero (array_val (replicate m (D.val a)))) ∷ []) ∵ updating ! $ use1 𝓛 (‵ (cells (mem D.R) (replicate m a) b zero)) (apart a is) $
        rewrite ! 0 (λ (xs : List D.R.Denot). ‵ (cells (mem D.R) xs b zero)) (in_two k a le) refl $
        use1 𝓛 (‵ (cells (mem D.R) (replicate k a) b zero) ⊛ ‵ (cells (mem D.R) (replicate (m - k) a) b (at zero (mem D.R).size (length (replicate k a))))) (cut_app 𝓛 (mem D.R) (replicate k a) (replicate (m - k) a) b zero) $ split ! $
        use1 𝓛 (later (someᴵ (λ (γ₁ : GName). ‵ (owned_of (mut κ' full_share D (part γ₁) (replicate k a))) ⊛ ‵ (flent κ' (Held D.R (length (replicate k a)) b zero γ₁))))) (lends_slice 𝓛 D.R (named 0) κ' (replicate k a) b zero room) $ await ! tt $ pick ! (λ γ₁. split ! $
        at_once ! $ show ! (λ (γ' : GName). sep 𝓤 (sem 𝓛 (owned_of (mut κ' full_share D (part γ') (replicate k a)))) (sem 𝓛 (Keeps γ'))) γ₁ $ frame ! $ fjoin ! $ done !)

    part_back : (γ₁ : GName) (zs : List D.R.Denot) → k ≤ m → length zs ≡ length (replicate k a)
        → ent 𝓤 (sep 𝓤 (A.dead κ') (sep 𝓤 (sem 𝓛 (Keeps γ₁)) (sem 𝓛 (finally D.R γ₁ zs)))) (H.⇛ (H.room (ty_array D.τ m) b zero))
    part_back γ₁ zs le same =
        qed 𝓛 (‵ (fdead κ') ∷ ‵ (Keeps γ₁) ∷ ‵ (finally D.R γ₁ zs) ∷ []) ∵ updating ! $ move ! (1 ∷ []) $ fsplit ! $ move ! (2 ∷ 0 ∷ 3 ∷ []) $
        use3 𝓛 (later (‵ ((Arr (mem D.R) (length (replicate k a))).own_at zs b zero))) (slice_back 𝓛 D.R κ' γ₁ zs (length (replicate k a)) b zero) $ await ! tt $ fsplit ! $ drop ! $
        rewrite ! 1 (λ (j : ℕ). ‵ (cells (mem D.R) (replicate (m - k) a) b (at zero (mem D.R).size j))) (sym same) refl $
        use2 𝓛 (‵ (cells (mem D.R) (zs ++ replicate (m - k) a) b zero)) (join_app 𝓛 (mem D.R) zs (replicate (m - k) a) b zero) $ at_once ! $
        by ! (whole (zs ++ replicate (m - k) a) (length-append zs (replicate (m - k) a) ∙ omega (arith, same, length-replicate k a, length-replicate (m - k) a, le)))

-- `[a; m]` is a value of its type
each_is : (D : Elem) (m : ℕ) (a : D.R.Denot) → Is D.R a (D.val a ∷ []) → shadow (each D.R.Denot D.R.own_val (replicate m a) (replicate m (D.val a)))
each_is D zero a is = tt
each_is D (suc m) a is = (is, each_is D m a is)

pub array_fits : {M : Type 1} {𝓤 : Ura M} (𝓛 : Logic 𝓤) → (D : Elem) (m : ℕ) (a : D.R.Denot) → Is D.R a (D.val a ∷ []) → T (has_ty (ty_array D.τ m) (array_val (replicate m (D.val a)))) × WT (array_val (replicate m (D.val a)))
array_fits 𝓛 D m a is = subst (λ (τ : Ty). T (has_ty (ty_array τ m) (array_val (replicate m (D.val a)))) × WT (array_val (replicate m (D.val a)))) (ap lone D.one)
    (Array-Typed D.R (D.lawful 𝓛).typed m (replicate m a) (array_val (replicate m (D.val a)) ∷ []) (replicate m (D.val a), ((refl, length-replicate m a), each_is D m a is))).0

-- ---- the rule
module _ {M : Type 1} {𝓤 : Ura M} {𝓛 : Logic 𝓤} {K : Type 0} {𝓣 : Tables 𝓤 𝓛.H} {E : List Local'} {ss : List Cell} {Γ : List Hold} {e : End 𝓤} {f : Callee} {xs : List Operand} {d : ℕ} {rest : Body} where
  -- `_d = f(&mut _i[..k], ..)`: local i is an array of m times a, and hs are the other arguments, which are handed over for good
  open 𝓛 use {H}

  pub calls_part : K → (i k m : ℕ) (D : Elem) (a : D.R.Denot) (hs Γ₀ : List Hold) (T : Ended) (c : Clauses 𝓤 T) (known : Known 𝓛 𝓣 f T c) (y : Lft → GName → (triple_of 𝓛 T.signature (closing 𝓛 T c)).Ghost)
      (R : Elem) (Φ : R.R.Denot → List D.R.Denot → Ends hs → Type 0) (to : (κ' : Lft) (γ₁ : GName) → Res T.signature (y κ' γ₁).0.0 → R.R.Denot)
      (last : (κ' : Lft) (γ₁ : GName) → Lasts T (y κ' γ₁).0.0 (y κ' γ₁).0.3 → List D.R.Denot × Ends hs)
      → (Γ ≡ hs ++ Γ₀) × Handed hs × Within E i × (held ss i ≡ has (array_val (replicate m (D.val a)))) × ((nth_local E i).0 ≡ ty_array D.τ m)
      → ((κ' : Lft) (γ₁ : GName)
      → (on_entry 𝓛 T.signature (y κ' γ₁).0.0 (y κ' γ₁).0.1 (y κ' γ₁).0.3 (y κ' γ₁).0.4
      ≡ sep 𝓤 (tokens 𝓛 (mut κ' full_share D (part 𝓛 D (nth_local E i).1 m κ' k a γ₁) (replicate k a) ∷ hs)) (sem 𝓛 (owned_all (mut κ' full_share D (part 𝓛 D (nth_local E i).1 m κ' k a γ₁) (replicate k a) ∷ hs))))
      × (alive 𝓛 T.signature (y κ' γ₁).0.0 (y κ' γ₁).0.1 ≡ tokens 𝓛 (mut κ' full_share D (part 𝓛 D (nth_local E i).1 m κ' k a γ₁) (replicate k a) ∷ hs))
      × ((r : Res T.signature (y κ' γ₁).0.0) (v : Val) → (type_at T.signature.result (y κ' γ₁).0.0).own_val r (v ∷ []) ≡ R.R.own_val (to κ' γ₁ r) (v ∷ []))
      × ((r : Res T.signature (y κ' γ₁).0.0) (ws : Lasts T (y κ' γ₁).0.0 (y κ' γ₁).0.3) → ent 𝓤 ((c (y κ' γ₁).0.0 (y κ' γ₁).0.3).ensures (y κ' γ₁).1 r (at_exit T (y κ' γ₁).0.0 (y κ' γ₁).0.3 ws)) (fact 𝓤 (Φ (to κ' γ₁ r) (last κ' γ₁ ws).0 (last κ' γ₁ ws).1)))
      × ((ws : Lasts T (y κ' γ₁).0.0 (y κ' γ₁).0.3) → lasts T (y κ' γ₁).0.0 (y κ' γ₁).0.3 ws ≡ fsep (fsep (fsep (finally D.R γ₁ (last κ' γ₁ ws).0) (feq ℕ (length (last κ' γ₁ ws).0) (length (replicate k a)))) (fbor κ' (Held D.R (length (replicate k a)) (nth_local E i).1 zero γ₁))) (said_of hs (last κ' γ₁ ws).1))
      × ent 𝓤 (emp 𝓤) ((c (y κ' γ₁).0.0 (y κ' γ₁).0.3).requires (y κ' γ₁).1) × (opds_value E (set_cell ss i lent) xs ≡ passed 𝓛 T.signature (y κ' γ₁).0))
      → k ≤ m → Room D.R (length (replicate k a)) → Is D.R a (D.val a ∷ []) → opds_good E (set_cell ss i lent) xs × (type_of E (set_cell ss i lent) d ≡ some R.τ)
      → ((r : R.R.Denot) (zs : List D.R.Denot) (ws : Ends hs) → Φ r zs ws → Sames hs ws → Is R.R r (R.val r ∷ []) → Run K 𝓛 𝓣 E (set_cell (upd (set_cell ss i lent) d (R.val r)) i free) (after hs ws ++ Γ₀) rest e)
      → Run K 𝓛 𝓣 E ss Γ (seq (call f xs (place d [])) rest) e
  calls_part t i k m D a hs Γ₀ T c known y R Φ to last this contract le room is mir kont = record {
    prf =
        let b : ℕ = (nth_local E i).1 in
        let ss₁ : List Cell = set_cell ss i lent in
        let L : Item 𝓤 = ‵ (locals E ss) in
        let G : Goal 𝓤 H = runs 𝓣.C 𝓣.Λ E (seq (call f xs (place d [])) rest) (ending 𝓛 𝓣 E e) in
        let X : List Hold = other (kept hs) ∷ Γ₀ in
        subst (λ (Δ : List Hold). Seq K 𝓛 (L ∷ items Δ) G) (sym this.0) (by t (via 𝓤 _ (under 𝓛 L (hs ++ Γ₀) (hs ++ X) (doubles 𝓛 hs Γ₀ this.1))
        (let s : Seq K 𝓛 (L ∷ items (hs ++ X)) G =
        lft_new t tt (λ α. move t (1 ∷ []) $ use1 𝓛 (‵ (slot (nth_local E i) (held ss i)) ⊛ ‵ (locals E ss₁)) (take_out 𝓛 E ss i this.2) $ split t $
        rewrite t 0 (λ (u : Cell). ‵ (slot (nth_local E i) u)) this.3 refl $ rewrite t 0 (λ (τ : Ty). ‵ (fat full_share τ b zero (array_val (replicate m (D.val a))))) this.4 refl $
        use1 𝓛 (later (someᴵ (λ (γ₁ : GName). ‵ (owned_of (mut (α ∷ []) full_share D (part 𝓛 D b m (α ∷ []) k a γ₁) (replicate k a))) ⊛ ‵ (Keeps 𝓛 D b m (α ∷ []) k a γ₁)))) (part_lends 𝓛 D b m (α ∷ []) k a le room is) $ await t tt $ pick t (λ γ₁. split t $
        let κ' : Lft = α ∷ [] in
        let h₁ : Hold = mut κ' full_share D (part 𝓛 D b m κ' k a γ₁) (replicate k a) in
        let P : Fml = Keeps 𝓛 D b m κ' k a γ₁ in
        -- [the part; what the lender keeps; the locals; the token; ..]
        move t (0 ∷ 3 ∷ []) $ fjoin t $ move t (2 ∷ 0 ∷ 1 ∷ []) $
        by t (via 𝓤 _ (under 𝓛 (‵ (locals E ss₁)) (h₁ ∷ other P ∷ (hs ++ X)) (h₁ ∷ (hs ++ (other P ∷ X))) (under 𝓛 (‵ (formula h₁)) (other P ∷ (hs ++ X)) (hs ++ (other P ∷ X)) (inserts 𝓛 P hs X)))
        (called 𝓛 K t 𝓣 E ss₁ (ending 𝓛 𝓣 E e) f xs d rest (h₁ ∷ hs) (other P ∷ X) T c known (y κ' γ₁) R (to κ' γ₁) (λ r ws. Φ (to κ' γ₁ r) (last κ' γ₁ ws).0 (last κ' γ₁ ws).1) mir.0 (contract κ' γ₁).6 (contract κ' γ₁).0 (contract κ' γ₁).1 (contract κ' γ₁).5 (contract κ' γ₁).2 (contract κ' γ₁).3 mir.1
        (λ r ws said rs.
        let zs : List D.R.Denot = (last κ' γ₁ ws).0 in
        let us : Ends hs = (last κ' γ₁ ws).1 in
        let v : Val = R.val (to κ' γ₁ r) in
        let L₂ : Item 𝓤 = ‵ (locals E (upd ss₁ d v)) in
        let L₃ : Item 𝓤 = ‵ (locals E (set_cell (upd ss₁ d v) i free)) in
        let Q : Fml = lasts T (y κ' γ₁).0.0 (y κ' γ₁).0.3 ws in
        let G' : Goal 𝓤 H = runs 𝓣.C 𝓣.Λ E rest (ending 𝓛 𝓣 E e) in
        by t (via 𝓤 _ (beneath 𝓛 L₂ (‵ Q ∷ ‵ (flft κ' full_share) ∷ items (back hs ++ (other P ∷ X))) (‵ Q ∷ ‵ (flft κ' full_share) ∷ raw (Its 𝓛 (back hs)) ∷ items (other P ∷ X))
        (beneath 𝓛 (‵ Q) (‵ (flft κ' full_share) ∷ items (back hs ++ (other P ∷ X))) (‵ (flft κ' full_share) ∷ raw (Its 𝓛 (back hs)) ∷ items (other P ∷ X))
        (beneath 𝓛 (‵ (flft κ' full_share)) (items (back hs ++ (other P ∷ X))) (raw (Its 𝓛 (back hs)) ∷ items (other P ∷ X)) (cuts 𝓛 (back hs) (other P ∷ X)))))
        (let s₂ : Seq K 𝓛 (L₂ ∷ ‵ Q ∷ ‵ (flft κ' full_share) ∷ raw (Its 𝓛 (back hs)) ∷ ‵ P ∷ ‵ (kept hs) ∷ items Γ₀) G' =
        move t (1 ∷ []) $ rewrite t 0 (λ (F : Fml). ‵ F) ((contract κ' γ₁).4 ws) refl $ fsplit t $ fsplit t $ fsplit t $ move t (2 ∷ []) $ drop t $ move t (1 ∷ []) $ feq_l t (λ len.
        -- [the last list of the part; what is said of the others; the locals; the token; the tokens; what the lender keeps; the copies; ..]
        move t (3 ∷ []) $ lft_end t tt $ move t (0 ∷ 5 ∷ 1 ∷ []) $ use3 𝓛 (later (‵ (froom (ty_array D.τ m) b zero))) (part_back 𝓛 D b m κ' k a γ₁ zs le len) $ await t tt $
        rewrite t 0 (λ (τ : Ty). ‵ (froom τ b zero)) (sym this.4) refl $ move t (0 ∷ 2 ∷ []) $ use2 𝓛 L₃ (put_in 𝓛 E (upd ss₁ d v) i free this.2) $ move t (2 ∷ 1 ∷ 3 ∷ []) $
        use3 𝓛 (given (Sames hs us) (raw (Its 𝓛 (after hs us)))) (regain 𝓛 hs us this.1) $ learn t (λ sames. move t (1 ∷ 0 ∷ []) $
        by t (via 𝓤 _ (beneath 𝓛 L₃ (raw (Its 𝓛 (after hs us)) ∷ items Γ₀) (items (after hs us ++ Γ₀)) (via 𝓤 _ (pop 𝓛 (raw (Its 𝓛 (after hs us))) (items Γ₀)) (joins 𝓛 (after hs us) Γ₀)))
        (kont (to κ' γ₁ r) zs us said sames rs).prf.prf))) in s₂.prf)))).prf))) in s.prf)));
  }
