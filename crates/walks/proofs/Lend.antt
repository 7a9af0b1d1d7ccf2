-- A `&mut [D]` that is lent to a callee for one call, and comes back: a rule of the judgement of Walk.antt.
--     calls_mut        a call of a function whose first parameter is a `&mut [D]` and whose others are plain. What it does to the list, and its result, are what its contract says
-- The slice is lent again for a lifetime that is made for the call (`Denote/Lend.antt`'s `lends_again` and `comes_back`, of a slice). Nobody sees that lifetime but the callee.
-- Assumes `Logic`.
use mathlib.Core.Path.{◌≡◌, refl, sym, ◌∙◌, ap, subst}
use Prim.Native.Nat.{ℕ, zero, suc}
use mathlib.Core.Option.{some}
use mathlib.Core.List.{List, [], ◌∷◌, ◌++◌}
use lib.ListN.{length}
use seplogic.Ra.Ura.{Ura}
use base.Fraction.{full_share}
use mir.Syntax.{Callee, named, place, Opd as Operand, Body, seq, call}
use mir.Val.{Val}
use base.Logic.{ent, sep, emp, ex, via, snd∗}
use base.Fml.{Lft, GName, Share, Fml, fsep, flft, fdead, feq, fobs, fauth, flent, fbor, fobor}
use prog.Wp.{Tables}
use types.Logic.{Logic, sem}
use contract.Monad.{fact}
use types.Kit.{Item, ‵, ◌⊛◌, some as someᴵ, later, ⋆, ⊢++, runs, Seq, ◌$◌, ◌∵◌, !, qed, by, move, use1, use2, use3, drop, split, join, pick, rewrite, fsplit, fjoin, feq_l, frame, await, updating, now as at_once, show, done}
use types.Tokens.{lft_new, lft_end}
use types.SemTy.{cells, Arr}
use denote.Laws.{Is}
use denote.Memory.{mem}
use denote.Ref.{MutBor, at_last}
use denote.Shadow.{pure_l, pure_i}
use denote.Signature.{type_at}
use denote.Slice.{slice_val, MutSlice, mut_slice_vals, heres, Room, finally, mut_slice_at, coded_holeys}
use denote.Lend.{Held, lends_slice, slice_back}
use denote.Index.{row, whole_out, whole_in, opens_slice, closes_slice}
use denote.Triple.Entry.{Res, alive, on_entry}
use denote.Triple.Bound.{passed}
use denote.Triple.Spec.{triple_of}
use denote.Triple.Clauses.{Clauses, Ended, Lasts, lasts, at_exit, closing}
use Rattle.walks.proofs.Holds.{Elem, Hold, val, shr, mut, gave, other, items, formula, owned_of, tokens, owned_all, hold, swap, Says, tells_hold, focus, unfocus}
use Rattle.walks.proofs.Locals.{Cell, Local', locals, upd, opds_good, opds_value}
use Rattle.walks.proofs.Slices.{type_of}
use Rattle.walks.proofs.Walk.{Run, End, ending}
use Rattle.walks.proofs.Calls.{Known, Plains, made_all, called, back, under, items-++}

-- the reference under another name
abbrev pub renamed : {X : Type 0} → MutBor X → GName → MutBor X
renamed x γ = record { ref_ptr = x.ref_ptr; ghost_name = γ; now = x.now }

-- ---- lists of holds
-- no `other`: what a list of holds does not have is `other`
abbrev pub Slot : Hold → Type 0
Slot (val D a) = Unit {0}
Slot (shr κ q D x) = Unit {0}
Slot (mut κ q D x ys) = Unit {0}
Slot (gave κ q D x zs) = Unit {0}
Slot (other P) = ⊥

pub hold_swap : (Γ : List Hold) (n : ℕ) (g h : Hold) → Slot g → hold Γ n ≡ g → hold (swap Γ n h) n ≡ h
hold_swap [] n g h there e = absurd (subst Slot (sym e) there)
hold_swap (g₀ ∷ Γ) zero g h there e = refl
hold_swap (g₀ ∷ Γ) (suc n) g h there e = hold_swap Γ n g h there e

pub swap_swap : (Γ : List Hold) (n : ℕ) (h h' : Hold) → swap (swap Γ n h) n h' ≡ swap Γ n h'
swap_swap [] n h h' = refl
swap_swap (g ∷ Γ) zero h h' = refl
swap_swap (g ∷ Γ) (suc n) h h' = ap (λ (Δ : List Hold). g ∷ Δ) (swap_swap Γ n h h')

-- ---- the loan
module _ (D : Elem) (κ κ' : Lft) (q : Share) (x : MutBor (List D.R.Denot)) (ys : List D.R.Denot) where
  -- what the holder keeps: the lender's part at κ', and its own borrow at κ, open, with both halves of its ghost variable
  abbrev pub LentAgain : GName → Fml
  LentAgain γ₁ = fsep (flent κ' (Held D.R (length ys) x.ref_ptr.0 x.ref_ptr.1 γ₁)) (fsep (fobor κ q (Held D.R (length ys) x.ref_ptr.0 x.ref_ptr.1 x.ghost_name))
      (fsep (fobs x.ghost_name ((coded_holeys D.R).code (heres D.R ys))) (fauth x.ghost_name ((coded_holeys D.R).code (heres D.R ys)))))

  module _ {M : Type 1} {𝓤 : Ura M} (𝓛 : Logic 𝓤) where
    open 𝓛 use {H, A}

    abbrev b : ℕ
    b = x.ref_ptr.0

    abbrev o : ℕ
    o = x.ref_ptr.1

    lends : ent 𝓤 (sep 𝓤 (sem 𝓛 (owned_of (mut κ q D x ys))) (A.lft κ q)) (H.⇛ (ex 𝓤 (λ (γ₁ : GName). sep 𝓤 (sem 𝓛 (owned_of (mut κ' full_share D (renamed x γ₁) ys))) (sem 𝓛 (LentAgain γ₁)))))
    lends =
        qed 𝓛 (‵ (owned_of (mut κ q D x ys)) ∷ ‵ (flft κ q) ∷ []) ∵ updating ! $ fsplit ! $ pure_l ! (mut_slice_at D.R (at_last x ys) (mut_slice_vals x)) (λ p. fsplit ! $ opens_slice ! tt D.R ys b o $
        use1 𝓛 (‵ (cells (mem D.R) ys b o)) (whole_in 𝓛 D.R ys b o) $
        use1 𝓛 (later (someᴵ (λ (γ₁ : GName). ‵ ((MutSlice (named 0) κ' D.R).own_val (at_last (renamed x γ₁) ys) (mut_slice_vals (at_last x ys))) ⊛ ‵ (flent κ' (Held D.R (length ys) b o γ₁))))) (lends_slice 𝓛 D.R (named 0) κ' ys b o p.1) $ await ! tt $ pick ! (λ γ₁. split ! $
        rewrite ! 0 (λ (us : List Val). ‵ ((MutSlice (named 0) κ' D.R).own_val (at_last (renamed x γ₁) ys) us)) (sym p.0) refl $
        at_once ! $ show ! (λ (γ' : GName). sep 𝓤 (sem 𝓛 (owned_of (mut κ' full_share D (renamed x γ') ys))) (sem 𝓛 (LentAgain γ'))) γ₁ $ frame ! $
        move ! (2 ∷ 3 ∷ []) $ fjoin ! $ move ! (2 ∷ 0 ∷ []) $ fjoin ! $ move ! (1 ∷ 0 ∷ []) $ fjoin ! $ done !))

    comes_back : (γ₁ : GName) (zs : List D.R.Denot) → (length ys ≡ length x.now) × Room D.R (length ys) → length zs ≡ length ys
        → ent 𝓤 (sep 𝓤 (A.dead κ') (sep 𝓤 (sem 𝓛 (LentAgain γ₁)) (sem 𝓛 (finally D.R γ₁ zs)))) (H.⇛ (sep 𝓤 (sem 𝓛 (owned_of (mut κ q D x zs))) (A.lft κ q)))
    comes_back γ₁ zs facts e =
        qed 𝓛 (‵ (fdead κ') ∷ ‵ (LentAgain γ₁) ∷ ‵ (finally D.R γ₁ zs) ∷ []) ∵ updating ! $ move ! (1 ∷ []) $ fsplit ! $ move ! (2 ∷ 0 ∷ 3 ∷ []) $
        use3 𝓛 (later (‵ ((Arr (mem D.R) (length ys)).own_at zs b o))) (slice_back 𝓛 D.R κ' γ₁ zs (length ys) b o) $ await ! tt $ fsplit ! $ drop ! $ use1 𝓛 (‵ (row D.R full_share zs b o)) (whole_out 𝓛 D.R zs b o) $
        move ! (1 ∷ []) $ fsplit ! $ move ! (1 ∷ []) $ fsplit ! $ move ! (3 ∷ 2 ∷ 0 ∷ 1 ∷ []) $ closes_slice ! tt D.R ys zs e b o $ at_once ! $
        fjoin ! $ pure_i ! (mut_slice_at D.R (at_last x zs) (mut_slice_vals x)) (tt, (tt, tt)) (ap (λ (m : ℕ). slice_val x.ref_ptr m ∷ []) (sym (e ∙ facts.0)), subst (Room D.R) (sym e) facts.1) $ fjoin ! $ done !

-- ---- the rule
module _ {M : Type 1} {𝓤 : Ura M} (𝓛 : Logic 𝓤) where
  -- what a plain argument's token would be: there is none
  pub only : (hs Γ : List Hold) → ent 𝓤 (⋆ 𝓛 (items (hs ++ Γ))) (⋆ 𝓛 (items Γ))
  only hs Γ = subst (λ (Δ : List (Item 𝓤)). ent 𝓤 (⋆ 𝓛 Δ) (⋆ 𝓛 (items Γ))) (sym (items-++ 𝓛 hs Γ)) (via 𝓤 _ (⊢++ 𝓛 (items hs) (items Γ)) (snd∗ 𝓤 (⋆ 𝓛 (items hs)) (⋆ 𝓛 (items Γ))))

module _ {M : Type 1} {𝓤 : Ura M} {𝓛 : Logic 𝓤} {K : Type 0} {𝓣 : Tables 𝓤 𝓛.H} {E : List Local'} {ss : List Cell} {Γ : List Hold} {e : End 𝓤} {f : Callee} {xs : List Operand} {d : ℕ} {rest : Body} where
  -- hold n is the slice, at the list ys; hs are the other arguments. κ' and γ₁ are the lifetime and the name of the loan. The result is R-typed, and Φ says what the contract says of it and of the last list
  pub calls_mut : K → (n : ℕ) (D : Elem) {κ : Lft} {q : Share} {x : MutBor (List D.R.Denot)} {ys : List D.R.Denot} → hold Γ n ≡ mut κ q D x ys
      → (hs : List Hold) (T : Ended) (c : Clauses 𝓤 T) (known : Known 𝓛 𝓣 f T c) (y : Lft → GName → (triple_of 𝓛 T.signature (closing 𝓛 T c)).Ghost) (R : Elem) (Φ : R.R.Denot → List D.R.Denot → Type 0)
      (to : (κ' : Lft) (γ₁ : GName) → Res T.signature (y κ' γ₁).0.0 → R.R.Denot) (last : (κ' : Lft) (γ₁ : GName) → Lasts T (y κ' γ₁).0.0 (y κ' γ₁).0.3 → List D.R.Denot)
      → ((κ' : Lft) (γ₁ : GName)
      → (on_entry 𝓛 T.signature (y κ' γ₁).0.0 (y κ' γ₁).0.1 (y κ' γ₁).0.3 (y κ' γ₁).0.4 ≡ sep 𝓤 (tokens 𝓛 (mut κ' full_share D (renamed x γ₁) ys ∷ hs)) (sem 𝓛 (owned_all (mut κ' full_share D (renamed x γ₁) ys ∷ hs))))
      × (alive 𝓛 T.signature (y κ' γ₁).0.0 (y κ' γ₁).0.1 ≡ tokens 𝓛 (mut κ' full_share D (renamed x γ₁) ys ∷ hs))
      × ((r : Res T.signature (y κ' γ₁).0.0) (v : Val) → (type_at T.signature.result (y κ' γ₁).0.0).own_val r (v ∷ []) ≡ R.R.own_val (to κ' γ₁ r) (v ∷ []))
      × ((r : Res T.signature (y κ' γ₁).0.0) (ws : Lasts T (y κ' γ₁).0.0 (y κ' γ₁).0.3) → ent 𝓤 ((c (y κ' γ₁).0.0 (y κ' γ₁).0.3).ensures (y κ' γ₁).1 r (at_exit T (y κ' γ₁).0.0 (y κ' γ₁).0.3 ws)) (fact 𝓤 (Φ (to κ' γ₁ r) (last κ' γ₁ ws))))
      × ((ws : Lasts T (y κ' γ₁).0.0 (y κ' γ₁).0.3) → (Z : Fml) × (lasts T (y κ' γ₁).0.0 (y κ' γ₁).0.3 ws ≡ fsep (fsep (fsep (finally D.R γ₁ (last κ' γ₁ ws)) (feq ℕ (length (last κ' γ₁ ws)) (length ys))) (fbor κ' (Held D.R (length ys) x.ref_ptr.0 x.ref_ptr.1 γ₁))) Z))
      × ent 𝓤 (emp 𝓤) ((c (y κ' γ₁).0.0 (y κ' γ₁).0.3).requires (y κ' γ₁).1) × (opds_value E ss xs ≡ passed 𝓛 T.signature (y κ' γ₁).0))
      → Plains hs → opds_good E ss xs → type_of E ss d ≡ some R.τ
      → ((r : R.R.Denot) (zs : List D.R.Denot) → Φ r zs → length zs ≡ length ys → Is R.R r (R.val r ∷ []) → Run K 𝓛 𝓣 E (upd ss d (R.val r)) (swap Γ n (mut κ q D x zs)) rest e)
      → Run K 𝓛 𝓣 E ss Γ (seq (call f xs (place d [])) rest) e
  calls_mut t n D {κ} {q} {x} {ys} is hs T c known y R Φ to last contract plains gx ed k = record {
    prf =
        let L : Item 𝓤 = ‵ (locals E ss) in
        tells_hold t n Γ L (λ says.
        let facts : (length ys ≡ length x.now) × Room D.R (length ys) = subst Says is says in
        focus t n Γ L (rewrite t 0 (λ (h : Hold). ‵ (formula h)) is refl $ fsplit t $ lft_new t tt (λ α. move t (1 ∷ 2 ∷ []) $
        use2 𝓛 (later (someᴵ (λ (γ₁ : GName). ‵ (owned_of (mut (α ∷ []) full_share D (renamed x γ₁) ys)) ⊛ ‵ (LentAgain D κ (α ∷ []) q x ys γ₁)))) (lends D κ (α ∷ []) q x ys 𝓛) $ await t tt $ pick t (λ γ₁. split t $
        let κ' : Lft = α ∷ [] in
        let m : Hold = mut κ' full_share D (renamed x γ₁) ys in
        let Γ' : List Hold = swap Γ n (other (LentAgain D κ κ' q x ys γ₁)) in
        -- [the slice as it is lent; what the holder keeps; the token of the loan; the locals; ..]
        move t (0 ∷ 2 ∷ []) $ fjoin t $ move t (0 ∷ 2 ∷ []) $ join t $ move t (1 ∷ 0 ∷ []) $ unfocus t n Γ (‵ (formula m) ⊛ L) (other (LentAgain D κ κ' q x ys γ₁)) (split t $ move t (1 ∷ 0 ∷ []) $
        by t (via 𝓤 _ (under 𝓛 L (m ∷ Γ') (m ∷ (hs ++ Γ')) (under 𝓛 (‵ (formula m)) Γ' (hs ++ Γ') (made_all 𝓛 hs Γ' plains)))
        (called 𝓛 K t 𝓣 E ss (ending 𝓛 𝓣 E e) f xs d rest (m ∷ hs) Γ' T c known (y κ' γ₁) R (to κ' γ₁) (λ r ws. Φ (to κ' γ₁ r) (last κ' γ₁ ws)) gx (contract κ' γ₁).6 (contract κ' γ₁).0 (contract κ' γ₁).1 (contract κ' γ₁).5 (contract κ' γ₁).2 (contract κ' γ₁).3 ed
        (λ r ws said rs.
        let zs : List D.R.Denot = last κ' γ₁ ws in
        let P : Fml = lasts T (y κ' γ₁).0.0 (y κ' γ₁).0.3 ws in
        let L' : Item 𝓤 = ‵ (locals E (upd ss d (R.val (to κ' γ₁ r)))) in
        by t (via 𝓤 _ (under 𝓛 L' (other P ∷ other (flft κ' full_share) ∷ (back hs ++ Γ')) (other P ∷ other (flft κ' full_share) ∷ Γ')
        (under 𝓛 (‵ P) (other (flft κ' full_share) ∷ (back hs ++ Γ')) (other (flft κ' full_share) ∷ Γ') (under 𝓛 (‵ (flft κ' full_share)) (back hs ++ Γ') Γ' (only 𝓛 (back hs) Γ'))))
        (let s : Seq K 𝓛 (L' ∷ ‵ P ∷ ‵ (flft κ' full_share) ∷ items Γ') (runs 𝓣.C 𝓣.Λ E rest (ending 𝓛 𝓣 E e)) =
        move t (1 ∷ []) $ rewrite t 0 (λ (F : Fml). ‵ F) ((contract κ' γ₁).4 ws).1 refl $ fsplit t $ fsplit t $ fsplit t $ move t (2 ∷ []) $ drop t $ move t (2 ∷ []) $ drop t $ move t (1 ∷ []) $ feq_l t (λ same.
        move t (0 ∷ 2 ∷ []) $ join t $ join t $ focus t n Γ' ((‵ (finally D.R γ₁ zs) ⊛ ‵ (flft κ' full_share)) ⊛ L') (rewrite t 0 (λ (h : Hold). ‵ (formula h)) (hold_swap Γ n (mut κ q D x ys) (other (LentAgain D κ κ' q x ys γ₁)) tt is) refl $
        move t (1 ∷ []) $ split t $ split t $ move t (1 ∷ []) $ lft_end t tt $ move t (0 ∷ 3 ∷ 1 ∷ []) $
        use3 𝓛 (later (‵ (owned_of (mut κ q D x zs)) ⊛ ‵ (flft κ q))) (comes_back D κ κ' q x ys 𝓛 γ₁ zs facts same) $ await t tt $ split t $ fjoin t $ unfocus t n Γ' L' (mut κ q D x zs)
        (subst (λ (Δ : List Hold). Seq K 𝓛 (L' ∷ items Δ) (runs 𝓣.C 𝓣.Λ E rest (ending 𝓛 𝓣 E e))) (sym (swap_swap Γ n (other (LentAgain D κ κ' q x ys γ₁)) (mut κ q D x zs))) (k (to κ' γ₁ r) zs said same rs).prf))) in s.prf)))).prf))))));
  }
