-- A slice that is shown to a callee as a `&[D]` for one call, and is as it was after it: rules of the judgement of Walk.antt.
--     calls_seeing     a call of a function whose first parameter is a `&[D]` and whose others are plain, where hold n is a `&mut [D]`. Its contract says what the result is: the result is stored
--     calls_copying    the same where hold n is a `&[D]`
-- Of a `&mut [D]` the elements are shared out for a lifetime that is made for the call. Nobody sees that lifetime but the callee.
-- Assumes `Logic`.
use mathlib.Core.Path.{◌≡◌, refl, sym, ◌∙◌, ap, subst}
use Prim.Native.Nat.{ℕ, ◌+◌}
use mathlib.Core.Option.{some}
use mathlib.Core.List.{List, [], ◌∷◌, ◌++◌}
use lib.ListN.{length}
use seplogic.Ra.Ura.{Ura}
use base.Fraction.{full_share}
use mir.Syntax.{Callee, named, place, Opd as Operand, Body, seq, call}
use mir.Val.{Val}
use base.Logic.{ent, sep, emp, via}
use base.Fml.{Lft, Share, Fml, fsep, flft, fdead, fobs, fauth, fhide, flent, fobor}
use prog.Wp.{Tables}
use types.Logic.{Logic, sem}
use contract.Monad.{fact}
use types.Kit.{Item, ‵, ◌⊛◌, later, runs, Seq, ◌$◌, ◌∵◌, !, qed, by, move, use1, use2, drop, split, join, rewrite, fsplit, fjoin, frame, await, updating, now as at_once, done}
use types.Tokens.{lft_new, lft_end, lent_back}
use denote.Laws.{Is}
use denote.Memory.{mem, part_at, shared_of}
use denote.Ref.{Bor, MutBor, at_last}
use denote.Shadow.{pure_l, pure_i}
use denote.Signature.{type_at}
use denote.Slice.{slice_val, shr_slice_vals, mut_slice_vals, heres, Room, shr_slice_at, mut_slice_at, coded_holeys, elements_shared, shr_slice_copy}
use denote.Lend.{Held}
use denote.Lends.{Lent, Lent-nothing, Lent-both}
use denote.Index.{row, opens_slice, closes_slice}
use denote.Triple.Entry.{Res, alive, on_entry}
use denote.Triple.Bound.{passed}
use denote.Triple.Spec.{triple_of}
use denote.Triple.Clauses.{Clauses, Ended, Lasts, lasts, at_exit, closing}
use Rattle.walks.proofs.Holds.{Elem, Hold, shr, mut, other, items, formula, owned_of, tokens, owned_all, hold, swap, swap_same, Says, tells_hold, focus, unfocus}
use Rattle.walks.proofs.Locals.{Cell, Local', locals, upd, opds_good, opds_value}
use Rattle.walks.proofs.Slices.{type_of}
use Rattle.walks.proofs.Walk.{Run, End, ending}
use Rattle.walks.proofs.Calls.{Known, Plains, made_all, called, back, under}
use Rattle.walks.proofs.Lend.{hold_swap, swap_swap, only}

-- the slice as it is shown: where it lies, and its list now
abbrev pub shown : {X : Type 0} → MutBor (List X) → List X → Bor (List X)
shown x ys = record { ref_ptr = x.ref_ptr; now = ys }

-- ---- the loan
-- elements side by side are lent as a `&[D]` holds them, with no token: each by itself
rows_lent : {M : Type 1} {𝓤 : Ura M} (𝓛 : Logic 𝓤) (D : Elem) (ys : List D.R.Denot) (b o : ℕ) → Lent 𝓛 (row D.R full_share ys b o) (elements_shared D.R ys b o)
rows_lent 𝓛 D [] b o = Lent-nothing 𝓛
rows_lent 𝓛 D (y ∷ ys) b o = Lent-both 𝓛 (part_at D.R full_share y b o) (row D.R full_share ys b (o + (mem D.R).size)) (shared_of D.R y b o) (elements_shared D.R ys b (o + (mem D.R).size)) ((D.copied 𝓛).lends full_share y b o) (rows_lent 𝓛 D ys b (o + (mem D.R).size))

module _ (D : Elem) (κ κ' : Lft) (q : Share) (x : MutBor (List D.R.Denot)) (ys : List D.R.Denot) where
  abbrev b : ℕ
  b = x.ref_ptr.0

  abbrev o : ℕ
  o = x.ref_ptr.1

  -- all elements, shared out whole
  abbrev Elements : Fml
  Elements = row D.R full_share ys b o

  -- what the holder keeps: the lender's part at κ', and its own borrow at κ, open, with both halves of its ghost variable
  abbrev pub Shown : Fml
  Shown = fsep (flent κ' Elements) (fsep (fobor κ q (Held D.R (length ys) b o x.ghost_name)) (fsep (fobs x.ghost_name ((coded_holeys D.R).code (heres D.R ys))) (fauth x.ghost_name ((coded_holeys D.R).code (heres D.R ys)))))

  module _ {M : Type 1} {𝓤 : Ura M} (𝓛 : Logic 𝓤) where
    open 𝓛 use {H, A}

    shows : ent 𝓤 (sep 𝓤 (sem 𝓛 (owned_of (mut κ q D x ys))) (A.lft κ q)) (H.⇛ (sep 𝓤 (sem 𝓛 (owned_of (shr κ' full_share D (shown x ys)))) (sem 𝓛 Shown)))
    shows =
        qed 𝓛 (‵ (owned_of (mut κ q D x ys)) ∷ ‵ (flft κ q) ∷ []) ∵ updating ! $ fsplit ! $ pure_l ! (mut_slice_at D.R (at_last x ys) (mut_slice_vals x)) (λ p. fsplit ! $ opens_slice ! tt D.R ys b o $
        use1 𝓛 (later (‵ (fhide (elements_shared D.R ys b o κ')) ⊛ ‵ (flent κ' Elements))) (rows_lent 𝓛 D ys b o κ') $ await ! tt $ split ! $ at_once ! $
        pure_i ! (shr_slice_at D.R (shown x ys) (shr_slice_vals (shown x ys))) (tt, (tt, tt)) (refl, p.1) $ fjoin ! $ frame ! $
        move ! (2 ∷ 3 ∷ []) $ fjoin ! $ move ! (2 ∷ 0 ∷ []) $ fjoin ! $ move ! (1 ∷ 0 ∷ []) $ fjoin ! $ done !)

    unseen : (length ys ≡ length x.now) × Room D.R (length ys) → ent 𝓤 (sep 𝓤 (A.dead κ') (sem 𝓛 Shown)) (H.⇛ (sep 𝓤 (sem 𝓛 (owned_of (mut κ q D x ys))) (A.lft κ q)))
    unseen facts =
        qed 𝓛 (‵ (fdead κ') ∷ ‵ Shown ∷ []) ∵ updating ! $ move ! (1 ∷ []) $ fsplit ! $ move ! (2 ∷ 0 ∷ []) $ lent_back ! tt $
        move ! (1 ∷ []) $ fsplit ! $ move ! (1 ∷ []) $ fsplit ! $ move ! (3 ∷ 2 ∷ 0 ∷ 1 ∷ []) $ closes_slice ! tt D.R ys ys refl b o $ at_once ! $
        fjoin ! $ pure_i ! (mut_slice_at D.R (at_last x ys) (mut_slice_vals x)) (tt, (tt, tt)) (ap (λ (m : ℕ). slice_val x.ref_ptr m ∷ []) (sym facts.0), facts.1) $ fjoin ! $ done !

-- ---- the rule
module _ {M : Type 1} {𝓤 : Ura M} {𝓛 : Logic 𝓤} {K : Type 0} {𝓣 : Tables 𝓤 𝓛.H} {E : List Local'} {ss : List Cell} {Γ : List Hold} {e : End 𝓤} {f : Callee} {xs : List Operand} {d : ℕ} {rest : Body} where
  -- hold n is the slice, at the list ys; hs are the other arguments, and us their machine values. κ' is the lifetime of the loan
  pub calls_seeing : K → (n : ℕ) (D : Elem) {κ : Lft} {q : Share} {x : MutBor (List D.R.Denot)} {ys : List D.R.Denot} → hold Γ n ≡ mut κ q D x ys
      → (hs : List Hold) (us : List Val) (T : Ended) (c : Clauses 𝓤 T) (known : Known 𝓛 𝓣 f T c) (y : Lft → (triple_of 𝓛 T.signature (closing 𝓛 T c)).Ghost) (R : Elem) (r : R.R.Denot)
      (to : (κ' : Lft) → Res T.signature (y κ').0.0 → R.R.Denot)
      → ((κ' : Lft)
      → (on_entry 𝓛 T.signature (y κ').0.0 (y κ').0.1 (y κ').0.3 (y κ').0.4 ≡ sep 𝓤 (tokens 𝓛 (shr κ' full_share D (shown x ys) ∷ hs)) (sem 𝓛 (owned_all (shr κ' full_share D (shown x ys) ∷ hs))))
      × (alive 𝓛 T.signature (y κ').0.0 (y κ').0.1 ≡ tokens 𝓛 (shr κ' full_share D (shown x ys) ∷ hs))
      × ((r' : Res T.signature (y κ').0.0) (v : Val) → (type_at T.signature.result (y κ').0.0).own_val r' (v ∷ []) ≡ R.R.own_val (to κ' r') (v ∷ []))
      × ((r' : Res T.signature (y κ').0.0) (ws : Lasts T (y κ').0.0 (y κ').0.3) → ent 𝓤 ((c (y κ').0.0 (y κ').0.3).ensures (y κ').1 r' (at_exit T (y κ').0.0 (y κ').0.3 ws)) (fact 𝓤 (to κ' r' ≡ r)))
      × ent 𝓤 (emp 𝓤) ((c (y κ').0.0 (y κ').0.3).requires (y κ').1) × (passed 𝓛 T.signature (y κ').0 ≡ slice_val x.ref_ptr (length ys) ∷ us))
      → Plains hs → opds_good E ss xs × (opds_value E ss xs ≡ slice_val x.ref_ptr (length x.now) ∷ us) × (type_of E ss d ≡ some R.τ)
      → (Is R.R r (R.val r ∷ []) → Run K 𝓛 𝓣 E (upd ss d (R.val r)) Γ rest e)
      → Run K 𝓛 𝓣 E ss Γ (seq (call f xs (place d [])) rest) e
  calls_seeing t n D {κ} {q} {x} {ys} is hs us T c known y R r to contract plains mir k = record {
    prf =
        let L : Item 𝓤 = ‵ (locals E ss) in
        tells_hold t n Γ L (λ says.
        let facts : (length ys ≡ length x.now) × Room D.R (length ys) = subst Says is says in
        focus t n Γ L (rewrite t 0 (λ (h : Hold). ‵ (formula h)) is refl $ fsplit t $ lft_new t tt (λ α. move t (1 ∷ 2 ∷ []) $
        use2 𝓛 (later (‵ (owned_of (shr (α ∷ []) full_share D (shown x ys))) ⊛ ‵ (Shown D κ (α ∷ []) q x ys))) (shows D κ (α ∷ []) q x ys 𝓛) $ await t tt $ split t $
        let κ' : Lft = α ∷ [] in
        let m : Hold = shr κ' full_share D (shown x ys) in
        let Γ' : List Hold = swap Γ n (other (Shown D κ κ' q x ys)) in
        let same : opds_value E ss xs ≡ passed 𝓛 T.signature (y κ').0 = mir.1 ∙ ap (λ (j : ℕ). slice_val x.ref_ptr j ∷ us) (sym facts.0) ∙ sym (contract κ').5 in
        -- [the slice as it is shown; what the holder keeps; the token of the loan; the locals; ..]
        move t (0 ∷ 2 ∷ []) $ fjoin t $ move t (0 ∷ 2 ∷ []) $ join t $ move t (1 ∷ 0 ∷ []) $ unfocus t n Γ (‵ (formula m) ⊛ L) (other (Shown D κ κ' q x ys)) (split t $ move t (1 ∷ 0 ∷ []) $
        by t (via 𝓤 _ (under 𝓛 L (m ∷ Γ') (m ∷ (hs ++ Γ')) (under 𝓛 (‵ (formula m)) Γ' (hs ++ Γ') (made_all 𝓛 hs Γ' plains)))
        (called 𝓛 K t 𝓣 E ss (ending 𝓛 𝓣 E e) f xs d rest (m ∷ hs) Γ' T c known (y κ') R (to κ') (λ r' ws. to κ' r' ≡ r) mir.0 same (contract κ').0 (contract κ').1 (contract κ').4 (contract κ').2 (contract κ').3 mir.2
        (λ r' ws said rs.
        let P : Fml = lasts T (y κ').0.0 (y κ').0.3 ws in
        let L' : Item 𝓤 = ‵ (locals E (upd ss d (R.val r))) in
        by t (via 𝓤 _ (under 𝓛 (‵ (locals E (upd ss d (R.val (to κ' r'))))) (other P ∷ other (flft κ' full_share) ∷ (back hs ++ Γ')) (other P ∷ other (flft κ' full_share) ∷ Γ')
        (under 𝓛 (‵ P) (other (flft κ' full_share) ∷ (back hs ++ Γ')) (other (flft κ' full_share) ∷ Γ') (under 𝓛 (‵ (flft κ' full_share)) (back hs ++ Γ') Γ' (only 𝓛 (back hs) Γ'))))
        (let s : Seq K 𝓛 (‵ (locals E (upd ss d (R.val (to κ' r')))) ∷ ‵ P ∷ ‵ (flft κ' full_share) ∷ items Γ') (runs 𝓣.C 𝓣.Λ E rest (ending 𝓛 𝓣 E e)) =
        rewrite t 0 (λ (u : R.R.Denot). ‵ (locals E (upd ss d (R.val u)))) said refl $ move t (1 ∷ []) $ drop t $ move t (1 ∷ 0 ∷ []) $ join t $ focus t n Γ' (‵ (flft κ' full_share) ⊛ L') (
        rewrite t 0 (λ (h : Hold). ‵ (formula h)) (hold_swap Γ n (mut κ q D x ys) (other (Shown D κ κ' q x ys)) tt is) refl $
        move t (1 ∷ []) $ split t $ lft_end t tt $ move t (0 ∷ 2 ∷ []) $
        use2 𝓛 (later (‵ (owned_of (mut κ q D x ys)) ⊛ ‵ (flft κ q))) (unseen D κ κ' q x ys 𝓛 facts) $ await t tt $ split t $ fjoin t $ unfocus t n Γ' L' (mut κ q D x ys)
        (subst (λ (Δ : List Hold). Seq K 𝓛 (L' ∷ items Δ) (runs 𝓣.C 𝓣.Λ E rest (ending 𝓛 𝓣 E e))) (sym (swap_swap Γ n (other (Shown D κ κ' q x ys)) (mut κ q D x ys) ∙ swap_same Γ n (mut κ q D x ys) is))
        (k (subst (λ (u : R.R.Denot). Is R.R u (R.val u ∷ [])) said rs)).prf)) in s.prf)))).prf)))));
  }

  pub calls_copying : K → (n : ℕ) (D : Elem) {κ : Lft} {q : Share} {x : Bor (List D.R.Denot)} → hold Γ n ≡ shr κ q D x
      → (hs : List Hold) (T : Ended) (c : Clauses 𝓤 T) (known : Known 𝓛 𝓣 f T c) (y : (triple_of 𝓛 T.signature (closing 𝓛 T c)).Ghost) (R : Elem) (r : R.R.Denot) (to : Res T.signature y.0.0 → R.R.Denot)
      → (on_entry 𝓛 T.signature y.0.0 y.0.1 y.0.3 y.0.4 ≡ sep 𝓤 (tokens 𝓛 (shr κ q D x ∷ hs)) (sem 𝓛 (owned_all (shr κ q D x ∷ hs))))
      × (alive 𝓛 T.signature y.0.0 y.0.1 ≡ tokens 𝓛 (shr κ q D x ∷ hs))
      × ((r' : Res T.signature y.0.0) (v : Val) → (type_at T.signature.result y.0.0).own_val r' (v ∷ []) ≡ R.R.own_val (to r') (v ∷ []))
      × ((r' : Res T.signature y.0.0) (ws : Lasts T y.0.0 y.0.3) → ent 𝓤 ((c y.0.0 y.0.3).ensures y.1 r' (at_exit T y.0.0 y.0.3 ws)) (fact 𝓤 (to r' ≡ r)))
      × ent 𝓤 (emp 𝓤) ((c y.0.0 y.0.3).requires y.1)
      → Plains hs → opds_good E ss xs × (opds_value E ss xs ≡ passed 𝓛 T.signature y.0) × (type_of E ss d ≡ some R.τ)
      → (Is R.R r (R.val r ∷ []) → Run K 𝓛 𝓣 E (upd ss d (R.val r)) Γ rest e)
      → Run K 𝓛 𝓣 E ss Γ (seq (call f xs (place d [])) rest) e
  calls_copying t n D {κ} {q} {x} is hs T c known y R r to contract plains mir k = record {
    prf =
        let L : Item 𝓤 = ‵ (locals E ss) in
        let m : Hold = shr κ q D x in
        let Γ' : List Hold = swap Γ n (other (owned_of m)) in
        focus t n Γ L (rewrite t 0 (λ (h : Hold). ‵ (formula h)) is refl $ fsplit t $
        use1 𝓛 (‵ (owned_of m) ⊛ ‵ (owned_of m)) ((shr_slice_copy 𝓛 (named 0) κ D.R D.shr_laws).twice x (shr_slice_vals x)) $ split t $
        -- [what the slice owns, twice; its token; the locals; ..]
        move t (0 ∷ 2 ∷ []) $ fjoin t $ move t (0 ∷ 2 ∷ []) $ join t $ move t (1 ∷ 0 ∷ []) $ unfocus t n Γ (‵ (formula m) ⊛ L) (other (owned_of m)) (split t $ move t (1 ∷ 0 ∷ []) $
        by t (via 𝓤 _ (under 𝓛 L (m ∷ Γ') (m ∷ (hs ++ Γ')) (under 𝓛 (‵ (formula m)) Γ' (hs ++ Γ') (made_all 𝓛 hs Γ' plains)))
        (called 𝓛 K t 𝓣 E ss (ending 𝓛 𝓣 E e) f xs d rest (m ∷ hs) Γ' T c known y R to (λ r' ws. to r' ≡ r) mir.0 mir.1 contract.0 contract.1 contract.4 contract.2 contract.3 mir.2
        (λ r' ws said rs.
        let P : Fml = lasts T y.0.0 y.0.3 ws in
        let L' : Item 𝓤 = ‵ (locals E (upd ss d (R.val r))) in
        by t (via 𝓤 _ (under 𝓛 (‵ (locals E (upd ss d (R.val (to r'))))) (other P ∷ other (flft κ q) ∷ (back hs ++ Γ')) (other P ∷ other (flft κ q) ∷ Γ')
        (under 𝓛 (‵ P) (other (flft κ q) ∷ (back hs ++ Γ')) (other (flft κ q) ∷ Γ') (under 𝓛 (‵ (flft κ q)) (back hs ++ Γ') Γ' (only 𝓛 (back hs) Γ'))))
        (let s : Seq K 𝓛 (‵ (locals E (upd ss d (R.val (to r')))) ∷ ‵ P ∷ ‵ (flft κ q) ∷ items Γ') (runs 𝓣.C 𝓣.Λ E rest (ending 𝓛 𝓣 E e)) =
        rewrite t 0 (λ (u : R.R.Denot). ‵ (locals E (upd ss d (R.val u)))) said refl $ move t (1 ∷ []) $ drop t $ move t (1 ∷ 0 ∷ []) $ join t $ focus t n Γ' (‵ (flft κ q) ⊛ L') (
        rewrite t 0 (λ (h : Hold). ‵ (formula h)) (hold_swap Γ n m (other (owned_of m)) tt is) refl $
        move t (1 ∷ []) $ split t $ move t (2 ∷ 0 ∷ []) $ fjoin t $ unfocus t n Γ' L' m
        (subst (λ (Δ : List Hold). Seq K 𝓛 (L' ∷ items Δ) (runs 𝓣.C 𝓣.Λ E rest (ending 𝓛 𝓣 E e))) (sym (swap_swap Γ n (other (owned_of m)) m ∙ swap_same Γ n m is))
        (k (subst (λ (u : R.R.Denot). Is R.R u (R.val u ∷ [])) said rs)).prf)) in s.prf)))).prf)));
  }
