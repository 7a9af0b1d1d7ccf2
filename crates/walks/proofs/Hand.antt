-- What is handed to a callee: a `&[D]` as a copy, a plain value, and a `&mut [D]` for good. A rule of the judgement of Walk.antt.
--     calls_holding    a call with the holds hs, which stand first. After it a `&[D]` is held as before, and of a `&mut [D]` its last list (`gave`)
-- Assumes `Logic`.
use mathlib.Core.Path.{◌≡◌, refl, sym, subst}
use Prim.Native.Nat.{ℕ}
use mathlib.Core.Option.{some}
use mathlib.Core.List.{List, [], ◌∷◌, ◌++◌}
use lib.ListN.{length}
use seplogic.Ra.Ura.{Ura}
use mir.Syntax.{Callee, named, place, Opd as Operand, Body, seq, call}
use mir.Val.{Val}
use base.Logic.{SProp, ent, sep, emp, guard, via, mono_r}
use base.Fml.{Fml, ftrue, fsep, flft, fbor, feq}
use prog.Wp.{Tables}
use types.Logic.{Logic, sem}
use contract.Monad.{fact}
use types.Kit.{Item, ‵, raw, ◌⊛◌, given, mean, ⋆, push, pop, ++⊢, ⊢++, Goal, runs, Seq, ◌$◌, ◌∵◌, !, qed, by, move, keep, use1, use2, use3, drop, split, rewrite, fsplit, fjoin, feq_l, feq_i, frame, learn, check, done}
use denote.Laws.{Is}
use denote.Lend.{Held}
use denote.Signature.{type_at}
use denote.Slice.{shr_slice_vals, finally, shr_slice_copy}
use denote.Steps.{nothing}
use denote.Triple.Entry.{Res, alive, on_entry}
use denote.Triple.Bound.{passed}
use denote.Triple.Spec.{triple_of}
use denote.Triple.Clauses.{Clauses, Ended, Lasts, lasts, at_exit, closing}
use Rattle.walks.proofs.Holds.{Elem, Hold, val, shr, mut, gave, other, owned_of, formula, items, tokens, owned_all, says_hold}
use Rattle.walks.proofs.Calls.{Known, back, called, under, items-++}
use Rattle.walks.proofs.Locals.{Cell, Local', locals, upd, opds_good, opds_value}
use Rattle.walks.proofs.Slices.{type_of}
use Rattle.walks.proofs.Walk.{Run, End, ending}

-- ---- what is handed over for good, or is kept as a copy
abbrev pub Handed : List Hold → Type 0
Handed [] = Unit {0}
Handed (val D a ∷ hs) = Handed hs
Handed (shr κ q D x ∷ hs) = Handed hs
Handed (mut κ q D x ys ∷ hs) = Handed hs
Handed (gave κ q D x zs ∷ hs) = ⊥
Handed (other P ∷ hs) = ⊥

-- a last list for each `&mut`
abbrev pub Ends : List Hold → Type 0
Ends [] = Unit {0}
Ends (val D a ∷ hs) = Unit {0} × Ends hs
Ends (shr κ q D x ∷ hs) = Unit {0} × Ends hs
Ends (mut κ q D x ys ∷ hs) = List D.R.Denot × Ends hs
Ends (gave κ q D x zs ∷ hs) = Unit {0} × Ends hs
Ends (other P ∷ hs) = Unit {0} × Ends hs

-- what a contract says of them, that they are as long as the lists passed, and that it hands their borrows back; and what is held then
abbrev pub said_of : (hs : List Hold) → Ends hs → Fml
said_of [] ws = ftrue
said_of (val D a ∷ hs) ws = fsep ftrue (said_of hs ws.1)
said_of (shr κ q D x ∷ hs) ws = fsep ftrue (said_of hs ws.1)
said_of (mut κ q D x ys ∷ hs) ws = fsep (fsep (fsep (finally D.R x.ghost_name ws.0) (feq ℕ (length ws.0) (length ys))) (fbor κ (Held D.R (length ys) x.ref_ptr.0 x.ref_ptr.1 x.ghost_name))) (said_of hs ws.1)
said_of (gave κ q D x zs ∷ hs) ws = fsep ftrue (said_of hs ws.1)
said_of (other P ∷ hs) ws = fsep ftrue (said_of hs ws.1)

abbrev pub Sames : (hs : List Hold) → Ends hs → Type 0
Sames [] ws = Unit {0}
Sames (val D a ∷ hs) ws = Sames hs ws.1
Sames (shr κ q D x ∷ hs) ws = Sames hs ws.1
Sames (mut κ q D x ys ∷ hs) ws = (length ws.0 ≡ length ys) × Sames hs ws.1
Sames (gave κ q D x zs ∷ hs) ws = Sames hs ws.1
Sames (other P ∷ hs) ws = Sames hs ws.1

abbrev pub after : (hs : List Hold) → Ends hs → List Hold
after [] ws = []
after (val D a ∷ hs) ws = val D a ∷ after hs ws.1
after (shr κ q D x ∷ hs) ws = shr κ q D x ∷ after hs ws.1
after (mut κ q D x ys ∷ hs) ws = gave κ q D x ws.0 ∷ after hs ws.1
after (gave κ q D x zs ∷ hs) ws = after hs ws.1
after (other P ∷ hs) ws = after hs ws.1

-- what is kept while the callee has them: a copy of what can be copied, and of a `&mut` that its list is as long as the list that it was passed with
abbrev pub kept : List Hold → Fml
kept [] = ftrue
kept (val D a ∷ hs) = fsep (owned_of (val D a)) (kept hs)
kept (shr κ q D x ∷ hs) = fsep (owned_of (shr κ q D x)) (kept hs)
kept (mut κ q D x ys ∷ hs) = fsep (feq ℕ (length ys) (length x.now)) (kept hs)
kept (gave κ q D x zs ∷ hs) = kept hs
kept (other P ∷ hs) = kept hs

module _ {M : Type 1} {𝓤 : Ura M} (𝓛 : Logic 𝓤) where
  abbrev pub Its : List Hold → SProp 𝓤
  Its hs = ⋆ 𝓛 (items hs)

  copied : (hs : List Hold) → Handed hs → ent 𝓤 (Its hs) (sep 𝓤 (Its hs) (sem 𝓛 (kept hs)))
  copied [] h = qed 𝓛 [] ∵ nothing ! $ nothing ! $ frame ! $ done !
  copied (val D a ∷ hs) h = via 𝓤 _ (pop 𝓛 (‵ (formula (val D a))) (items hs))
      (qed 𝓛 (‵ (formula (val D a)) ∷ raw (Its hs) ∷ []) ∵ use1 𝓛 (‵ (owned_of (val D a)) ⊛ ‵ (owned_of (val D a))) ((D.copies 𝓛).twice a (D.val a ∷ [])) $ split ! $ move ! (2 ∷ []) $ use1 𝓛 (raw (Its hs) ⊛ ‵ (kept hs)) (copied hs h) $ split ! $
      move ! (2 ∷ 0 ∷ []) $ use2 𝓛 (raw (Its (val D a ∷ hs))) (push 𝓛 (‵ (formula (val D a))) (items hs)) $ frame ! $ move ! (1 ∷ 0 ∷ []) $ fjoin ! $ done !)
  copied (shr κ q D x ∷ hs) h = via 𝓤 _ (pop 𝓛 (‵ (formula (shr κ q D x))) (items hs))
      (qed 𝓛 (‵ (formula (shr κ q D x)) ∷ raw (Its hs) ∷ []) ∵ fsplit ! $ use1 𝓛 (‵ (owned_of (shr κ q D x)) ⊛ ‵ (owned_of (shr κ q D x))) ((shr_slice_copy 𝓛 (named 0) κ D.R D.shr_laws).twice x (shr_slice_vals x)) $ split ! $
      move ! (3 ∷ []) $ use1 𝓛 (raw (Its hs) ⊛ ‵ (kept hs)) (copied hs h) $ split ! $ move ! (2 ∷ 4 ∷ []) $ fjoin ! $ move ! (0 ∷ 1 ∷ []) $ use2 𝓛 (raw (Its (shr κ q D x ∷ hs))) (push 𝓛 (‵ (formula (shr κ q D x))) (items hs)) $ frame ! $
      move ! (1 ∷ 0 ∷ []) $ fjoin ! $ done !)
  copied (mut κ q D x ys ∷ hs) h = via 𝓤 _ (pop 𝓛 (‵ (formula (mut κ q D x ys))) (items hs))
      (qed 𝓛 (‵ (formula (mut κ q D x ys)) ∷ raw (Its hs) ∷ []) ∵ says_hold ! (raw (Its hs) ∷ []) (mut κ q D x ys) (λ says. move ! (1 ∷ []) $ use1 𝓛 (raw (Its hs) ⊛ ‵ (kept hs)) (copied hs h) $ split ! $
      move ! (2 ∷ 0 ∷ []) $ use2 𝓛 (raw (Its (mut κ q D x ys ∷ hs))) (push 𝓛 (‵ (formula (mut κ q D x ys))) (items hs)) $ frame ! $ feq_i ! ℕ (length ys) (length x.now) says.0 $ fjoin ! $ done !))
  copied (gave κ q D x zs ∷ hs) h = absurd h
  copied (other P ∷ hs) h = absurd h

  pub regain : (hs : List Hold) (ws : Ends hs) → Handed hs → ent 𝓤 (sep 𝓤 (Its (back hs)) (sep 𝓤 (sem 𝓛 (said_of hs ws)) (sem 𝓛 (kept hs)))) (guard 𝓤 (Sames hs ws) (Its (after hs ws)))
  regain [] ws h = qed 𝓛 (‵ ftrue ∷ ‵ ftrue ∷ ‵ ftrue ∷ []) ∵ check ! tt $ keep ! [] $ done !
  regain (val D a ∷ hs) ws h =
      qed 𝓛 (raw (Its (back hs)) ∷ ‵ (fsep ftrue (said_of hs ws.1)) ∷ ‵ (fsep (owned_of (val D a)) (kept hs)) ∷ []) ∵ move ! (1 ∷ []) $ fsplit ! $ drop ! $ move ! (2 ∷ []) $ fsplit ! $ move ! (3 ∷ 2 ∷ 1 ∷ []) $
      use3 𝓛 (given (Sames hs ws.1) (raw (Its (after hs ws.1)))) (regain hs ws.1 h) $ learn ! (λ same. check ! same $ move ! (1 ∷ 0 ∷ []) $ by ! (push 𝓛 (‵ (formula (val D a))) (items (after hs ws.1))))
  regain (shr κ q D x ∷ hs) ws h =
      qed 𝓛 (raw (Its (other (flft κ q) ∷ back hs)) ∷ ‵ (fsep ftrue (said_of hs ws.1)) ∷ ‵ (fsep (owned_of (shr κ q D x)) (kept hs)) ∷ []) ∵ use1 𝓛 (‵ (flft κ q) ⊛ raw (Its (back hs))) (pop 𝓛 (‵ (flft κ q)) (items (back hs))) $ split ! $ move ! (2 ∷ []) $ fsplit ! $ drop ! $ move ! (3 ∷ []) $ fsplit ! $ move ! (4 ∷ 2 ∷ 1 ∷ []) $
      use3 𝓛 (given (Sames hs ws.1) (raw (Its (after hs ws.1)))) (regain hs ws.1 h) $ learn ! (λ same. check ! same $ move ! (1 ∷ 2 ∷ []) $ fjoin ! $ by ! (push 𝓛 (‵ (formula (shr κ q D x))) (items (after hs ws.1))))
  regain (mut κ q D x ys ∷ hs) ws h =
      qed 𝓛 (raw (Its (other (flft κ q) ∷ back hs)) ∷ ‵ (said_of (mut κ q D x ys ∷ hs) ws) ∷ ‵ (kept (mut κ q D x ys ∷ hs)) ∷ []) ∵ use1 𝓛 (‵ (flft κ q) ⊛ raw (Its (back hs))) (pop 𝓛 (‵ (flft κ q)) (items (back hs))) $ split ! $ move ! (2 ∷ []) $ fsplit ! $ fsplit ! $ fsplit ! $ move ! (1 ∷ []) $ feq_l ! (λ len.
      -- [the last list; the borrow; what is said of the others; the token; the others' tokens; what is kept]
      move ! (5 ∷ []) $ fsplit ! $ feq_l ! (λ was. move ! (5 ∷ 3 ∷ 0 ∷ []) $
      use3 𝓛 (given (Sames hs ws.1) (raw (Its (after hs ws.1)))) (regain hs ws.1 h) $ learn ! (λ same. check ! (len, same) $ move ! (2 ∷ []) $
      rewrite ! 0 (λ (m : ℕ). ‵ (fbor κ (Held D.R m x.ref_ptr.0 x.ref_ptr.1 x.ghost_name))) was refl $ move ! (2 ∷ 0 ∷ []) $ fjoin ! $ move ! (0 ∷ 2 ∷ []) $ fjoin ! $ by ! (push 𝓛 (‵ (formula (gave κ q D x ws.0))) (items (after hs ws.1))))))
  regain (gave κ q D x zs ∷ hs) ws h = absurd h
  regain (other P ∷ hs) ws h = absurd h

  -- ---- lists of holds, as entries of the context
  pub cuts : (hs Γ : List Hold) → ent 𝓤 (Its (hs ++ Γ)) (sep 𝓤 (Its hs) (Its Γ))
  cuts hs Γ = subst (λ (Δ : List (Item 𝓤)). ent 𝓤 (⋆ 𝓛 Δ) (sep 𝓤 (Its hs) (Its Γ))) (sym (items-++ 𝓛 hs Γ)) (⊢++ 𝓛 (items hs) (items Γ))

  pub joins : (hs Γ : List Hold) → ent 𝓤 (sep 𝓤 (Its hs) (Its Γ)) (Its (hs ++ Γ))
  joins hs Γ = subst (λ (Δ : List (Item 𝓤)). ent 𝓤 (sep 𝓤 (Its hs) (Its Γ)) (⋆ 𝓛 Δ)) (sym (items-++ 𝓛 hs Γ)) (++⊢ 𝓛 (items hs) (items Γ))

  pub beneath : (i : Item 𝓤) (Δ Δ' : List (Item 𝓤)) → ent 𝓤 (⋆ 𝓛 Δ) (⋆ 𝓛 Δ') → ent 𝓤 (⋆ 𝓛 (i ∷ Δ)) (⋆ 𝓛 (i ∷ Δ'))
  beneath i Δ Δ' h = via 𝓤 _ (pop 𝓛 i Δ) (via 𝓤 _ (mono_r 𝓤 (mean 𝓛 i) h) (push 𝓛 i Δ'))

  -- P is put behind hs
  pub inserts : (P : Fml) (hs Γ : List Hold) → ent 𝓤 (Its (other P ∷ (hs ++ Γ))) (Its (hs ++ (other P ∷ Γ)))
  inserts P hs Γ = via 𝓤 _ (pop 𝓛 (‵ P) (items (hs ++ Γ))) (qed 𝓛 (‵ P ∷ raw (Its (hs ++ Γ)) ∷ []) ∵ move ! (1 ∷ []) $ use1 𝓛 (raw (Its hs) ⊛ raw (Its Γ)) (cuts hs Γ) $ split ! $ move ! (2 ∷ 1 ∷ []) $
      use2 𝓛 (raw (Its (other P ∷ Γ))) (push 𝓛 (‵ P) (items Γ)) $ move ! (1 ∷ 0 ∷ []) $ by ! (joins hs (other P ∷ Γ)))

  -- and what can be kept of hs is copied there
  pub doubles : (hs Γ : List Hold) → Handed hs → ent 𝓤 (Its (hs ++ Γ)) (Its (hs ++ (other (kept hs) ∷ Γ)))
  doubles hs Γ h = via 𝓤 _ (cuts hs Γ) (qed 𝓛 (raw (Its hs) ∷ raw (Its Γ) ∷ []) ∵ use1 𝓛 (raw (Its hs) ⊛ ‵ (kept hs)) (copied hs h) $ split ! $ move ! (1 ∷ 2 ∷ []) $
      use2 𝓛 (raw (Its (other (kept hs) ∷ Γ))) (push 𝓛 (‵ (kept hs)) (items Γ)) $ move ! (1 ∷ 0 ∷ []) $ by ! (joins hs (other (kept hs) ∷ Γ)))

-- ---- the rule
module _ {M : Type 1} {𝓤 : Ura M} {𝓛 : Logic 𝓤} {K : Type 0} {𝓣 : Tables 𝓤 𝓛.H} {E : List Local'} {ss : List Cell} {Γ : List Hold} {e : End 𝓤} {f : Callee} {xs : List Operand} {d : ℕ} {rest : Body} where
  open 𝓛 use {H}

  pub calls_holding : K → (hs Γ₀ : List Hold) (T : Ended) (c : Clauses 𝓤 T) (known : Known 𝓛 𝓣 f T c) (y : (triple_of 𝓛 T.signature (closing 𝓛 T c)).Ghost) (R : Elem) (Φ : R.R.Denot → Ends hs → Type 0)
      (to : Res T.signature y.0.0 → R.R.Denot) (last : Lasts T y.0.0 y.0.3 → Ends hs)
      → (Γ ≡ hs ++ Γ₀) × Handed hs
      → (on_entry 𝓛 T.signature y.0.0 y.0.1 y.0.3 y.0.4 ≡ sep 𝓤 (tokens 𝓛 hs) (sem 𝓛 (owned_all hs))) × (alive 𝓛 T.signature y.0.0 y.0.1 ≡ tokens 𝓛 hs)
      × ((r : Res T.signature y.0.0) (v : Val) → (type_at T.signature.result y.0.0).own_val r (v ∷ []) ≡ R.R.own_val (to r) (v ∷ []))
      × ((r : Res T.signature y.0.0) (ws : Lasts T y.0.0 y.0.3) → ent 𝓤 ((c y.0.0 y.0.3).ensures y.1 r (at_exit T y.0.0 y.0.3 ws)) (fact 𝓤 (Φ (to r) (last ws))))
      × ((ws : Lasts T y.0.0 y.0.3) → lasts T y.0.0 y.0.3 ws ≡ said_of hs (last ws))
      → ent 𝓤 (emp 𝓤) ((c y.0.0 y.0.3).requires y.1) → opds_good E ss xs × (opds_value E ss xs ≡ passed 𝓛 T.signature y.0) × (type_of E ss d ≡ some R.τ)
      → ((r : R.R.Denot) (ws : Ends hs) → Φ r ws → Sames hs ws → Is R.R r (R.val r ∷ []) → Run K 𝓛 𝓣 E (upd ss d (R.val r)) (after hs ws ++ Γ₀) rest e)
      → Run K 𝓛 𝓣 E ss Γ (seq (call f xs (place d [])) rest) e
  calls_holding t hs Γ₀ T c known y R Φ to last this contract asked mir kont = record {
    prf =
        let L : Item 𝓤 = ‵ (locals E ss) in
        let G : Goal 𝓤 H = runs 𝓣.C 𝓣.Λ E (seq (call f xs (place d [])) rest) (ending 𝓛 𝓣 E e) in
        let X : List Hold = other (kept hs) ∷ Γ₀ in
        subst (λ (Δ : List Hold). Seq K 𝓛 (L ∷ items Δ) G) (sym this.0) (by t (via 𝓤 _ (under 𝓛 L (hs ++ Γ₀) (hs ++ X) (doubles 𝓛 hs Γ₀ this.1))
        (called 𝓛 K t 𝓣 E ss (ending 𝓛 𝓣 E e) f xs d rest hs X T c known y R to (λ r ws. Φ (to r) (last ws)) mir.0 mir.1 contract.0 contract.1 asked contract.2 contract.3 mir.2
        (λ r ws said rs.
        let us : Ends hs = last ws in
        let L₂ : Item 𝓤 = ‵ (locals E (upd ss d (R.val (to r)))) in
        let Q : Fml = lasts T y.0.0 y.0.3 ws in
        by t (via 𝓤 _ (beneath 𝓛 L₂ (‵ Q ∷ items (back hs ++ X)) (‵ Q ∷ raw (Its 𝓛 (back hs)) ∷ items X) (beneath 𝓛 (‵ Q) (items (back hs ++ X)) (raw (Its 𝓛 (back hs)) ∷ items X) (cuts 𝓛 (back hs) X)))
        (let s : Seq K 𝓛 (L₂ ∷ ‵ Q ∷ raw (Its 𝓛 (back hs)) ∷ ‵ (kept hs) ∷ items Γ₀) (runs 𝓣.C 𝓣.Λ E rest (ending 𝓛 𝓣 E e)) =
        rewrite t 1 (λ (F : Fml). ‵ F) (contract.4 ws) refl $ move t (2 ∷ 1 ∷ 3 ∷ []) $
        use3 𝓛 (given (Sames hs us) (raw (Its 𝓛 (after hs us)))) (regain 𝓛 hs us this.1) $ learn t (λ sames. move t (1 ∷ 0 ∷ []) $
        by t (via 𝓤 _ (beneath 𝓛 L₂ (raw (Its 𝓛 (after hs us)) ∷ items Γ₀) (items (after hs us ++ Γ₀)) (via 𝓤 _ (pop 𝓛 (raw (Its 𝓛 (after hs us))) (items Γ₀)) (joins 𝓛 (after hs us) Γ₀)))
        (kont (to r) us said sames rs).prf.prf)) in s.prf)))).prf));
  }
