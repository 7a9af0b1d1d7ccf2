-- A call, in the judgement of Walk.antt. What the callee's parameters own stands first in the context, hs holds (`Holds.antt`); after the call their tokens stand there, and what the contract says of the last values.
--     Known            that the callee meets its contract
--     makes            what a plain argument owns, made anew
--     called           a call with the holds `hs`, from which each other rule for a call is made
--     calls            a call of a function by value, whose contract says what the result is: the result is stored
-- Assumes `Logic`.
use mathlib.Core.Path.{◌≡◌, refl, sym, ap, subst}
use Prim.Native.Nat.{ℕ}
use mathlib.Core.Option.{some}
use mathlib.Core.List.{List, [], ◌∷◌, ◌++◌}
use seplogic.Ra.Ura.{Ura}
use mir.Syntax.{Callee, place, Opd as Operand, Body, seq, call}
use mir.Val.{Val}
use base.Logic.{SProp, ent, sep, emp, id⊢, via, mono_l, mono_r, emp∗, snd∗}
use base.Fml.{Fml, flft}
use prog.Wp.{Tables}
use types.Logic.{Logic, sem}
use contract.Monad.{fact, fact_i}
use sound.Laws.{∗emp}
use sound.WpLaws.{fm_of}
use types.Kit.{Item, ‵, raw, ◌⊛◌, some as someᴵ, later, mean, ⋆, push, pop, ++⊢, ⊢++, Post, runs, aim, Seq, ◌$◌, ◌∵◌, !, qed, by, move, use1, split, pick, rewrite, await, drop, suffices, frame, done}
use types.Run.{Opds, land, from, stop}
use denote.Laws.{Is, shows}
use denote.Signature.{type_at}
use denote.Steps.{only, owned, peeks, heard}
use denote.Triple.Entry.{Res, alive, on_entry}
use denote.Triple.Bound.{passed}
use denote.Triple.Statement.{Triple}
use denote.Triple.Spec.{triple_of}
use denote.Triple.Clauses.{Clauses, Ended, Lasts, lasts, at_exit, closing}
use denote.Triple.Call.{calls_at}
use Rattle.walks.proofs.Holds.{Elem, typed_of, Hold, val, shr, mut, gave, other, items, formula, tokens, owned_all, leaves_all}
use Rattle.walks.proofs.Locals.{Cell, Local', locals, upd, opds_good, opds_value, operands, Stores, puts}
use Rattle.walks.proofs.Slices.{type_of, stores_at}
use Rattle.walks.proofs.Walk.{Run, Rule, End, ending}

-- the tokens of what was handed over
abbrev pub back : List Hold → List Hold
back [] = []
back (val D a ∷ Γ) = back Γ
back (shr κ q D x ∷ Γ) = other (flft κ q) ∷ back Γ
back (mut κ q D x ys ∷ Γ) = other (flft κ q) ∷ back Γ
back (gave κ q D x zs ∷ Γ) = other (flft κ q) ∷ back Γ
back (other P ∷ Γ) = back Γ

module _ {M : Type 1} {𝓤 : Ura M} (𝓛 : Logic 𝓤) where
  open 𝓛 use {H, A}

  tokens_back : (Γ : List Hold) → ent 𝓤 (tokens 𝓛 Γ) (⋆ 𝓛 (items (back Γ)))
  tokens_back [] = id⊢ 𝓤 _
  tokens_back (val D a ∷ Γ) = tokens_back Γ
  tokens_back (shr κ q D x ∷ Γ) = via 𝓤 _ (mono_r 𝓤 (A.lft κ q) (tokens_back Γ)) (push 𝓛 (‵ (flft κ q)) (items (back Γ)))
  tokens_back (mut κ q D x ys ∷ Γ) = via 𝓤 _ (mono_r 𝓤 (A.lft κ q) (tokens_back Γ)) (push 𝓛 (‵ (flft κ q)) (items (back Γ)))
  tokens_back (gave κ q D x zs ∷ Γ) = via 𝓤 _ (mono_r 𝓤 (A.lft κ q) (tokens_back Γ)) (push 𝓛 (‵ (flft κ q)) (items (back Γ)))
  tokens_back (other P ∷ Γ) = tokens_back Γ

  pub items-++ : (hs Γ : List Hold) → items {𝓤 = 𝓤} (hs ++ Γ) ≡ items hs ++ items Γ
  items-++ [] Γ = refl
  items-++ (a ∷ hs) Γ = ap (λ (Δ : List (Item 𝓤)). ‵ (formula a) ∷ Δ) (items-++ hs Γ)

  hands : (hs Γ : List Hold) → ent 𝓤 (⋆ 𝓛 (items (hs ++ Γ))) (sep 𝓤 (sep 𝓤 (tokens 𝓛 hs) (sem 𝓛 (owned_all hs))) (⋆ 𝓛 (items Γ)))
  hands hs Γ = subst (λ (Δ : List (Item 𝓤)). ent 𝓤 (⋆ 𝓛 Δ) (sep 𝓤 (sep 𝓤 (tokens 𝓛 hs) (sem 𝓛 (owned_all hs))) (⋆ 𝓛 (items Γ)))) (sym (items-++ hs Γ))
      (via 𝓤 _ (⊢++ 𝓛 (items hs) (items Γ)) (mono_l 𝓤 (⋆ 𝓛 (items Γ)) (leaves_all 𝓛 hs)))

  takes_back : (hs Γ : List Hold) → ent 𝓤 (sep 𝓤 (tokens 𝓛 hs) (⋆ 𝓛 (items Γ))) (⋆ 𝓛 (items (back hs ++ Γ)))
  takes_back hs Γ = subst (λ (Δ : List (Item 𝓤)). ent 𝓤 (sep 𝓤 (tokens 𝓛 hs) (⋆ 𝓛 (items Γ))) (⋆ 𝓛 Δ)) (sym (items-++ (back hs) Γ))
      (via 𝓤 _ (mono_l 𝓤 (⋆ 𝓛 (items Γ)) (tokens_back hs)) (++⊢ 𝓛 (items (back hs)) (items Γ)))

  -- the callee meets its contract
  abbrev pub Known : Tables 𝓤 H → Callee → (T : Ended) → Clauses 𝓤 T → Type 1
  Known 𝓣 f T c = Triple 𝓤 (𝓣.C f) (triple_of 𝓛 T.signature (closing 𝓛 T c))

module _ {M : Type 1} {𝓤 : Ura M} {𝓛 : Logic 𝓤} {K : Type 0} {𝓣 : Tables 𝓤 𝓛.H} {E : List Local'} {ss : List Cell} {e : End 𝓤} where
  -- what a plain argument owns
  pub makes : K → (D : Elem) (a : D.R.Denot) {Γ : List Hold} {b : Body} → Is D.R a (D.val a ∷ []) → Rule K 𝓛 𝓣 E ss (val D a ∷ Γ) b e ss Γ b e
  makes t D a is = record { go = λ r. record { prf = owned t D.R (Is D.R) (D.made 𝓛) a (D.val a ∷ []) is $ move t (1 ∷ 0 ∷ []) $ r.prf } }

module _ {M : Type 1} {𝓤 : Ura M} (𝓛 : Logic 𝓤) (K : Type 0) (t : K) (𝓣 : Tables 𝓤 𝓛.H) (E : List Local') (ss : List Cell) (Q : Post 𝓤 𝓛.H) (f : Callee) (xs : List Operand) (d : ℕ) (rest : Body)
    (hs Γ : List Hold) (T : Ended) (c : Clauses 𝓤 T) (known : Known 𝓛 𝓣 f T c) (y : (triple_of 𝓛 T.signature (closing 𝓛 T c)).Ghost) (D : Elem) (to : Res T.signature y.0.0 → D.R.Denot)
    (Φ : Res T.signature y.0.0 → Lasts T y.0.0 y.0.3 → Type 0) where
  open 𝓛 use {H}

  abbrev L : Item 𝓤
  L = ‵ (locals E ss)

  abbrev pre : SProp 𝓤
  pre = (triple_of 𝓛 T.signature (closing 𝓛 T c)).pre y

  abbrev at_start : SProp 𝓤
  at_start = on_entry 𝓛 T.signature y.0.0 y.0.1 y.0.3 y.0.4

  abbrev Ens : Res T.signature y.0.0 → Lasts T y.0.0 y.0.3 → SProp 𝓤
  Ens r ws = (c y.0.0 y.0.3).ensures y.1 r (at_exit T y.0.0 y.0.3 ws)

  -- the operands are read beside what is handed over
  beside : (P : SProp 𝓤) (Δ : List (Item 𝓤)) → opds_good E ss xs → Opds K 𝓛 (raw P ∷ L ∷ Δ) E xs (opds_value E ss xs)
  beside P Δ g = record {
    go = λ Kt h. via 𝓤 (⋆ 𝓛 (L ∷ raw P ∷ Δ)) (qed 𝓛 (raw P ∷ L ∷ Δ) ∵ move ! (1 ∷ 0 ∷ []) $ done !)
        ((operands 𝓛 K t E ss (raw P ∷ Δ) xs g).go Kt (via 𝓤 (⋆ 𝓛 (raw P ∷ L ∷ Δ)) (qed 𝓛 (L ∷ raw P ∷ Δ) ∵ move ! (1 ∷ 0 ∷ []) $ done !) h));
  }

  pub called : opds_good E ss xs → opds_value E ss xs ≡ passed 𝓛 T.signature y.0 → on_entry 𝓛 T.signature y.0.0 y.0.1 y.0.3 y.0.4 ≡ sep 𝓤 (tokens 𝓛 hs) (sem 𝓛 (owned_all hs))
      → alive 𝓛 T.signature y.0.0 y.0.1 ≡ tokens 𝓛 hs → ent 𝓤 (emp 𝓤) ((c y.0.0 y.0.3).requires y.1)
      → ((r : Res T.signature y.0.0) (v : Val) → (type_at T.signature.result y.0.0).own_val r (v ∷ []) ≡ D.R.own_val (to r) (v ∷ [])) → ((r : Res T.signature y.0.0) (ws : Lasts T y.0.0 y.0.3) → ent 𝓤 (Ens r ws) (fact 𝓤 (Φ r ws)))
      → type_of E ss d ≡ some D.τ
      → ((r : Res T.signature y.0.0) (ws : Lasts T y.0.0 y.0.3) → Φ r ws → Is D.R (to r) (D.val (to r) ∷ []) → Seq K 𝓛 (‵ (locals E (upd ss d (D.val (to r)))) ∷ items (other (lasts T y.0.0 y.0.3 ws) ∷ (back hs ++ Γ))) (runs 𝓣.C 𝓣.Λ E rest Q))
      → Seq K 𝓛 (L ∷ items (hs ++ Γ)) (runs 𝓣.C 𝓣.Λ E (seq (call f xs (place d [])) rest) Q)
  called gx ex at_entry_lem at-alive asked own_is says_is ed k =
      by t (via 𝓤 (⋆ 𝓛 (raw pre ∷ L ∷ items Γ))
      (via 𝓤 _ (pop 𝓛 L (items (hs ++ Γ))) (via 𝓤 _ (mono_r 𝓤 (mean 𝓛 L) (hands 𝓛 hs Γ))
      (qed 𝓛 (L ∷ (raw (sep 𝓤 (tokens 𝓛 hs) (sem 𝓛 (owned_all hs))) ⊛ raw (⋆ 𝓛 (items Γ))) ∷ []) ∵ move ! (1 ∷ []) $ split ! $ use1 𝓛 (raw pre)
      (via 𝓤 at_start (subst (λ (P : SProp 𝓤). ent 𝓤 P at_start) at_entry_lem (id⊢ 𝓤 at_start)) (via 𝓤 (sep 𝓤 at_start (emp 𝓤)) (∗emp 𝓤 at_start) (mono_r 𝓤 at_start asked))) $ frame ! $ move ! (1 ∷ []) $ by ! (push 𝓛 L (items Γ)))))
      (let s : Seq K 𝓛 (raw pre ∷ L ∷ items Γ) (runs 𝓣.C 𝓣.Λ E (seq (call f xs (place d [])) rest) Q) =
      calls_at t (fm_of 𝓤 H 𝓛.laws 𝓣) (triple_of 𝓛 T.signature (closing 𝓛 T c)) known y (subst (λ (vs : List Val). Opds K 𝓛 (raw pre ∷ L ∷ items Γ) E xs vs) ex (beside pre (items Γ) gx)) (λ v.
      use1 𝓛 (later (someᴵ (λ (r : Res T.signature y.0.0). (raw (alive 𝓛 T.signature y.0.0 y.0.1) ⊛ ‵ ((type_at T.signature.result y.0.0).own_val r (v ∷ [])))
      ⊛ someᴵ (λ (ws : Lasts T y.0.0 y.0.3). ‵ (lasts T y.0.0 y.0.3 ws) ⊛ raw (Ens r ws))))) (id⊢ 𝓤 _) $ await t tt $ pick t (λ r. split t $ move t (1 ∷ []) $ pick t (λ ws. split t $ move t (1 ∷ []) $
      use1 𝓛 (raw (fact 𝓤 (Φ r ws))) (says_is r ws) $ heard t (Φ r ws) (λ said. move t (1 ∷ []) $ split t $ move t (1 ∷ []) $
      rewrite t 0 (λ (P : Fml). ‵ P) (own_is r v) refl $ peeks t D.R (Is D.R) (shows 𝓛 D.R) (to r) (v ∷ []) (λ is. drop t $
      -- [the tokens; the last values; the locals; ..]
      let v-is : v ≡ D.val (to r) = ap only (D.tells (to r) (v ∷ []) is) in
      let is' : Is D.R (to r) (D.val (to r) ∷ []) = subst (λ (u : Val). Is D.R (to r) (u ∷ [])) v-is is in
      move t (2 ∷ []) $ land t (from t (stop t)) (puts 𝓛 K t E ss _ d v (subst (λ (u : Val). Stores E ss d u) (sym v-is) (stores_at E ss d D.τ (D.val (to r)) ed (typed_of 𝓛 D (to r) is')))) $
      rewrite t 0 (λ (u : Val). ‵ (locals E (upd ss d u))) v-is refl $ rewrite t 1 (λ (P : SProp 𝓤). raw P) at-alive refl $
      by t (via 𝓤 _ (qed 𝓛 (‵ (locals E (upd ss d (D.val (to r)))) ∷ raw (tokens 𝓛 hs) ∷ ‵ (lasts T y.0.0 y.0.3 ws) ∷ items Γ) ∵ frame ! $ move ! (1 ∷ []) $ suffices ! _ (push 𝓛 (‵ (lasts T y.0.0 y.0.3 ws)) (items (back hs ++ Γ))) $ frame ! $
      by ! (via 𝓤 _ (pop 𝓛 (raw (tokens 𝓛 hs)) (items Γ)) (takes_back 𝓛 hs Γ))) (k r ws said is').prf)))))) in s.prf))

-- that a fact that a contract asks holds
pub shows_fact : {M : Type 1} (𝓤 : Ura M) (φ : Type 0) → φ → ent 𝓤 (emp 𝓤) (fact 𝓤 φ)
shows_fact 𝓤 φ x = fact_i 𝓤 φ (emp 𝓤) x

-- holds that are plain values, which are made anew
abbrev pub Plains : List Hold → Type 0
Plains [] = Unit {0}
Plains (val D a ∷ hs) = Is D.R a (D.val a ∷ []) × Plains hs
Plains (shr κ q D x ∷ hs) = ⊥
Plains (mut κ q D x ys ∷ hs) = ⊥
Plains (gave κ q D x zs ∷ hs) = ⊥
Plains (other P ∷ hs) = ⊥

module _ {M : Type 1} {𝓤 : Ura M} (𝓛 : Logic 𝓤) where
  pub made_all : (hs Γ : List Hold) → Plains hs → ent 𝓤 (⋆ 𝓛 (items Γ)) (⋆ 𝓛 (items (hs ++ Γ)))
  made_all [] Γ is = id⊢ 𝓤 _
  made_all (val D a ∷ hs) Γ is = via 𝓤 (⋆ 𝓛 (items (hs ++ Γ))) (made_all hs Γ is.1) (via 𝓤 _ (emp∗ 𝓤 (⋆ 𝓛 (items (hs ++ Γ)))) (via 𝓤 _ (mono_l 𝓤 (⋆ 𝓛 (items (hs ++ Γ))) (D.made 𝓛 a (D.val a ∷ []) is.0)) (push 𝓛 (‵ (formula (val D a))) (items (hs ++ Γ)))))
  made_all (shr κ q D x ∷ hs) Γ is = absurd is
  made_all (mut κ q D x ys ∷ hs) Γ is = absurd is
  made_all (gave κ q D x zs ∷ hs) Γ is = absurd is
  made_all (other P ∷ hs) Γ is = absurd is

  dropped : (P : Fml) (hs Γ : List Hold) → ent 𝓤 (⋆ 𝓛 (items (other P ∷ (hs ++ Γ)))) (⋆ 𝓛 (items Γ))
  dropped P hs Γ = via 𝓤 _ (pop 𝓛 (‵ P) (items (hs ++ Γ))) (via 𝓤 _ (snd∗ 𝓤 (sem 𝓛 P) (⋆ 𝓛 (items (hs ++ Γ))))
      (subst (λ (Δ : List (Item 𝓤)). ent 𝓤 (⋆ 𝓛 Δ) (⋆ 𝓛 (items Γ))) (sym (items-++ 𝓛 hs Γ)) (via 𝓤 _ (⊢++ 𝓛 (items hs) (items Γ)) (snd∗ 𝓤 (⋆ 𝓛 (items hs)) (⋆ 𝓛 (items Γ))))))

  -- under the locals
  pub under : (L : Item 𝓤) (Γ Γ' : List Hold) → ent 𝓤 (⋆ 𝓛 (items Γ)) (⋆ 𝓛 (items Γ')) → ent 𝓤 (⋆ 𝓛 (L ∷ items Γ)) (⋆ 𝓛 (L ∷ items Γ'))
  under L Γ Γ' h = via 𝓤 _ (pop 𝓛 L (items Γ)) (via 𝓤 _ (mono_r 𝓤 (mean 𝓛 L) h) (push 𝓛 L (items Γ')))

module _ {M : Type 1} {𝓤 : Ura M} {𝓛 : Logic 𝓤} {K : Type 0} {𝓣 : Tables 𝓤 𝓛.H} {E : List Local'} {ss : List Cell} {Γ : List Hold} {e : End 𝓤} {f : Callee} {xs : List Operand} {d : ℕ} {rest : Body} where
  -- a call of a function by value, whose contract says that the result is r: it takes nothing of what is held, and the result is stored
  open 𝓛 use {H}

  pub calls : K → (hs : List Hold) (T : Ended) (c : Clauses 𝓤 T) (known : Known 𝓛 𝓣 f T c) (y : (triple_of 𝓛 T.signature (closing 𝓛 T c)).Ghost) (D : Elem) (r : D.R.Denot) (to : Res T.signature y.0.0 → D.R.Denot)
      → (on_entry 𝓛 T.signature y.0.0 y.0.1 y.0.3 y.0.4 ≡ sep 𝓤 (tokens 𝓛 hs) (sem 𝓛 (owned_all hs))) × (alive 𝓛 T.signature y.0.0 y.0.1 ≡ tokens 𝓛 hs)
      × ((r' : Res T.signature y.0.0) (v : Val) → (type_at T.signature.result y.0.0).own_val r' (v ∷ []) ≡ D.R.own_val (to r') (v ∷ []))
      × ((r' : Res T.signature y.0.0) (ws : Lasts T y.0.0 y.0.3) → ent 𝓤 ((c y.0.0 y.0.3).ensures y.1 r' (at_exit T y.0.0 y.0.3 ws)) (fact 𝓤 (to r' ≡ r)))
      → ent 𝓤 (emp 𝓤) ((c y.0.0 y.0.3).requires y.1) → Plains hs → opds_good E ss xs × (opds_value E ss xs ≡ passed 𝓛 T.signature y.0) × (type_of E ss d ≡ some D.τ)
      → (Is D.R r (D.val r ∷ []) → Run K 𝓛 𝓣 E (upd ss d (D.val r)) Γ rest e) → Run K 𝓛 𝓣 E ss Γ (seq (call f xs (place d [])) rest) e
  calls t hs T c known y D r to contract asked plains mir k = record {
    prf = by t (via 𝓤 _ (under 𝓛 (‵ (locals E ss)) Γ (hs ++ Γ) (made_all 𝓛 hs Γ plains))
        (called 𝓛 K t 𝓣 E ss (ending 𝓛 𝓣 E e) f xs d rest hs Γ T c known y D to (λ r' ws. to r' ≡ r) mir.0 mir.1 contract.0 contract.1 asked contract.2 contract.3 mir.2
        (λ r' ws said is. by t (via 𝓤 _ (under 𝓛 (‵ (locals E (upd ss d (D.val (to r'))))) (other (lasts T y.0.0 y.0.3 ws) ∷ (back hs ++ Γ)) Γ (dropped 𝓛 (lasts T y.0.0 y.0.3 ws) (back hs) Γ))
        (subst (λ (u : D.R.Denot). ent 𝓤 (⋆ 𝓛 (‵ (locals E (upd ss d (D.val u))) ∷ items Γ)) (aim 𝓤 H (runs 𝓣.C 𝓣.Λ E rest (ending 𝓛 𝓣 E e)))) (sym said) (k (subst (λ (u : D.R.Denot). Is D.R u (D.val u ∷ [])) said is)).prf.prf)))).prf);
  }
