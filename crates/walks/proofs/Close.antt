-- From a walk to a function's statement: what is the same for every function.
--     Site             what a walk takes for granted: the model, the tables, and what a contract reads
--     Kind             of a parameter, what `walked` and `walk_Meets` ask of it.        by_value, shared, mutable, given_up      the kinds
--     Function, Walk   a function at one choice of what its contract binds outside, and what a walk of its body shows
--     walks            a function's body, from what there is at entry.        returns      its exit
--     closes           the statement
-- Assumes nothing.
use mathlib.Core.Path.{◌≡◌, subst, sym}
use Prim.Native.Nat.{ℕ}
use mathlib.Core.List.{List, [], ◌∷◌}
use seplogic.Ra.Ura.{Ura}
use mir.Syntax.{Callee, Fn, return}
use mir.Val.{Val}
use base.Logic.{SProp, ent, sep, emp, via, fst∗}
use prog.Memory.{Memory}
use prog.Model.{Model}
use prog.Routine.{Routine}
use prog.Wp.{WpFn, Closed, Tables}
use types.Logic.{Logic, sem}
use contract.Monad.{Fun, fact}
use contract.Lifetimes.{Lfts, Shares, AllOutlive}
use contract.Running.{Running, tables, tables_of}
use sound.WpLaws.{WpFn-mono}
use types.Kit.{⋆, Go, !, Seq, prop, ◌$◌, by, suffices}
use denote.Exit.{Kept, yes}
use denote.RattleType.{mirs, flat}
use denote.Laws.{Is, Tells, Lawful, Lawfuls, Typed, Are, Ises, Spells, Tellss, valss, all_Typed}
use denote.Slice.{shr_slice_vals, mut_slice_vals, shr_slice_Tells, mut_slice_Tells, shr_slice_Lawful, mut_slice_Lawful}
use denote.Signature.{Slot, AllWithin, plain, shr_slice_of, mut_slice_of, name_of, meet_at, types_at}
use denote.Triple.Entry.{Args, Res, on_entry}
use denote.Triple.End.{Kepts}
use denote.Triple.Statement.{Triple}
use denote.Triple.Spec.{triple_of}
use denote.Triple.Clauses.{Clauses, Ended, Lasts, at_exit, closing}
use denote.Triple.Table.{entered}
use denote.Triple.Walked.{says, Stay, Stays, stay_none, stay_none_slice, stay_slice, gave_slice, Fit, on_exit, walk_of, ends_at, walked, Goes, AllGo, Goes-none, Goes-none_slice, Goes-slice, Goes-gave_slice, walk_Meets}
use Rattle.walks.proofs.Holds.{Elem, Hold, items, tokens, owned_all, enters, leaves}
use Rattle.walks.proofs.Locals.{Cell, free, has, Here, Local', held, got, local_good, Blocks, env_of, holding, Starts₀}
use Rattle.walks.proofs.Walk.{Run, End, fn, result, begins, ends}

pub record Site (M : Type 1) : Type 2 where
  pub 𝓤 : Ura M
  pub 𝓛 : Logic 𝓤
  pub 𝓣 : Tables 𝓤 𝓛.H
  pub mem : Memory → SProp 𝓤
  pub run : Routine → Fun 𝓤

-- ---- the parameters
pub record Kind {n : ℕ} (s : Slot n) (k : Kept) : Type 2 where
  pub stay : Stay s k
  pub vals : (κs : Lfts n) → (s.row κs).Denot → List Val
  pub tells : (κs : Lfts n) → Tells (s.row κs) (Is (s.row κs)) (vals κs)
  pub lawful : {M : Type 1} {𝓤 : Ura M} (𝓛 : Logic 𝓤) → (κs : Lfts n) → Lawful 𝓛 (s.row κs)
  pub goes : {M : Type 1} {𝓤 : Ura M} (𝓛 : Logic 𝓤) → Goes 𝓛 n s k stay

abbrev pub by_value : {n : ℕ} (D : Elem) → Kind {n = n} (plain (λ _. D.R)) yes
by_value {n} D = record {
  stay = stay_none (λ _. D.R) yes;
  vals = λ κs x. D.val x ∷ [];
  tells = λ κs. D.tells;
  lawful = λ 𝓛 κs. D.lawful 𝓛;
  goes = λ 𝓛. Goes-none 𝓛 n (λ _. D.R) yes (λ κs x f. D.still x f);
}

abbrev pub shared : {n : ℕ} (D : Elem) (j : ℕ) (ok : AllWithin n (j ∷ [])) → Kind {n = n} (shr_slice_of (j ∷ []) ok (plain (λ _. D.R))) yes
shared {n} D j ok = record {
  stay = stay_none_slice (j ∷ []) ok (plain (λ _. D.R)) yes;
  vals = λ κs. shr_slice_vals;
  tells = λ κs. shr_slice_Tells (name_of (j ∷ [])) (meet_at n (j ∷ []) ok κs) D.R;
  lawful = λ 𝓛 κs. shr_slice_Lawful 𝓛 (name_of (j ∷ [])) (meet_at n (j ∷ []) ok κs) D.R;
  goes = λ 𝓛. Goes-none_slice 𝓛 n (j ∷ []) ok (plain (λ _. D.R)) yes;
}

abbrev pub mutable : {n : ℕ} (D : Elem) (j : ℕ) (ok : AllWithin n (j ∷ [])) → Kind {n = n} (mut_slice_of (j ∷ []) ok (plain (λ _. D.R))) yes
mutable {n} D j ok = record {
  stay = stay_slice (j ∷ []) ok (plain (λ _. D.R));
  vals = λ κs. mut_slice_vals;
  tells = λ κs. mut_slice_Tells (name_of (j ∷ [])) (meet_at n (j ∷ []) ok κs) D.R;
  lawful = λ 𝓛 κs. mut_slice_Lawful 𝓛 (name_of (j ∷ [])) (meet_at n (j ∷ []) ok κs) D.R;
  goes = λ 𝓛. Goes-slice 𝓛 n j ok (plain (λ _. D.R));
}

-- a `&mut` that the body gives up for good, as by passing it on to a callee at its end
abbrev pub given_up : {n : ℕ} (D : Elem) (j : ℕ) (ok : AllWithin n (j ∷ [])) → Kind {n = n} (mut_slice_of (j ∷ []) ok (plain (λ _. D.R))) yes
given_up {n} D j ok = record {
  stay = gave_slice (j ∷ []) ok (plain (λ _. D.R));
  vals = λ κs. mut_slice_vals;
  tells = λ κs. mut_slice_Tells (name_of (j ∷ [])) (meet_at n (j ∷ []) ok κs) D.R;
  lawful = λ 𝓛 κs. mut_slice_Lawful 𝓛 (name_of (j ∷ [])) (meet_at n (j ∷ []) ok κs) D.R;
  goes = λ 𝓛. Goes-gave_slice 𝓛 n j ok (plain (λ _. D.R));
}

module _ {n : ℕ} where
  abbrev pub Kinds : (ss : List (Slot n)) → Kepts ss → Type 2
  Kinds [] ks = Unit {2}
  Kinds (s ∷ ss) ks = Kind s ks.0 × Kinds ss ks.1

  abbrev pub stays : (ss : List (Slot n)) (ks : Kepts ss) → Kinds ss ks → Stays ss ks
  stays [] ks ps = tt
  stays (s ∷ ss) ks ps = (ps.0.stay, stays ss ks.1 ps.1)

  abbrev spells : (ss : List (Slot n)) (ks : Kepts ss) → Kinds ss ks → (κs : Lfts n) → Spells (types_at ss κs)
  spells [] ks ps κs = tt
  spells (s ∷ ss) ks ps κs = (ps.0.vals κs, spells ss ks.1 ps.1 κs)

  abbrev tell : (ss : List (Slot n)) (ks : Kepts ss) (ps : Kinds ss ks) (κs : Lfts n) → Tellss (types_at ss κs) (Ises (types_at ss κs)) (spells ss ks ps κs)
  tell [] ks ps κs = tt
  tell (s ∷ ss) ks ps κs = (ps.0.tells κs, tell ss ks.1 ps.1 κs)

  abbrev laws : {M : Type 1} {𝓤 : Ura M} (𝓛 : Logic 𝓤) (ss : List (Slot n)) (ks : Kepts ss) → Kinds ss ks → (κs : Lfts n) → Lawfuls 𝓛 (types_at ss κs)
  laws 𝓛 [] ks ps κs = tt
  laws 𝓛 (s ∷ ss) ks ps κs = (ps.0.lawful 𝓛 κs, laws 𝓛 ss ks.1 ps.1 κs)

  abbrev go : {M : Type 1} {𝓤 : Ura M} (𝓛 : Logic 𝓤) (ss : List (Slot n)) (ks : Kepts ss) (ps : Kinds ss ks) → AllGo 𝓛 n ss ks (stays ss ks ps)
  go 𝓛 [] ks ps = tt
  go 𝓛 (s ∷ ss) ks ps = (ps.0.goes 𝓛, go 𝓛 ss ks.1 ps.1)

abbrev pub Params : Ended → Type 2
Params T = Kinds T.signature.params T.kept

abbrev pub stayed : (T : Ended) → Params T → Stays T.signature.params T.kept
stayed T ps = stays T.signature.params T.kept ps

-- ---- a function's body, and its exit
-- a function at one choice of what its contract binds outside: its signature, its parameters' kinds, its clauses, and y, which is the lifetimes, the shares, the bounds, the arguments, their machine values, and the ghost value
pub record Function {M : Type 1} (S : Site M) : Type 2 where
  pub T : Ended
  pub ps : Params T
  pub c : Clauses S.𝓤 T
  pub y : (walk_of S.𝓛 T (stayed T ps) c).Ghost

module _ {M : Type 1} (S : Site M) where
  abbrev pub Post : Function S → Val → SProp S.𝓤
  Post F = (walk_of S.𝓛 F.T (stayed F.T F.ps) F.c).post F.y

  -- what a walk shows: from the arguments vs, and what is held of them, the body runs to the function's contract at y
  abbrev pub Walk : Function S → Fn → List Val → List Hold → Type 1
  Walk F f vs Γ = (bs : Blocks f.locals) → Run (Go {0}) S.𝓛 S.𝓣 (env_of f.locals bs) (free ∷ holding vs) Γ f.body (fn (Post F))

  pub walks : (Γ : List Hold) (f : Fn) (vs : List Val) (Kf : Val → SProp S.𝓤) → Starts₀ f.locals vs
      → ((bs : Blocks f.locals) → Run (Go {0}) S.𝓛 S.𝓣 (env_of f.locals bs) (free ∷ holding vs) Γ f.body (fn Kf))
      → ent S.𝓤 (sep S.𝓤 (tokens S.𝓛 Γ) (sem S.𝓛 (owned_all Γ))) (WpFn S.𝓤 S.𝓛.H S.𝓣.C S.𝓣.Λ f vs Kf)
  walks Γ f vs Kf wt k = via S.𝓤 (⋆ S.𝓛 (items Γ)) (enters S.𝓛 Γ) (begins ! f vs Kf wt k).prf

-- `return`, where the `ensures` is a fact φ: it is shown, and what the types own at exit is what is held. r is the result, ws the last values. The tuple says what the MIR and the contract are about: `(tt, tt, refl, refl, refl, refl)`
pub returns : {M : Type 1} {K : Type 0} {S : Site M} {E : List Local'} {ss : List Cell} {Γ : List Hold} {e : End S.𝓤}
    → K → (F : Function S) (D : Elem) (r : D.R.Denot) (r' : Res F.T.signature F.y.0.0) (ws : Lasts F.T F.y.0.0 F.y.0.3) (φ : Type 0)
    → local_good E ss 0 [] × Here ss × (held ss 0 ≡ has (D.val r)) × (result e ≡ Post S F) × ((F.c F.y.0.0 F.y.0.3).ensures F.y.1 r' (at_exit F.T F.y.0.0 F.y.0.3 ws) ≡ fact S.𝓤 φ)
    × (sep S.𝓤 (tokens S.𝓛 Γ) (sep S.𝓤 (sem S.𝓛 (owned_all Γ)) (sem S.𝓛 (D.R.own_val r (D.val r ∷ []))))
    ≡ on_exit S.𝓛 F.T (stayed F.T F.ps) F.y.0.0 F.y.0.1 F.y.0.4 (D.val r) r' F.y.0.3 ws)
    → Is D.R r (D.val r ∷ []) → Fit F.T (stayed F.T F.ps) F.y.0.0 F.y.0.3 ws → φ → Run K S.𝓛 S.𝓣 E ss Γ return e
returns {M} {K} {S} {E} {ss} {Γ} {e} t F D r r' ws φ g is fits said =
    let 𝓤 = S.𝓤 in
    let Out : SProp 𝓤 = on_exit S.𝓛 F.T (stayed F.T F.ps) F.y.0.0 F.y.0.1 F.y.0.4 (D.val r) r' F.y.0.3 ws in
    ends t g.0 g.1 (subst (λ (Kf : Val → SProp 𝓤). Seq K S.𝓛 (items Γ) (prop (Kf (got (held ss 0))))) (sym g.3) (subst (λ (s : Cell). Seq K S.𝓛 (items Γ) (prop (Post S F (got s)))) (sym g.2)
    (suffices t _ (ends_at S.𝓛 F.T (stayed F.T F.ps) F.c F.y (D.val r) r' ws fits) $ by t (subst (λ (P : SProp 𝓤). ent 𝓤 (⋆ S.𝓛 (items Γ)) (sep 𝓤 Out P)) (sym g.4)
    (let s : Seq K S.𝓛 (items Γ) (prop (sep 𝓤 Out (fact 𝓤 φ))) = says t said $ by t (subst (λ (P : SProp 𝓤). ent 𝓤 (⋆ S.𝓛 (items Γ)) P) g.5 (leaves S.𝓛 Γ D r is)) in s.prf)))))

-- ---- the statement
module _ {M : Type 1} {𝓤 : Ura M} (𝓛 : Logic 𝓤) (𝓜 : Model 𝓤 𝓛.H) (𝓡 : Running 𝓤 𝓛.H 𝓜) where
  open 𝓛 use {H}

  abbrev pub site : Site M
  site = record { 𝓤 = 𝓤; 𝓛 = 𝓛; 𝓣 = tables_of 𝓤 H 𝓜 (tables 𝓤 H 𝓜 𝓡 𝓡.env); mem = 𝓜.mem; run = 𝓡.returns }

  pub closes : (T : Ended) (ps : Params T) (c : Clauses 𝓤 T) (key : Callee) (f : Fn) → Closed 𝓤 H (tables 𝓤 H 𝓜 𝓡 𝓡.env).C (tables 𝓤 H 𝓜 𝓡 𝓡.env).Λ key f
      → ((κs : Lfts T.signature.lifetimes) (qs : Shares T.signature.lifetimes) (bounds : AllOutlive T.signature.lifetimes T.signature.outlives κs) (a : Args T.signature κs) (g : (c κs a).ghost)
      → Are (types_at T.signature.params κs) (Ises (types_at T.signature.params κs)) a (valss (types_at T.signature.params κs) (spells T.signature.params T.kept ps κs) a)
      → Typed (mirs (types_at T.signature.params κs)) (flat (types_at T.signature.params κs) (valss (types_at T.signature.params κs) (spells T.signature.params T.kept ps κs) a))
      → ent 𝓤 (sep 𝓤 (on_entry 𝓛 T.signature κs qs a (valss (types_at T.signature.params κs) (spells T.signature.params T.kept ps κs) a)) ((c κs a).requires g))
      (WpFn 𝓤 H site.𝓣.C site.𝓣.Λ f (flat (types_at T.signature.params κs) (valss (types_at T.signature.params κs) (spells T.signature.params T.kept ps κs) a))
      ((walk_of 𝓛 T (stayed T ps) c).post ((κs, qs, bounds, a, valss (types_at T.signature.params κs) (spells T.signature.params T.kept ps κs) a), g))))
      → Triple 𝓤 ((tables 𝓤 H 𝓜 𝓡 𝓡.env).C key) (triple_of 𝓛 T.signature (closing 𝓛 T c))
  unfolding tables_of
  closes T ps c key f closed walk =
      entered 𝓤 H (triple_of 𝓛 T.signature (closing 𝓛 T c)) (tables 𝓤 H 𝓜 𝓡 𝓡.env).C (tables 𝓤 H 𝓜 𝓡 𝓡.env).Λ key f closed
      (walk_Meets 𝓛 T (stayed T ps) (go 𝓛 T.signature.params T.kept ps) c (WpFn 𝓤 H site.𝓣.C site.𝓣.Λ f) (WpFn-mono 𝓤 H 𝓛.laws site.𝓣 f)
      (walked 𝓛 T (stayed T ps) c (WpFn 𝓤 H site.𝓣.C site.𝓣.Λ f) (spells T.signature.params T.kept ps) (tell T.signature.params T.kept ps)
      (λ κs qs bounds a g are. walk κs qs bounds a g are (all_Typed 𝓛 (types_at T.signature.params κs) (laws 𝓛 T.signature.params T.kept ps κs) a _ are))))

-- a contract with no `requires`
pub always : {M : Type 1} (𝓤 : Ura M) {P Q : SProp 𝓤} → ent 𝓤 P Q → ent 𝓤 (sep 𝓤 P (emp 𝓤)) Q
always 𝓤 {P} h = via 𝓤 P (fst∗ 𝓤 P (emp 𝓤)) h
