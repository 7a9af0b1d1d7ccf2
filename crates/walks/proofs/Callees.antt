-- A callee that a walk calls, written down once: its name, its contract, what it gives, and its call as one rule of the judgement of Walk.antt.
--     Defined          a function, as the modules that are generated of it have it.        Meets      that it meets its contract, at a site.        knows      it does, where the caller's code has it
--     Value Ds D       a function by value, of parameters Ds and result D, whose contract says what the result is.        calls_to       `_d = f(..)`
--     Look D Ds R      the same where a `&[D]` stands before the parameters Ds.        looks_mut, looks_shr       `_d = f(s, ..)`, where s is hold n, a `&mut [D]` or a `&[D]`
--     Change D Ds R    the same where a `&mut [D]` stands before them, and the contract says what its list is then.        changes        `_d = f(s, ..)`, where s is hold n
-- Definitions assume nothing. The rules assume `Logic`.
use mathlib.Core.Path.{◌≡◌, refl, sym, ◌∙◌, ap, subst}
use Prim.Native.Nat.{ℕ}
use mathlib.Core.Option.{some}
use mathlib.Core.List.{List, [], ◌∷◌}
use lib.ListN.{length}
use seplogic.Ra.Ura.{Ura}
use base.Fraction.{full_share}
use mir.Syntax.{Callee, place, Opd as Operand, Body, seq, call}
use mir.Val.{Val}
use base.Logic.{SProp, ent, sep, emp}
use base.Fml.{Lft, Share, Fml, fsep}
use types.Logic.{Logic, sem}
use prog.Memory.{Memory}
use prog.Model.{Model}
use prog.Routine.{Routine}
use prog.Wired.{Code, Wired}
use contract.Lifetimes.{Lfts}
use contract.Monad.{Fun, fact}
use contract.Running.{Running, tables_of}
use denote.Exit.{yes}
use denote.Laws.{Is}
use denote.RattleType.{Denots, Valss, flat, owns}
use denote.Ref.{Bor, MutBor, at_last}
use denote.Signature.{Slot, plain, shr_slice_of, mut_slice_of, types_at}
use denote.Slice.{slice_val, shr_slice_vals, mut_slice_vals}
use denote.Triple.Clauses.{Clauses, ClausesAt, Ended, Lasts, at_exit, closing}
use denote.Triple.End.{all, lasts_of}
use denote.Triple.Entry.{Args}
use denote.Triple.Spec.{triple_of}
use denote.Triple.Statement.{Triple}
use Rattle.walks.proofs.Calls.{Known, Plains, calls}
use Rattle.walks.proofs.Close.{Site, site}
use Rattle.walks.proofs.Holds.{Elem, Hold, val, shr, mut, owned_of, hold, swap, tokens, owned_all}
use Rattle.walks.proofs.Lend.{calls_mut, renamed}
use Rattle.walks.proofs.Locals.{Cell, Local', upd, opds_good, opds_value}
use Rattle.walks.proofs.Show.{shown, calls_seeing, calls_copying}
use Rattle.walks.proofs.Slices.{type_of}
use Rattle.walks.proofs.Walk.{Run, End}

-- ---- a function, as its generated modules have it
pub record Defined (T : Ended) : Type 2 where
  pub name : Callee
  pub code : Code
  pub clauses : {M : Type 1} {𝓤 : Ura M} (𝓛 : Logic 𝓤) → (Memory → SProp 𝓤) → (Routine → Fun 𝓤) → Clauses 𝓤 T
  pub met : {M : Type 1} (𝓤 : Ura M) (𝓛 : Logic 𝓤) (𝓜 : Model 𝓤 𝓛.H) (𝓡 : Running 𝓤 𝓛.H 𝓜) → Wired 𝓡.env code
      → Triple 𝓤 (𝓡.run (𝓡.env name)) (triple_of 𝓛 T.signature (closing 𝓛 T (clauses 𝓛 𝓜.mem 𝓡.returns)))

module _ {M : Type 1} (S : Site M) {T : Ended} (d : Defined T) where
  abbrev pub clauses_of : Clauses S.𝓤 T
  clauses_of = d.clauses S.𝓛 S.mem S.run

  abbrev pub Meets : Type 1
  Meets = Known S.𝓛 S.𝓣 d.name T clauses_of

module _ {M : Type 1} {𝓤 : Ura M} (𝓛 : Logic 𝓤) (𝓜 : Model 𝓤 𝓛.H) (𝓡 : Running 𝓤 𝓛.H 𝓜) where
  pub knows : {T : Ended} (d : Defined T) → Wired 𝓡.env d.code → Meets (site 𝓛 𝓜 𝓡) d
  unfolding tables_of
  knows d wired = d.met 𝓤 𝓛 𝓜 𝓡 wired

-- ---- plain parameters, in a signature of n lifetimes
abbrev pub slots : (n : ℕ) → List Elem → List (Slot n)
slots n [] = []
slots n (D ∷ Ds) = plain (λ _. D.R) ∷ slots n Ds

abbrev pub Values : List Elem → Type 0
Values [] = Unit {0}
Values (D ∷ Ds) = D.R.Denot × Values Ds

abbrev pub holds : (Ds : List Elem) → Values Ds → List Hold
holds [] a = []
holds (D ∷ Ds) a = val D a.0 ∷ holds Ds a.1

abbrev pub machine : (Ds : List Elem) → Values Ds → List Val
machine [] a = []
machine (D ∷ Ds) a = D.val a.0 ∷ machine Ds a.1

module _ (n : ℕ) (κs : Lfts n) where
  abbrev pub args : (Ds : List Elem) → Values Ds → Denots (types_at (slots n Ds) κs)
  args [] a = tt
  args (D ∷ Ds) a = (a.0, args Ds a.1)

  abbrev pub words : (Ds : List Elem) → Values Ds → Valss (types_at (slots n Ds) κs)
  words [] a = tt
  words (D ∷ Ds) a = (D.val a.0 ∷ [], words Ds a.1)

  owns_is : (Ds : List Elem) (a : Values Ds) → owns (types_at (slots n Ds) κs) (args Ds a) (words Ds a) ≡ owned_all (holds Ds a)
  owns_is [] a = refl
  owns_is (D ∷ Ds) a = ap (λ (P : Fml). fsep (D.R.own_val a.0 (D.val a.0 ∷ [])) P) (owns_is Ds a.1)

  flat_is : (Ds : List Elem) (a : Values Ds) → flat (types_at (slots n Ds) κs) (words Ds a) ≡ machine Ds a
  flat_is [] a = refl
  flat_is (D ∷ Ds) a = ap (λ (vs : List Val). D.val a.0 ∷ vs) (flat_is Ds a.1)

tokens_none : {M : Type 1} {𝓤 : Ura M} (𝓛 : Logic 𝓤) (Ds : List Elem) (a : Values Ds) → emp 𝓤 ≡ tokens 𝓛 (holds Ds a)
tokens_none 𝓛 [] a = refl
tokens_none 𝓛 (D ∷ Ds) a = tokens_none 𝓛 Ds a.1

-- what a contract asks and says at some arguments: there is no more to it than that what is asked is had, and that what is said tells φ
abbrev pub Tells : {M : Type 1} (𝓤 : Ura M) (T : Ended) (κs : Lfts T.signature.lifetimes) (a : Args T.signature κs) → ClausesAt 𝓤 T κs → (asked : Type 0) (said : (T.signature.result.row κs).Denot → Lasts T κs a → Type 0) → Type 1
Tells 𝓤 T κs a c asked said = (g : c.ghost) × (asked → ent 𝓤 (emp 𝓤) (c.requires g)) × ((r : (T.signature.result.row κs).Denot) (ws : Lasts T κs a) → ent 𝓤 (c.ensures g r (at_exit T κs a ws)) (fact 𝓤 (said r ws)))

-- ---- a function by value
abbrev pub valued : List Elem → Elem → Ended
valued Ds D = record { signature = record { lifetimes = 0; outlives = []; params = slots 0 Ds; result = plain (λ _. D.R) }; kept = all yes (slots 0 Ds) }

pub record Value (Ds : List Elem) (D : Elem) : Type 2 where
  pub def : Defined (valued Ds D)
  pub gives : Values Ds → D.R.Denot
  pub tells : {M : Type 1} (𝓤 : Ura M) (𝓛 : Logic 𝓤) (mem : Memory → SProp 𝓤) (run : Routine → Fun 𝓤) (a : Values Ds)
      → Tells 𝓤 (valued Ds D) tt (args 0 tt Ds a) (def.clauses 𝓛 mem run tt (args 0 tt Ds a)) (Unit {0}) (λ r ws. r ≡ gives a)

module _ {M : Type 1} (S : Site M) {K : Type 0} {E : List Local'} {ss : List Cell} {Γ : List Hold} {e : End S.𝓤} {xs : List Operand} {d : ℕ} {rest : Body} where
  pub calls_to : K → {Ds : List Elem} {D : Elem} (v : Value Ds D) (a : Values Ds) → Meets S v.def → Plains (holds Ds a) → opds_good E ss xs × (opds_value E ss xs ≡ machine Ds a) × (type_of E ss d ≡ some D.τ)
      → (Is D.R (v.gives a) (D.val (v.gives a) ∷ []) → Run K S.𝓛 S.𝓣 E (upd ss d (D.val (v.gives a))) Γ rest e) → Run K S.𝓛 S.𝓣 E ss Γ (seq (call v.def.name xs (place d [])) rest) e
  calls_to t {Ds} {D} v a known plains mir k =
      let told = v.tells S.𝓤 S.𝓛 S.mem S.run a in
      calls t (holds Ds a) (valued Ds D) (clauses_of S v.def) known ((tt, tt, tt, args 0 tt Ds a, words 0 tt Ds a), told.0) D (v.gives a) (λ r. r)
      ((λ i. sep S.𝓤 (tokens_none S.𝓛 Ds a i) (sem S.𝓛 (owns_is 0 tt Ds a i))), tokens_none S.𝓛 Ds a, (λ r v. refl), told.2) (told.1 tt) plains (mir.0, mir.1 ∙ sym (flat_is 0 tt Ds a), mir.2) k

-- ---- a function that looks at a slice
abbrev pub looking : Elem → List Elem → Elem → Ended
looking D Ds R = record {
  signature = record { lifetimes = 1; outlives = []; params = shr_slice_of (0 ∷ []) tt (plain (λ _. D.R)) ∷ slots 1 Ds; result = plain (λ _. R.R) };
  kept = (yes, all yes (slots 1 Ds));
}

pub record Look (D : Elem) (Ds : List Elem) (R : Elem) : Type 2 where
  pub def : Defined (looking D Ds R)
  pub gives : List D.R.Denot → Values Ds → R.R.Denot
  pub tells : {M : Type 1} (𝓤 : Ura M) (𝓛 : Logic 𝓤) (mem : Memory → SProp 𝓤) (run : Routine → Fun 𝓤) (κs : Lfts 1) (x : Bor (List D.R.Denot)) (a : Values Ds)
      → Tells 𝓤 (looking D Ds R) κs (x, args 1 κs Ds a) (def.clauses 𝓛 mem run κs (x, args 1 κs Ds a)) (Unit {0}) (λ r ws. r ≡ gives x.now a)

module _ {M : Type 1} (S : Site M) {K : Type 0} {E : List Local'} {ss : List Cell} {Γ : List Hold} {e : End S.𝓤} {xs : List Operand} {d : ℕ} {rest : Body} where
  pub looks_mut : K → {D : Elem} {Ds : List Elem} {R : Elem} (l : Look D Ds R) (n : ℕ) {κ : Lft} {q : Share} {x : MutBor (List D.R.Denot)} {ys : List D.R.Denot} (a : Values Ds) → hold Γ n ≡ mut κ q D x ys → Meets S l.def → Plains (holds Ds a)
      → opds_good E ss xs × (opds_value E ss xs ≡ slice_val x.ref_ptr (length x.now) ∷ machine Ds a) × (type_of E ss d ≡ some R.τ)
      → (Is R.R (l.gives ys a) (R.val (l.gives ys a) ∷ []) → Run K S.𝓛 S.𝓣 E (upd ss d (R.val (l.gives ys a))) Γ rest e) → Run K S.𝓛 S.𝓣 E ss Γ (seq (call l.def.name xs (place d [])) rest) e
  looks_mut t {D} {Ds} {R} l n {κ} {q} {x} {ys} a is known plains mir k =
      calls_seeing t n D is (holds Ds a) (machine Ds a) (looking D Ds R) (clauses_of S l.def) known
      (λ κ'. (((κ', tt), (full_share, tt), tt, (shown x ys, args 1 (κ', tt) Ds a), (shr_slice_vals (shown x ys), words 1 (κ', tt) Ds a)), (l.tells S.𝓤 S.𝓛 S.mem S.run (κ', tt) (shown x ys) a).0)) R (l.gives ys a) (λ κ' r. r)
      (λ κ'. (
        (λ i. sep S.𝓤 (sep S.𝓤 (S.𝓛.A.lft κ' full_share) (tokens_none S.𝓛 Ds a i)) (sem S.𝓛 (fsep (owned_of (shr κ' full_share D (shown x ys))) (owns_is 1 (κ', tt) Ds a i)))),
        (λ i. sep S.𝓤 (S.𝓛.A.lft κ' full_share) (tokens_none S.𝓛 Ds a i)),
        (λ r v. refl),
        (l.tells S.𝓤 S.𝓛 S.mem S.run (κ', tt) (shown x ys) a).2,
        (l.tells S.𝓤 S.𝓛 S.mem S.run (κ', tt) (shown x ys) a).1 tt,
        (λ i. slice_val x.ref_ptr (length ys) ∷ flat_is 1 (κ', tt) Ds a i),
      )) plains mir k

  pub looks_shr : K → {D : Elem} {Ds : List Elem} {R : Elem} (l : Look D Ds R) (n : ℕ) {κ : Lft} {q : Share} {x : Bor (List D.R.Denot)} (a : Values Ds) → hold Γ n ≡ shr κ q D x → Meets S l.def → Plains (holds Ds a)
      → opds_good E ss xs × (opds_value E ss xs ≡ slice_val x.ref_ptr (length x.now) ∷ machine Ds a) × (type_of E ss d ≡ some R.τ)
      → (Is R.R (l.gives x.now a) (R.val (l.gives x.now a) ∷ []) → Run K S.𝓛 S.𝓣 E (upd ss d (R.val (l.gives x.now a))) Γ rest e) → Run K S.𝓛 S.𝓣 E ss Γ (seq (call l.def.name xs (place d [])) rest) e
  looks_shr t {D} {Ds} {R} l n {κ} {q} {x} a is known plains mir k =
      let told = l.tells S.𝓤 S.𝓛 S.mem S.run (κ, tt) x a in
      calls_copying t n D is (holds Ds a) (looking D Ds R) (clauses_of S l.def) known (((κ, tt), (q, tt), tt, (x, args 1 (κ, tt) Ds a), (shr_slice_vals x, words 1 (κ, tt) Ds a)), told.0) R (l.gives x.now a) (λ r. r) (
        (λ i. sep S.𝓤 (sep S.𝓤 (S.𝓛.A.lft κ q) (tokens_none S.𝓛 Ds a i)) (sem S.𝓛 (fsep (owned_of (shr κ q D x)) (owns_is 1 (κ, tt) Ds a i)))),
        (λ i. sep S.𝓤 (S.𝓛.A.lft κ q) (tokens_none S.𝓛 Ds a i)),
        (λ r v. refl),
        told.2,
        told.1 tt,
      ) plains (mir.0, mir.1 ∙ (λ i. slice_val x.ref_ptr (length x.now) ∷ sym (flat_is 1 (κ, tt) Ds a) i), mir.2) k

-- ---- a function that changes a slice
abbrev pub changing : Elem → List Elem → Elem → Ended
changing D Ds R = record {
  signature = record { lifetimes = 1; outlives = []; params = mut_slice_of (0 ∷ []) tt (plain (λ _. D.R)) ∷ slots 1 Ds; result = plain (λ _. R.R) };
  kept = (yes, all yes (slots 1 Ds));
}

pub record Change (D : Elem) (Ds : List Elem) (R : Elem) : Type 2 where
  pub def : Defined (changing D Ds R)
  pub asks : List D.R.Denot → Values Ds → Type 0
  pub leaves : List D.R.Denot → Values Ds → List D.R.Denot
  pub gives : List D.R.Denot → Values Ds → R.R.Denot
  pub tells : {M : Type 1} (𝓤 : Ura M) (𝓛 : Logic 𝓤) (mem : Memory → SProp 𝓤) (run : Routine → Fun 𝓤) (κs : Lfts 1) (x : MutBor (List D.R.Denot)) (a : Values Ds)
      → Tells 𝓤 (changing D Ds R) κs (x, args 1 κs Ds a) (def.clauses 𝓛 mem run κs (x, args 1 κs Ds a)) (asks x.now a) (λ r ws. (ws.0 ≡ leaves x.now a) × (r ≡ gives x.now a))

module _ {M : Type 1} (S : Site M) {K : Type 0} {E : List Local'} {ss : List Cell} {Γ : List Hold} {e : End S.𝓤} {xs : List Operand} {d : ℕ} {rest : Body} where
  pub changes : K → {D : Elem} {Ds : List Elem} {R : Elem} (h : Change D Ds R) (n : ℕ) {κ : Lft} {q : Share} {x : MutBor (List D.R.Denot)} {ys : List D.R.Denot} (a : Values Ds) → hold Γ n ≡ mut κ q D x ys → Meets S h.def → h.asks ys a → Plains (holds Ds a)
      → opds_good E ss xs × (opds_value E ss xs ≡ slice_val x.ref_ptr (length x.now) ∷ machine Ds a) × (type_of E ss d ≡ some R.τ)
      → (length (h.leaves ys a) ≡ length ys → Is R.R (h.gives ys a) (R.val (h.gives ys a) ∷ []) → Run K S.𝓛 S.𝓣 E (upd ss d (R.val (h.gives ys a))) (swap Γ n (mut κ q D x (h.leaves ys a))) rest e)
      → Run K S.𝓛 S.𝓣 E ss Γ (seq (call h.def.name xs (place d [])) rest) e
  changes t {D} {Ds} {R} h n {κ} {q} {x} {ys} a is known asked plains mir k =
      calls_mut t n D is (holds Ds a) (changing D Ds R) (clauses_of S h.def) known
      (λ κ' γ₁. (((κ', tt), (full_share, tt), tt, (at_last (renamed x γ₁) ys, args 1 (κ', tt) Ds a), (mut_slice_vals x, words 1 (κ', tt) Ds a)), (h.tells S.𝓤 S.𝓛 S.mem S.run (κ', tt) (at_last (renamed x γ₁) ys) a).0)) R (λ r zs. (zs ≡ h.leaves ys a) × (r ≡ h.gives ys a)) (λ κ' γ₁ r. r) (λ κ' γ₁ ws. ws.0)
      (λ κ' γ₁. (
        (λ i. sep S.𝓤 (sep S.𝓤 (S.𝓛.A.lft κ' full_share) (tokens_none S.𝓛 Ds a i)) (sem S.𝓛 (fsep (owned_of (mut κ' full_share D (renamed x γ₁) ys)) (owns_is 1 (κ', tt) Ds a i)))),
        (λ i. sep S.𝓤 (S.𝓛.A.lft κ' full_share) (tokens_none S.𝓛 Ds a i)),
        (λ r v. refl),
        (h.tells S.𝓤 S.𝓛 S.mem S.run (κ', tt) (at_last (renamed x γ₁) ys) a).2,
        (λ ws. (lasts_of (κ', tt) (slots 1 Ds) (all yes (slots 1 Ds)) (args 1 (κ', tt) Ds a) ws.1, refl)),
        (h.tells S.𝓤 S.𝓛 S.mem S.run (κ', tt) (at_last (renamed x γ₁) ys) a).1 asked,
        mir.1 ∙ (λ i. slice_val x.ref_ptr (length x.now) ∷ sym (flat_is 1 (κ', tt) Ds a) i),
      )) plains mir.0 mir.2
      (λ r zs said same rs. subst (λ (us : List D.R.Denot). Run K S.𝓛 S.𝓣 E (upd ss d (R.val r)) (swap Γ n (mut κ q D x us)) rest e) (sym said.0)
      (subst (λ (u : R.R.Denot). Run K S.𝓛 S.𝓣 E (upd ss d (R.val u)) (swap Γ n (mut κ q D x (h.leaves ys a))) rest e) (sym said.1) (k (sym (ap length said.0) ∙ same) (subst (λ (u : R.R.Denot). Is R.R u (R.val u ∷ [])) said.1 rs))))
