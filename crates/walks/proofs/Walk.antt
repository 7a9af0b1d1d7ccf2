-- The judgement in which walks are written, and its rules: about one for each kind of statement.
--     Run E ss Γ b e       with the locals as ss says, and Γ beside them, the code b runs to the end e
--     fn, arm, turn        how the code that stands around b goes on where b ends: the function's end; an arm of a branch; a turn of a loop
--     sets                 `_i = rv`
--     ifs, whiles          `if c { .. }`, and the head of a `while` in a turn
--     loops, again         a loop with what follows it, and the last statement of a turn
--     ends                 `return`, in any place
-- Assumes `Logic`.
use mathlib.Core.Path.{◌≡◌, refl, sym, subst}
use Prim.Native.Nat.{ℕ, ◌<◌}
use mathlib.Core.WellFounded.InvImage
use lib.WfN.{lt-wf_rel}
use mathlib.Core.Bool.{Bool, not}
use mathlib.Core.List.{List, [], ◌∷◌}
use lib.Dec.{T}
use seplogic.Ra.Ura.{Ura}
use mir.Syntax.{place, Opd as Operand, Rv as RValue, Body, skip, seq, assign, block, loop, cond, exit, return, Fn}
use mir.Val.{Val, vbool}
use base.Logic.{SProp}
use prog.Wp.{returns as returnsᴼ, after_seq, after_block, after_turn, Wp, at_return, WpFn, Tables}
use types.Logic.{Logic}
use types.Kit.{‵, Post, any_q, at_ret, post, Goal, prop, runs, Seq, Step, ◌$◌, move, drop}
use types.Run.{Opd, stop, from, assigns, assigns_last, first, skips, jumps, blocks, branches, returns_within, exec, Below, again as again₀, loops as loops₀}
use types.Part.{look_in}
use Rattle.walks.proofs.Holds.{Hold, items}
use Rattle.walks.proofs.Locals.{Cell, free, Here, Local', locals, held, upd, got, local_good, local_is, local_part, free_all, forgets_at, Less, Stores, Blocks, env_of, holding, Starts₀, opd_good, opd_value, rv_good, rv_value, operand, rvalue, puts, begins as begins₀}

-- ---- how the code goes on
pub data End {M : Type 1} (𝓤 : Ura M) : Type 2 where
  fn : (Val → SProp 𝓤) → End 𝓤  -- the body of a function whose result is to satisfy this
  arm : Body → End 𝓤 → End 𝓤  -- an arm of a branch, before this code
  turn : {X : Type 0} → (X → ℕ) → (X → List Cell) → (X → List Hold) → X → Body → End 𝓤 → End 𝓤  -- a turn of a loop that carries an X, begun at this one, before this code

unfoldable pub ending : {M : Type 1} {𝓤 : Ura M} (𝓛 : Logic 𝓤) (𝓣 : Tables 𝓤 𝓛.H) → List Local' → End 𝓤 → Post 𝓤 𝓛.H
ending 𝓛 𝓣 E (fn Kf) = at_ret E Kf
ending {M} {𝓤} 𝓛 𝓣 E (arm rest e) = any_q (after_seq 𝓤 𝓛.H (Wp 𝓤 𝓛.H 𝓣.C 𝓣.Λ E rest (post 𝓤 𝓛.H (ending 𝓛 𝓣 E e))) (post 𝓤 𝓛.H (ending 𝓛 𝓣 E e)))
ending {M} {𝓤} 𝓛 𝓣 E (turn μ vars has t rest e) = any_q (after_turn 𝓤 𝓛.H (Below 𝓛 (λ u v. μ u < μ v) (λ u. ‵ (locals E (vars u)) ∷ items (has u)) t)
    (after_block 𝓤 𝓛.H (after_seq 𝓤 𝓛.H (Wp 𝓤 𝓛.H 𝓣.C 𝓣.Λ E rest (post 𝓤 𝓛.H (ending 𝓛 𝓣 E e))) (post 𝓤 𝓛.H (ending 𝓛 𝓣 E e)))))

-- what the function's result is to satisfy
abbrev pub result : {M : Type 1} {𝓤 : Ura M} → End 𝓤 → Val → SProp 𝓤
result (fn Kf) = Kf
result (arm rest e) = result e
result (turn μ vars has t rest e) = result e

returned : {M : Type 1} {𝓤 : Ura M} (𝓛 : Logic 𝓤) (𝓣 : Tables 𝓤 𝓛.H) (E : List Local') (e : End 𝓤) → post 𝓤 𝓛.H (ending 𝓛 𝓣 E e) returnsᴼ ≡ at_return 𝓤 𝓛.H E (result e) returnsᴼ
unfolding ending after_turn
returned 𝓛 𝓣 E (fn Kf) = refl
returned 𝓛 𝓣 E (arm rest e) = returned 𝓛 𝓣 E e
returned 𝓛 𝓣 E (turn μ vars has t rest e) = returned 𝓛 𝓣 E e

-- ---- the judgement
pub record Run {M : Type 1} {𝓤 : Ura M} (K : Type 0) (𝓛 : Logic 𝓤) (𝓣 : Tables 𝓤 𝓛.H) (E : List Local') (ss : List Cell) (Γ : List Hold) (b : Body) (e : End 𝓤) : Type 1 where
  pub prf : Seq K 𝓛 (‵ (locals E ss) ∷ items Γ) (runs 𝓣.C 𝓣.Λ E b (ending 𝓛 𝓣 E e))

pub record Rule {M : Type 1} {𝓤 : Ura M} (K : Type 0) (𝓛 : Logic 𝓤) (𝓣 : Tables 𝓤 𝓛.H) (E : List Local') (ss' : List Cell) (Γ' : List Hold) (b' : Body) (e' : End 𝓤) (ss : List Cell) (Γ : List Hold) (b : Body) (e : End 𝓤) : Type 1 where
  pub go : Run K 𝓛 𝓣 E ss' Γ' b' e' → Run K 𝓛 𝓣 E ss Γ b e

infixr 1 ◌▸◌
abbrev pub ◌▸◌ : {M : Type 1} {𝓤 : Ura M} {𝓛 : Logic 𝓤} {K : Type 0} {𝓣 : Tables 𝓤 𝓛.H} {E : List Local'} {ss' ss : List Cell} {Γ' Γ : List Hold} {b' b : Body} {e' e : End 𝓤}
    → Rule K 𝓛 𝓣 E ss' Γ' b' e' ss Γ b e → Run K 𝓛 𝓣 E ss' Γ' b' e' → Run K 𝓛 𝓣 E ss Γ b e
r ▸ s = r.go s

module _ {M : Type 1} {𝓤 : Ura M} {𝓛 : Logic 𝓤} {K : Type 0} {𝓣 : Tables 𝓤 𝓛.H} where
  -- the function begins
  open 𝓛 use {H}

  pub begins : K → {Γ : List Hold} (f : Fn) (vs : List Val) (Kf : Val → SProp 𝓤) → Starts₀ f.locals vs
      → ((bs : Blocks f.locals) → Run K 𝓛 𝓣 (env_of f.locals bs) (free ∷ holding vs) Γ f.body (fn Kf)) → Seq K 𝓛 (items Γ) (prop (WpFn 𝓤 H 𝓣.C 𝓣.Λ f vs Kf))
  unfolding ending
  begins t f vs Kf wt k = begins₀ t 𝓣.C 𝓣.Λ f vs Kf wt (λ bs. (k bs).prf)

  module _ {E : List Local'} {ss : List Cell} {Γ : List Hold} {e : End 𝓤} where
    -- a step of ghost state
    pub ghosts : K → {Γ' : List Hold} {b : Body} → ((G : Goal 𝓤 H) → Step K 𝓛 (‵ (locals E ss) ∷ items Γ') G (‵ (locals E ss) ∷ items Γ) G) → Rule K 𝓛 𝓣 E ss Γ' b e ss Γ b e
    ghosts t s = record { go = λ r. record { prf = s _ $ r.prf } }

    -- a hold is let go
    pub drops : K → {h : Hold} {b : Body} → Rule K 𝓛 𝓣 E ss Γ b e ss (h ∷ Γ) b e
    drops t = record { go = λ r. record { prf = move t (1 ∷ []) $ drop t $ r.prf } }

    -- what some locals hold is forgotten, or said in another way
    pub forgets : K → (ss' : List Cell) {b : Body} → Less ss' ss → Rule K 𝓛 𝓣 E ss' Γ b e ss Γ b e
    forgets t ss' l = record { go = λ r. record { prf = forgets_at t E ss ss' _ (items Γ) l r.prf } }

    -- `_i = rv`
    pub sets : K → {i : ℕ} {rv : RValue} {rest : Body} → rv_good E ss rv → Stores E ss i (rv_value E ss rv) → Rule K 𝓛 𝓣 E (upd ss i (rv_value E ss rv)) Γ rest e ss Γ (seq (assign (place i []) rv) rest) e
    sets t {i} {rv} good wt = record { go = λ r. record { prf = assigns t (rvalue 𝓛 K t E ss (items Γ) rv good) (from t (stop t)) (puts 𝓛 K t E ss (items Γ) i (rv_value E ss rv) wt) $ r.prf } }

    -- `if c { a }`, and then the rest
    pub ifs : K → {c : Operand} {a rest : Body} (y : Bool) → opd_good E ss c → opd_value E ss c ≡ vbool y → (T y → Run K 𝓛 𝓣 E ss Γ a (arm rest e)) → (T (not y) → Run K 𝓛 𝓣 E ss Γ rest e) → Run K 𝓛 𝓣 E ss Γ (seq (cond c a skip) rest) e
    unfolding ending
    ifs t {c} {a} {rest} y good is held failed = record {
      prf = first t $ branches t (subst (λ (v : Val). Opd K 𝓛 (‵ (locals E ss) ∷ items Γ) E c v) is (operand 𝓛 K t E ss (items Γ) c good))
          (λ h. (held h).prf) (λ n. skips t $ exec t 𝓣.C 𝓣.Λ E rest (ending 𝓛 𝓣 E e) $ (failed n).prf);
    }

    -- `return`, in any place: the result is read, and the locals are freed
    pub ends : K → local_good E ss 0 [] → Here ss → Seq K 𝓛 (items Γ) (prop (result e (got (held ss 0)))) → Run K 𝓛 𝓣 E ss Γ return e
    ends t good here s = record {
      prf = returns_within t (result e) (returned 𝓛 𝓣 E e)
          (look_in t 0 (local_part 𝓛 K t E ss 0 (local_is E ss 0 [] good).0 (local_is E ss 0 [] good).1)) $ free_all t E ss (items Γ) (prop (result e (got (held ss 0)))) here s;
    }

    module _ {X : Type 0} {μ : X → ℕ} {vars : X → List Cell} {has : X → List Hold} {t : X} {after : Body} where
      -- the head of a `while`: the turn goes on, or the loop is left and what follows it runs
      pub whiles : K → {c : Operand} {rest : Body} (y : Bool) → opd_good E ss c → opd_value E ss c ≡ vbool y → (T y → Run K 𝓛 𝓣 E ss Γ rest (turn μ vars has t after e)) → (T (not y) → Run K 𝓛 𝓣 E ss Γ after e)
          → Run K 𝓛 𝓣 E ss Γ (seq (cond c skip (exit 1)) rest) (turn μ vars has t after e)
      unfolding ending after_turn
      whiles k {c} {rest} y good is held failed = record {
        prf = first k $ branches k (subst (λ (v : Val). Opd K 𝓛 (‵ (locals E ss) ∷ items Γ) E c v) is (operand 𝓛 K k E ss (items Γ) c good))
            (λ h. skips k $ exec k 𝓣.C 𝓣.Λ E rest (ending 𝓛 𝓣 E (turn μ vars has t after e)) $ (held h).prf) (λ n. jumps k $ exec k 𝓣.C 𝓣.Λ E after (ending 𝓛 𝓣 E e) $ (failed n).prf);
      }

      -- the last statement of a turn: the next begins at t'
      pub again : K → {i : ℕ} {rv : RValue} (t' : X) → μ t' < μ t → rv_good E ss rv → Stores E ss i (rv_value E ss rv) → Less (vars t') (upd ss i (rv_value E ss rv)) → Γ ≡ has t' → Run K 𝓛 𝓣 E ss Γ (assign (place i []) rv) (turn μ vars has t after e)
      unfolding ending after_turn
      again k {i} {rv} t' lt good wt less same = record {
        prf = assigns_last k (rvalue 𝓛 K k E ss (items Γ) rv good) (from k (stop k)) (puts 𝓛 K k E ss (items Γ) i (rv_value E ss rv) wt) $
            forgets_at k E (upd ss i (rv_value E ss rv)) (vars t') _ (items Γ) less
            (subst (λ (Δ : List Hold). Seq K 𝓛 (‵ (locals E (vars t')) ∷ items Δ) (prop (Below 𝓛 (λ u v. μ u < μ v) (λ u. ‵ (locals E (vars u)) ∷ items (has u)) t))) (sym same) (again₀ k (λ u v. μ u < μ v) (λ u. ‵ (locals E (vars u)) ∷ items (has u)) t t' lt));
      }

    -- a loop, and what follows it. It carries t: the locals are `vars t`, and `has t` is beside them; `μ t` falls with each turn
    pub loops : K → {X : Type 0} (μ : X → ℕ) (vars : X → List Cell) (has : X → List Hold) {b after : Body} (t₀ : X) → Less (vars t₀) ss → Γ ≡ has t₀
        → ((t : X) → Run K 𝓛 𝓣 E (vars t) (has t) b (turn μ vars has t after e)) → Run K 𝓛 𝓣 E ss Γ (seq (block (loop b)) after) e
    unfolding ending
    loops k μ vars has {b} {after} t₀ less same each = record {
      prf = forgets_at k E ss (vars t₀) _ (items Γ) less (subst (λ (Δ : List Hold). Seq K 𝓛 (‵ (locals E (vars t₀)) ∷ items Δ) (runs 𝓣.C 𝓣.Λ E (seq (block (loop b)) after) (ending 𝓛 𝓣 E e))) (sym same)
          (first k $ blocks k $ loops₀ k 𝓣 (λ u v. μ u < μ v) (InvImage.wf μ lt-wf_rel.wf) (λ u. ‵ (locals E (vars u)) ∷ items (has u)) (λ t. (each t).prf) t₀));
    }
