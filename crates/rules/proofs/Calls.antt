-- One call on a table: it is refused and nothing changes, or the caller's record moves and the others stay.
use mathlib.Core.Path.{◌≡◌, refl, ap, ◌∙◌}
use mathlib.Core.Bool.{Bool, true, false, not}
use mathlib.Core.List.{List, [], ◌∷◌}
use mathlib.Core.Logic.{◌≢◌}
use Prim.Native.Nat.{ℕ, ◌-◌, ◌≤◌}
use native.Mathlib.Omega.{arith}
use lib.Dec.{eqb}
use lib.ListN.{length, set, length-set}
use borrow.Author.Tests.{eqb-true, eqb-false, eq-eqb, ne_eqb, le-leb, not-false}
use Rattle.std.specs.Prelude.{Option, None, Some}
use Rattle.rules.specs.Tests.{◌and◌, ◌or◌, within, Listed, ◌when◌, first}
use Rattle.rules.specs.Records.{placed, with_want}
use Rattle.rules.specs.Places.{is_session, place_at, well_formed}
use Rattle.rules.specs.Answers.{refusal_number, number_of}
use Rattle.rules.specs.Rules.{refusals, unless, reached, reads, value_in, holds, stepped, asked, step_taken, left}
use Rattle.rules.specs.Tables.{Table, record_of, row_read, value_read, all_well_formed, caller, turn}
use Rattle.rules.specs.Tables.{Called, unless_refused, table_refusal, called, Opens, Sound}
use Rattle.rules.specs.declared.Claimant.{Claimant}
use Rattle.rules.specs.declared.Terms.{Terms}
use Rattle.rules.specs.declared.Turn.{Turn}
use Rattle.rules.specs.declared.Refusal.{Refusal}
use Rattle.rules.specs.declared.Refusal.TheVariants.{NoClaimant, NoSession, NotAtRest, NotInside, NoStep}
use Rattle.rules.specs.declared.Answer.TheVariants.{Refused}
use Rattle.rules.specs.declared.Call.{Call}
use Rattle.rules.specs.declared.Call.TheVariants.{Ask, Step, Leave}
use Rattle.rules.specs.declared.Register.{Register}
use Rattle.rules.specs.declared.Register.TheVariants.{Choosing, Session, Token}
use Rattle.rules.proofs.Choices.{neither, within_true, within_holds, Numbered, NoneGiven, none_refuses, first_append, judged, first_small}
use Rattle.rules.proofs.Shapes.{Formed, well_formed_lem, Bounds, ◌&◌, between}
use Rattle.rules.proofs.Moves.{Move, step_taken_lem}
use Rattle.rules.proofs.Moves.Move.{edge}
use Rattle.rules.proofs.Moves.Edge.{asks, leaves}
use Rattle.rules.proofs.Rows.{own_row, other_row, same_record, AllFormed, rows_formed, any_bounds}

-- Where each call begins: an ask at rest, for a session; a leave inside; a step anywhere else.
abbrev pub Begins : Call → Claimant → Type 0
Begins (Ask w s) c = (c.place ≡ 0) × (1 ≤ s) × (s ≤ 65535)
Begins (Step w) c = (c.place ≢ 0) × (c.place ≢ 10)
Begins (Leave w) c = c.place ≡ 10

-- The rule of a call on the caller's record: refused where the call does not begin, and else a move.
pub data Turned (n : ℕ) (k : Terms) (at : ℕ → Claimant) (call : Call) (c : Claimant) : Turn → Type 0 where
  refused : ¬ (Begins call c) → (r : Refusal) → refusal_number r ≤ 9 → Turned n k at call c (record { after = c; answer = Refused r })
  moved : {r : Turn} → Begins call c → Move n k (caller call) at c r.after → number_of r.answer ≤ 31 → Turned n k at call c r

-- What every call refuses is given to none that finds a sound table and has a row there.
none_shared : {n : ℕ} {k : Terms} {w : ℕ} {broken : Bool} → Opens n k → 1 ≤ w → w ≤ n → broken ≡ false
    → NoneGiven (refusals n k w broken [])
unfolding refusals
none_shared {n} {k} {w} o a b e = (
  ap not (within_holds 1 64 n o.some_row o.rows),
  (ne_eqb k.ceiling 0 (omega (arith, o.ceiling_set)), (e, (ap not (within_holds 1 n w a b), tt))),
)

pub shared_none : {n : ℕ} {k : Terms} {w : ℕ} {broken : Bool} → NoneGiven (refusals n k w broken [])
    → Opens n k × ((1 ≤ w) × (w ≤ n)) × (broken ≡ false)
unfolding refusals
shared_none {n} {k} {w} h =
    let l = within_true 1 64 n (not-false (within 1 64 n) h.0) in (
      record { some_row = l.0; rows = l.1; ceiling_set = omega (arith, eqb-false k.ceiling 0 h.1.0) },
      within_true 1 n w (not-false (within 1 n w) h.1.1.1.0),
      h.1.1.0,
    )

-- Then only what the call itself refuses decides.
pub first_own : {n : ℕ} {k : Terms} {w : ℕ} {broken : Bool} (own : List Listed) → Opens n k → 1 ≤ w → w ≤ n → broken ≡ false
    → first (refusals n k w broken own) ≡ first own
unfolding refusals
first_own {n} {k} {w} {broken} own o a b e =
    let shared = refusals n k w broken [] in first_append shared own ∙ rw (none_refuses shared (none_shared o a b e))

pub value_holds : (k : Terms) (r : Option Register) (d : Claimant) → Bounds k d → holds r k (value_in r d) ≡ true
value_holds k None d b = refl
value_holds k (Some (Choosing o)) d b = le-leb d.choosing 1 b.choosing
value_holds k (Some (Session o)) d b = le-leb d.session 65535 b.session
value_holds k (Some (Token o)) d b = le-leb d.token k.ceiling b.token

module _ (n : ℕ) (k : Terms) (w : ℕ) (at : ℕ → Claimant) (c : Claimant) (o : Opens n k) (a : 1 ≤ w) (b : w ≤ n) (f : Formed n k c) where
  -- What a call itself refuses is given to none that begins, and such a call makes a move.
  judge : (call : Call) {broken : Bool} (own : List Listed) (r : Turn) → broken ≡ false → Numbered 9 own → (Begins call c → NoneGiven own)
      → (NoneGiven own → Begins call c × Move n k (caller call) at c r.after × (number_of r.answer ≤ 31))
      → Turned n k at call c (unless (first (refusals n k w broken own)) c r)
  unfolding unless
  judge call own r e p h g =
      rw (first_own own o a b e)
      (judged (Turned n k at call c) r (λ x. record { after = c; answer = Refused x }) own
      (λ x. let y = g x in moved y.0 y.1 y.2)
      (λ x y e. refused (λ z. x (h z)) y (first_small 9 own p y e)))

  ask_turned : (s : ℕ) → Turned n k at (Ask w s) c (asked n k w s c)
  unfolding asked caller
  ask_turned s =
      judge (Ask w s) (NoSession when not (is_session s) ∷ NotAtRest when not (eqb c.place 0) ∷ []) (reached (placed 1 (with_want s c)))
      (ap not (well_formed_lem f)) (omega arith)
      (λ g. (ap not (within_holds 1 65535 s g.1 g.2), (ap not (eq-eqb c.place 0 g.0), tt)))
      (λ h.
      let v = within_true 1 65535 s (not-false (is_session s) h.0) in
      let p = eqb-true c.place 0 (not-false (eqb c.place 0) h.1.0) in (
        (p, v.0, v.1),
        between (λ d. Move n k w at d (placed 1 (with_want s d))) c 0 1 (omega arith) (omega arith) (edge (asks v) & tt),
        omega arith,
      ))

  step_turned : ((j : ℕ) → Bounds k (at j)) → Turned n k at (Step w) c (step_taken n k w (value_in (reads c) (at (row_read (reads c)))) c)
  unfolding step_taken caller
  step_turned h =
      let d = at (row_read (reads c)) in
      let v = value_in (reads c) d in
      let fine : (well_formed n k c and holds (reads c) k v) ≡ true =
      rw (well_formed_lem f) (value_holds k (reads c) d (h (row_read (reads c)))) in
      judge (Step w) (NoStep when (eqb c.place 0 or eqb c.place 10) ∷ []) (stepped (place_at c.place) n k w v c)
      (ap not fine) (omega arith)
      (λ e. (rw (ne_eqb c.place 0 e.0, ne_eqb c.place 10 e.1) refl, tt))
      (λ g.
      let e = neither (eqb c.place 0) (eqb c.place 10) g.0 in
      let p = eqb-false c.place 0 e.0 in
      let q = eqb-false c.place 10 e.1 in
      let s = step_taken_lem n k w at c f.has_row p q in
      ((p, q), s.move, s.small))

  leave_turned : Turned n k at (Leave w) c (left n k w c)
  unfolding left caller
  leave_turned =
      judge (Leave w) (NotInside when not (eqb c.place 10) ∷ []) (reached (placed 11 c)) (ap not (well_formed_lem f)) (omega arith)
      (λ g. (ap not (eq-eqb c.place 10 g), tt))
      (λ h.
      let p = eqb-true c.place 10 (not-false (eqb c.place 10) h.0) in
      (p, between (λ d. Move n k w at d (placed 11 d)) c 10 1 (omega arith) (omega arith) (edge leaves & tt), omega arith))

-- On a sound table, for a claimant that has a row there.
pub turned : {n : ℕ} {k : Terms} {t : Table} → Sound n k t → (c : Call) → 1 ≤ caller c → caller c ≤ n
    → Turned n k (record_of t) c (record_of t (caller c)) (turn k c t)
unfolding turn caller value_read
turned {n} {k} {t} s (Ask w v) a b = rw s.length_is (ask_turned n k w (record_of t) (record_of t w) s.opens a b (rows_formed s w a b) v)
turned {n} {k} {t} s (Step w) a b = rw s.length_is (step_turned n k w (record_of t) (record_of t w) s.opens a b (rows_formed s w a b) (any_bounds s))
turned {n} {k} {t} s (Leave w) a b = rw s.length_is (leave_turned n k w (record_of t) (record_of t w) s.opens a b (rows_formed s w a b))

-- On a sound table a call of one that has a row there is its turn, and any other call is refused with 4.
pub called_here : {n : ℕ} {k : Terms} {t : Table} → Sound n k t → (c : Call) → 1 ≤ caller c → caller c ≤ n
    → called k c t ≡ record { table = set t (caller c - 1) (turn k c t).after; answer = (turn k c t).answer }
unfolding called unless_refused table_refusal
called_here {n} {k} {t} s c a b =
    let fine : all_well_formed (length t) k t ≡ true = rw s.length_is s.well_formed in
    let o : Opens (length t) k = rw s.length_is s.opens in
    rw (none_refuses (refusals (length t) k (caller c) (not (all_well_formed (length t) k t)) [])
    (none_shared o a (omega (arith, s.length_is)) (ap not fine)))

pub called_elsewhere : {n : ℕ} {k : Terms} {t : Table} → Sound n k t → (c : Call) → within 1 n (caller c) ≡ false
    → called k c t ≡ record { table = t; answer = Refused NoClaimant }
unfolding called unless_refused table_refusal refusals first
called_elsewhere {n} {k} {t} s c e =
    let o = s.opens in
    rw (
      s.length_is,
      within_holds 1 64 n o.some_row o.rows,
      ne_eqb k.ceiling 0 (omega (arith, o.ceiling_set)),
      s.well_formed,
      e,
    )

-- The caller's record moves, among well-formed ones, and no other changes.
pub record Moves (n : ℕ) (k : Terms) (i : ℕ) (at at' : ℕ → Claimant) : Type 0 where
  pub low : 1 ≤ i
  pub high : i ≤ n
  pub all_formed : AllFormed n k at
  pub move : Move n k i at (at i) (at' i)
  pub others : (j : ℕ) → j ≢ i → at' j ≡ at j

pub own_move : {n : ℕ} {k : Terms} {w i : ℕ} {at at' : ℕ → Claimant} → i ≡ w → Moves n k w at at' → Move n k i at (at i) (at' i)
own_move e m = rw e m.move

pub data Next (n : ℕ) (k : Terms) (c : Call) (at at' : ℕ → Claimant) : Type 0 where
  still : ((j : ℕ) → at' j ≡ at j) → Next n k c at at'
  moves : Begins c (at (caller c)) → Moves n k (caller c) at at' → Next n k c at at'

module _ {n : ℕ} {k : Terms} {t : Table} (s : Sound n k t) (c : Call) (a : 1 ≤ caller c) (b : caller c ≤ n) where
  to_moves : (d : Claimant) → Move n k (caller c) (record_of t) (record_of t (caller c)) d
      → Moves n k (caller c) (record_of t) (record_of (set t (caller c - 1) d))
  to_moves d m =
      record {
        low = a;
        high = b;
        all_formed = rows_formed s;
        move = rw (own_row t (caller c) d a (omega (arith, s.length_is))) m;
        others = λ j h. other_row t (caller c) j d a h;
      }

  next_turn : {r : Turn} → Turned n k (record_of t) c (record_of t (caller c)) r → Next n k c (record_of t) (record_of (set t (caller c - 1) r.after))
  next_turn (refused h x l) = rw (same_record t (caller c) a) (still (λ j. refl))
  next_turn (moved {r} h m l) = moves h (to_moves r.after m)

  begun_turn : {r : Turn} → Begins c (record_of t (caller c)) → Turned n k (record_of t) c (record_of t (caller c)) r
      → Moves n k (caller c) (record_of t) (record_of (set t (caller c - 1) r.after))
  begun_turn h (refused g x l) = absurd (g h)
  begun_turn h (moved {r} g m l) = to_moves r.after m

  -- A call that begins is accepted.
  pub accepted : Begins c (record_of t (caller c)) → Moves n k (caller c) (record_of t) (record_of (called k c t).table)
  accepted h = rw (called_here s c a b) (begun_turn h (turned s c a b))

turn_small : {n : ℕ} {k : Terms} {at : ℕ → Claimant} {c : Call} {d : Claimant} {r : Turn} → Turned n k at c d r → number_of r.answer ≤ 41
turn_small (refused h x l) = omega arith
turn_small (moved h m l) = omega arith

module _ (k : Terms) (c : Call) (t : Table) where
  -- What holds of the turn on a sound table, and of a refused table, holds of any call.
  by_turn : (P : Called → Type 0)
      → (Sound (length t) k t → 1 ≤ caller c → caller c ≤ length t
      → P (record { table = set t (caller c - 1) (turn k c t).after; answer = (turn k c t).answer }))
      → ((r : Refusal) → refusal_number r ≤ 9 → P (record { table = t; answer = Refused r })) → P (called k c t)
  unfolding called unless_refused table_refusal refusals
  by_turn P f g =
      let all = all_well_formed (length t) k t in
      let rs = refusals (length t) k (caller c) (not all) [] in
      judged P (record { table = set t (caller c - 1) (turn k c t).after; answer = (turn k c t).answer })
      (λ r. record { table = t; answer = Refused r }) rs
      (λ h.
      let s = shared_none {broken = not all} h in
      f (record { opens = s.0; length_is = refl; well_formed = not-false all s.2 }) s.1.0 s.1.1)
      (λ h r e. g r (first_small 9 rs (omega arith) r e))

  pub next : Next (length t) k c (record_of t) (record_of (called k c t).table)
  next =
      by_turn (λ d. Next (length t) k c (record_of t) (record_of d.table))
      (λ s a b. next_turn s c a b (turned s c a b))
      (λ r l. still (λ j. refl))

  pub same_length : length (called k c t).table ≡ length t
  same_length =
      by_turn (λ d. length d.table ≡ length t) (λ s a b. length-set t (caller c - 1) (turn k c t).after) (λ r l. refl)

  pub answer_small : number_of (called k c t).answer ≤ 41
  answer_small = by_turn (λ d. number_of d.answer ≤ 41) (λ s a b. turn_small (turned s c a b)) (λ r l. omega arith)
