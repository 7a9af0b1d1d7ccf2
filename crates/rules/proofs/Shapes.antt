-- What a well-formed record holds at each place: 01's table of thirteen rows as facts on numbers.
use mathlib.Core.Path.{◌≡◌, refl}
use mathlib.Core.Bool.{true}
use mathlib.Core.Logic.{⊎_elim}
use Prim.Native.Nat.{ℕ, zero, suc, ◌+◌, ◌≤◌, ◌<◌}
use native.Mathlib.Omega.{arith}
use lib.Dec.{eqb, leb}
use lib.ListN.{get_or}
use borrow.Author.Tests.{leb-true, eqb-true, eqb-false, le-leb, eq-eqb}
use Rattle.rules.specs.Tests.{◌and◌, within}
use Rattle.rules.specs.Records.{claimant, placed}
use Rattle.rules.specs.Places.{well_formed, fits, rows, empty_row, allows}
use Rattle.rules.specs.declared.Claimant.{Claimant}
use Rattle.rules.specs.declared.Terms.{Terms}
use Rattle.rules.specs.declared.Row.{Row}
use Rattle.rules.specs.declared.Kind.{Kind}
use Rattle.rules.specs.declared.Kind.TheVariants.{Zero, Set, ZeroOrSet}
use Rattle.rules.proofs.Choices.{decide, both, either, within_true, within_holds}

-- What a kind says of a field, which is set from low to high.
abbrev pub Allowed : Kind → (low high x : ℕ) → Type 0
Allowed Zero low high x = x ≡ 0
Allowed Set low high x = (low ≤ x) × (x ≤ high)
Allowed ZeroOrSet low high x = (1 ≤ x → low ≤ x) × (x ≤ high)

abbrev pub row_at : ℕ → Row
unfolding rows
row_at p = get_or rows p empty_row

-- The six fields are of the kinds that the row gives.
pub record Fits (r : Row) (n : ℕ) (k : Terms) (choosing session token want other seen : ℕ) : Type 0 where
  pub session_fits : Allowed r.session want want session
  pub want_fits : Allowed r.want 1 65535 want
  pub choosing_fits : Allowed r.choosing 1 1 choosing
  pub token_fits : Allowed r.token 1 k.ceiling token
  pub other_fits : Allowed r.other 1 n other
  pub seen_fits : Allowed r.seen 1 k.ceiling seen

-- The record is well-formed, in a table of n rows.
pub record Formed (n : ℕ) (k : Terms) (c : Claimant) : Type 0 where
  pub has_row : c.place ≤ 12
  pub fields : Fits (row_at c.place) n k c.choosing c.session c.token c.want c.other c.seen

allowed : (a : Kind) (low high x : ℕ) → allows a low high x ≡ true → Allowed a low high x
allowed Zero low high x e = eqb-true x 0 e
allowed Set low high x e = within_true low high x e
allowed ZeroOrSet low high x e =
    ⊎_elim
    (λ h. let z = eqb-true x 0 h in omega arith)
    (λ h. let g = within_true low high x h in (λ l. g.0, g.1))
    (either (eqb x 0) (within low high x) e)

allows_it : (a : Kind) (low high x : ℕ) → Allowed a low high x → allows a low high x ≡ true
allows_it Zero low high x h = eq-eqb x 0 h
allows_it Set low high x h = within_holds low high x h.0 h.1
allows_it ZeroOrSet low high x h =
    decide (eqb x 0) (λ e. rw e) (λ e. rw (e, within_holds low high x (h.0 (omega (arith, eqb-false x 0 e))) h.1))

pub formed : (n : ℕ) (k : Terms) (c : Claimant) → well_formed n k c ≡ true → Formed n k c
unfolding well_formed fits rows
formed n k c e =
    let r = row_at c.place in
    let w = c.want in
    let a₁ = allows r.session w w c.session in
    let a₂ = allows r.want 1 65535 w in
    let a₃ = allows r.choosing 1 1 c.choosing in
    let a₄ = allows r.token 1 k.ceiling c.token in
    let a₅ = allows r.other 1 n c.other in
    let a₆ = allows r.seen 1 k.ceiling c.seen in
    let h = both (leb c.place 12) (a₁ and a₂ and a₃ and a₄ and a₅ and a₆) e in
    let h₁ = both a₁ (a₂ and a₃ and a₄ and a₅ and a₆) h.1 in
    let h₂ = both a₂ (a₃ and a₄ and a₅ and a₆) h₁.1 in
    let h₃ = both a₃ (a₄ and a₅ and a₆) h₂.1 in
    let h₄ = both a₄ (a₅ and a₆) h₃.1 in
    let h₅ = both a₅ a₆ h₄.1 in
    record {
      has_row = leb-true c.place 12 h.0;
      fields = record {
        session_fits = allowed r.session w w c.session h₁.0;
        want_fits = allowed r.want 1 65535 w h₂.0;
        choosing_fits = allowed r.choosing 1 1 c.choosing h₃.0;
        token_fits = allowed r.token 1 k.ceiling c.token h₄.0;
        other_fits = allowed r.other 1 n c.other h₅.0;
        seen_fits = allowed r.seen 1 k.ceiling c.seen h₅.1;
      };
    }

pub well_formed_lem : {n : ℕ} {k : Terms} {c : Claimant} → Formed n k c → well_formed n k c ≡ true
unfolding well_formed fits rows
well_formed_lem {n} {k} {c} f =
    let r = row_at c.place in
    let w = c.want in
    let g = f.fields in
    rw (
      le-leb c.place 12 f.has_row,
      allows_it r.session w w c.session g.session_fits,
      allows_it r.want 1 65535 w g.want_fits,
      allows_it r.choosing 1 1 c.choosing g.choosing_fits,
      allows_it r.token 1 k.ceiling c.token g.token_fits,
      allows_it r.other 1 n c.other g.other_fits,
      allows_it r.seen 1 k.ceiling c.seen g.seen_fits,
    )

-- A statement for each of the `count` numbers from `low` on: so that one goes by cases on a place's number.
abbrev pub Each : (P : ℕ → Type 0) (low count : ℕ) → Type 0
Each P low zero = Unit {0}
Each P low (suc count) = P low × Each P (suc low) count

infixr 5 ◌&◌
abbrev pub ◌&◌ : {A B : Type 0} → A → B → A × B
◌&◌ a b = (a, b)

pub each : (P : ℕ → Type 0) (low count : ℕ) → Each P low count → (p : ℕ) → low ≤ p → p < low + count → P p
each P low zero h p a b = absurd (omega arith)
each P low (suc count) h p a b =
    decide (eqb p low)
    (λ e. rw (eqb-true p low e) h.0)
    (λ e. each P (suc low) count h.1 p (omega (arith, eqb-false p low e)) (omega arith))

-- The same of records: a statement on a record whose place is one of these.
pub between : (P : Claimant → Type 0) (c : Claimant) (low count : ℕ) → low ≤ c.place → c.place < low + count
    → Each (λ p. P (placed p c)) low count → P c
between P c low count a b h = each (λ p. P (placed p c)) low count h c.place a b

-- The places 6 to 9 have one row, so a record at one of them is well-formed if it is at another.
waiting_row : (p : ℕ) → 6 ≤ p → p ≤ 9 → row_at p ≡ row_at 6
unfolding rows
waiting_row p a b = each (λ p. row_at p ≡ row_at 6) 6 4 (refl & refl & refl & refl & tt) p a (omega arith)

pub waits_formed : {n : ℕ} {k : Terms} {p p' x s t w o m : ℕ} → (6 ≤ p) × (p ≤ 9) → (6 ≤ p') × (p' ≤ 9)
    → Formed n k (claimant p x s t w o m) → Formed n k (claimant p' x s t w o m)
waits_formed {p} {p'} a b f =
    record {
      has_row = omega arith;
      fields = rw (waiting_row p' b.0 b.1) (rw (waiting_row p a.0 a.1) at f.fields);
    }

-- What the place tells of the registers, up to the inside: the closing writes do not matter.
pub record Registers (c : Claimant) : Type 0 where
  pub choosing : 3 ≤ c.place → c.place ≤ 5 → c.choosing ≡ 1
  pub session : 2 ≤ c.place → c.place ≤ 10 → c.session ≡ c.want
  pub token : 5 ≤ c.place → c.place ≤ 10 → 1 ≤ c.token

pub registers : {n : ℕ} {k : Terms} {c : Claimant} → Formed n k c → Registers c
unfolding rows
registers {n} {k} {c} f =
    record {
      choosing = λ a b. between (λ c. Formed n k c → c.choosing ≡ 1) c 3 3 a (omega arith) (omega arith) f;
      session = λ a b. between (λ c. Formed n k c → c.session ≡ c.want) c 2 9 a (omega arith) (omega arith) f;
      token = λ a b. between (λ c. Formed n k c → 1 ≤ c.token) c 5 6 a (omega arith) (omega arith) f;
    }

-- What any well-formed record's fields may hold.
pub record Bounds (k : Terms) (c : Claimant) : Type 0 where
  pub choosing : c.choosing ≤ 1
  pub session : c.session ≤ 65535
  pub token : c.token ≤ k.ceiling

pub bounds : {n : ℕ} {k : Terms} {c : Claimant} → Formed n k c → Bounds k c
unfolding rows
bounds {n} {k} {c} f =
    record {
      choosing = between (λ c. Formed n k c → c.choosing ≤ 1) c 0 13 (omega arith) (omega (arith, f.has_row)) (omega arith) f;
      session = between (λ c. Formed n k c → c.session ≤ 65535) c 0 13 (omega arith) (omega (arith, f.has_row)) (omega arith) f;
      token = between (λ c. Formed n k c → c.token ≤ k.ceiling) c 0 13 (omega arith) (omega (arith, f.has_row)) (omega arith) f;
    }
