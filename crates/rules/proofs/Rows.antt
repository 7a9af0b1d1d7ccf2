-- The records of a table by their numbers: where one was set, in an opened table, in a sound one.
use mathlib.Core.Path.{◌≡◌, refl, ap, ◌∙◌}
use mathlib.Core.Bool.{true}
use mathlib.Core.List.{List, [], ◌∷◌, ◌++◌}
use mathlib.Core.Logic.{◌≢◌}
use Prim.Native.Nat.{ℕ, zero, suc, ◌-◌, ◌≤◌, ◌<◌}
use native.Mathlib.Omega.{arith}
use native.Mathlib.Nat.{le_of_suc-le-suc, not-suc-le-zero}
use native.Mathlib.Numerals.{unary_clauses}
use lib.Dec.{leb}
use lib.ListN.{get_or, length, set, replicate, length-replicate, get_or-eq_default}
use lib.Seq.{get_or-set_same, get_or-set_other, set-get_or}
use borrow.Author.Tests.{leb-true, leb-false}
use Rattle.rules.specs.Records.{blank}
use Rattle.rules.specs.Places.{rows, well_formed}
use Rattle.rules.specs.Tables.{Table, opened, record_of, all_well_formed, called, after, Opens, Sound}
use Rattle.rules.specs.declared.Claimant.{Claimant}
use Rattle.rules.specs.declared.Terms.{Terms}
use Rattle.rules.specs.declared.Call.{Call}
use Rattle.rules.proofs.Choices.{decide, both}
use Rattle.rules.proofs.Shapes.{Formed, formed, well_formed_lem, Bounds, bounds}

-- Claimant w's record stands at index w - 1.
pub record_at : (t : Table) (w : ℕ) → 1 ≤ w → record_of t w ≡ get_or t (w - 1) blank
unfolding record_of
record_at t zero h = absurd (omega arith)
record_at t (suc w) h = simp unary_clauses

pub own_row : (t : Table) (w : ℕ) (c : Claimant) → 1 ≤ w → w ≤ length t → record_of (set t (w - 1) c) w ≡ c
own_row t w c p q = record_at (set t (w - 1) c) w p ∙ get_or-set_same t (w - 1) c blank (omega arith)

pub other_row : (t : Table) (w j : ℕ) (c : Claimant) → 1 ≤ w → j ≢ w → record_of (set t (w - 1) c) j ≡ record_of t j
unfolding record_of
other_row t w zero c p h = refl
other_row t w (suc j) c p h = get_or-set_other t (w - 1) j c blank (omega arith)

-- A record that is written back as it was changes nothing.
pub same_record : (t : Table) (w : ℕ) → 1 ≤ w → set t (w - 1) (record_of t w) ≡ t
same_record t w p = rw (record_at t w p) (set-get_or t (w - 1) blank)

-- A number past the last row is nobody's, so a claimant that is not at rest has a row.
pub beyond : (t : Table) (i : ℕ) → length t < i → record_of t i ≡ blank
beyond t i h = record_at t i (omega arith) ∙ get_or-eq_default t blank (omega arith)

pub has_number : (t : Table) (i : ℕ) → 1 ≤ (record_of t i).place → (1 ≤ i) × (i ≤ length t)
unfolding record_of
has_number t zero h = absurd (omega arith)
has_number t (suc i) h = (
  omega arith,
  decide (leb (suc i) (length t))
      (λ e. leb-true (suc i) (length t) e)
      (λ e. absurd (omega (arith, ap (λ (c : Claimant). c.place) (beyond t (suc i) (leb-false (suc i) (length t) e))))),
)

blank_row : (n i : ℕ) → get_or (replicate n blank) i blank ≡ blank
blank_row zero i = refl
blank_row (suc n) zero = refl
blank_row (suc n) (suc i) = blank_row n i

pub opened_row : (n i : ℕ) → record_of (opened n) i ≡ blank
unfolding record_of opened
opened_row n zero = refl
opened_row n (suc i) = blank_row n i

opened_length : (n : ℕ) → length (opened n) ≡ n
unfolding opened
opened_length n = length-replicate n blank

pub after_append : (k : Terms) (cs ds : List Call) (t : Table) → after k (cs ++ ds) t ≡ after k ds (after k cs t)
unfolding after
after_append k [] ds t = refl
after_append k (c ∷ cs) ds t = after_append k cs ds (called k c t).table

-- Every record of the table is well-formed.
abbrev pub AllFormed : (n : ℕ) → Terms → (ℕ → Claimant) → Type 0
AllFormed n k at = (j : ℕ) → 1 ≤ j → j ≤ n → Formed n k (at j)

row_formed : (n : ℕ) (k : Terms) (t : Table) (i : ℕ) → all_well_formed n k t ≡ true → i < length t → Formed n k (get_or t i blank)
unfolding all_well_formed
row_formed n k [] i e h = absurd (not-suc-le-zero h)
row_formed n k (c ∷ t) zero e h = formed n k c (both (well_formed n k c) (all_well_formed n k t) e).0
row_formed n k (c ∷ t) (suc i) e h = row_formed n k t i (both (well_formed n k c) (all_well_formed n k t) e).1 (le_of_suc-le-suc h)

pub rows_formed : {n : ℕ} {k : Terms} {t : Table} → Sound n k t → AllFormed n k (record_of t)
rows_formed {n} {k} {t} s j a b =
    rw (record_at t j a) (row_formed n k t (j - 1) s.well_formed (omega (arith, s.length_is)))

-- Whatever number is looked at, its registers hold what such registers can hold.
pub any_bounds : {n : ℕ} {k : Terms} {t : Table} → Sound n k t → (j : ℕ) → Bounds k (record_of t j)
unfolding record_of
any_bounds s zero = omega arith
any_bounds {n} {k} {t} s (suc j) =
    decide (leb (suc j) n)
    (λ e. bounds (rows_formed s (suc j) (omega arith) (leb-true (suc j) n e)))
    (λ e. rw (beyond t (suc j) (omega (arith, leb-false (suc j) n e, s.length_is))) (omega arith))

all_formed : (n : ℕ) (k : Terms) (t : Table) → ((i : ℕ) → i < length t → Formed n k (get_or t i blank)) → all_well_formed n k t ≡ true
unfolding all_well_formed
all_formed n k [] h = refl
all_formed n k (c ∷ t) h = rw (well_formed_lem (h 0 (omega arith)), all_formed n k t (λ i l. h (suc i) (omega arith)))

pub sound_of : (n : ℕ) (k : Terms) (t : Table) → Opens n k → length t ≡ n → AllFormed n k (record_of t) → Sound n k t
unfolding record_of
sound_of n k t o l h =
    record {
      opens = o;
      length_is = l;
      well_formed = all_formed n k t (λ i q. h (suc i) (omega arith) (omega arith));
    }

pub opened_sound : (n : ℕ) (k : Terms) → Opens n k → Sound n k (opened n)
unfolding rows
opened_sound n k o = sound_of n k (opened n) o (opened_length n) (λ j a b. rw (opened_row n j) (omega arith))
