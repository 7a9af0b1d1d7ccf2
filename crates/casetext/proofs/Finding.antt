-- What is found, and what is not.
-- Assumes nothing.
use Prim.Native.Nat.{ℕ}
use mathlib.Core.Path.{◌≡◌, refl, ap}
use Rattle.std.specs.Prelude.{Option, None, Some}
use Rattle.casetext.specs.Pieces.{found, and_then}
use Rattle.casetext.specs.declared.cursor.Found.{Found}

pub none_found : {A : Type 0} (o : Option A) → ((x : A) → o ≡ Some x → ⊥) → o ≡ None
none_found None h = refl
none_found (Some x) h = absurd (h x refl)

-- What comes of a thing found was found of it.
pub found_of : {A B : Type 0} (o : Option A) {f : A → Option B} {y : B} → and_then o f ≡ Some y → (x : A) × (o ≡ Some x) × (f x ≡ Some y)
found_of None e = cc
found_of (Some x) e = (x, refl, e)

-- What was found twice was found once.
pub same_found : {v n v' n' : ℕ} → found v n ≡ found v' n' → (v ≡ v') × (n ≡ n')
same_found {v} {n} {v'} {n'} e =
    let f : Found = record { value = v; next = n } in
    let g : Found = record { value = v'; next = n' } in
    let r : f ≡ g = cc in
    (ap (λ (x : Found). x.value) r, ap (λ (x : Found). x.next) r)
