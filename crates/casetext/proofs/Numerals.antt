-- A number's text, digit by digit, and that reading it gives the number back.
-- Assumes nothing.
use Prim.Native.Nat.{ℕ, zero, suc, ◌+◌, ◌-◌, ◌*◌, ◌/◌, ◌%◌, ◌^◌, ◌≤◌, ◌<◌}
use native.Mathlib.Numerals.{add-one}
use native.Mathlib.Omega.{arith}
use mathlib.Core.Path.{◌≡◌, refl, sym, ap, ◌∙◌}
use mathlib.Core.Bool.{true, false}
use mathlib.Core.List.{List, [], ◌∷◌, ◌++◌, append_assoc, append-nil}
use lib.Dec.{eqb, leb, ltb}
use lib.ListN.{length, get_or, drop, length-append}
use lib.Seq.{drop-cons}
use borrow.Author.Tests.{lt-ltb, le-ltb, le-leb, leb-true, ltb-true, ltb-false, ne_eqb, eqb-true, eqb-false}
use Rattle.std.specs.Fmt.{decimal}
use Rattle.std.proofs.lemmas.Fmt.{decimal_digit, decimal_step}
use Rattle.casetext.specs.Numerals.{numeral, numeral_within}
use Rattle.std.specs.Prelude.{Some}
use Rattle.std.specs.Char.{is_ascii_digit}
use Rattle.casetext.specs.Pieces.{found, digits_from, number_at}
use Rattle.casetext.specs.declared.cursor.Found.{Found}
use borrow.Table.Steps.{cases as decide}
use Rattle.casetext.proofs.Words.{byte_inside}
use Rattle.casetext.proofs.Digits.{is_digit_lem}
use Rattle.casetext.proofs.Stands.{Stands, stands_as, first_byte, byte_stands}

-- A numeral is its last digit after the numeral of what is before it, however much room there is.
within_one : (most n : ℕ) → n < 10 → numeral_within (suc most) n ≡ (48 + n) ∷ []
unfolding numeral_within
within_one most n h = let e : n % 10 ≡ n = omega arith in rw (lt-ltb n 10 h, e)

within_more : (most n : ℕ) → 10 ≤ n → numeral_within (suc most) n ≡ numeral_within most (n / 10) ++ ((48 + n % 10) ∷ [])
unfolding numeral_within
within_more most n h = rw (le-ltb n 10 h)

within_same : (a b n : ℕ) → n < a → n < b → numeral_within a n ≡ numeral_within b n
within_same zero b n h g = absurd (omega arith)
within_same (suc a) zero n h g = absurd (omega arith)
within_same (suc a) (suc b) n h g =
    decide (ltb n 10)
    (λ t. within_one a n (ltb-true _ _ t) ∙ sym (within_one b n (ltb-true _ _ t)))
    (λ t.
    let ten : 10 ≤ n = ltb-false _ _ t in
    rw (within_more a n ten, within_more b n ten, within_same a b (n / 10) (omega arith) (omega arith)))

pub numeral_one : (n : ℕ) → n < 10 → numeral n ≡ (48 + n) ∷ []
unfolding numeral
numeral_one n h = within_one n n h

pub numeral_more : (n : ℕ) → 10 ≤ n → numeral n ≡ numeral (n / 10) ++ ((48 + n % 10) ∷ [])
unfolding numeral
numeral_more n h = rw (within_more n n h, within_same n (suc (n / 10)) (n / 10) (omega arith) (omega arith))

-- one digit more, after a number that is not 0
pub numeral_digit : (v b : ℕ) → 1 ≤ v → 48 ≤ b → b ≤ 57 → numeral (v * 10 + (b - 48)) ≡ numeral v ++ (b ∷ [])
numeral_digit v b h l g =
    let q : (v * 10 + (b - 48)) / 10 ≡ v = omega arith in
    let r : 48 + (v * 10 + (b - 48)) % 10 ≡ b = omega arith in
    numeral_more (v * 10 + (b - 48)) (omega arith) ∙ rw (q, r)

-- By cases on how many digits a number has, from the last one up.
pub by_digits : (P : ℕ → Type 0) → ((n : ℕ) → n < 10 → P n) → ((n : ℕ) → 10 ≤ n → P (n / 10) → P n) → (n : ℕ) → P n
by_digits P one more n = go (suc n) n (omega arith)
  where
    go : (most n : ℕ) → n < most → P n
    go zero n h = absurd (omega arith)
    go (suc most) n h =
        decide (ltb n 10) (λ t. one n (ltb-true _ _ t))
        (λ t. let ten : 10 ≤ n = ltb-false _ _ t in more n ten (go most (n / 10) (omega arith)))

-- a number that is not 0 begins with a digit that is not 0
pub numeral_first : (n : ℕ) → 1 ≤ n → (l : List ℕ) → (49 ≤ get_or (numeral n ++ l) 0 0) × (get_or (numeral n ++ l) 0 0 ≤ 57)
numeral_first =
    by_digits (λ n. 1 ≤ n → (l : List ℕ) → (49 ≤ get_or (numeral n ++ l) 0 0) × (get_or (numeral n ++ l) 0 0 ≤ 57))
    (λ n h p l. rw (numeral_one n h) (omega arith))
    (λ n h ih p l. rw (numeral_more n h, append_assoc) (ih (omega arith) (((48 + n % 10) ∷ []) ++ l)))

-- what comes after a number is no digit
abbrev pub NoDigit : List ℕ → Type 0
NoDigit l = is_ascii_digit (get_or l 0 0) ≡ false

-- one digit read
pub digit_read : (most v at b : ℕ) (l : List ℕ) → is_ascii_digit b ≡ true → v * 10 + (b - 48) ≤ most
    → digits_from most v at (b ∷ l) ≡ digits_from most (v * 10 + (b - 48)) (suc at) l
unfolding digits_from
digit_read most v at b l d h = rw (d, le-leb _ _ h)

pub digits_over : (most v at : ℕ) (l : List ℕ) → NoDigit l → digits_from most v at l ≡ found v at
unfolding digits_from
digits_over most v at [] d = refl
digits_over most v at (b ∷ l) d = rw d

-- reading a numeral's digits comes to the number
pub digits_read : (most n : ℕ) → n ≤ most → (at : ℕ) (l : List ℕ)
    → digits_from most 0 at (numeral n ++ l) ≡ digits_from most n (at + length (numeral n)) l
digits_read most =
    by_digits (λ n. n ≤ most → (at : ℕ) (l : List ℕ) → digits_from most 0 at (numeral n ++ l) ≡ digits_from most n (at + length (numeral n)) l)
    (λ n h p at l.
    let v : 0 * 10 + (48 + n - 48) ≡ n = omega arith in
    rw (numeral_one n h, add-one at, digit_read most 0 at (48 + n) l (is_digit_lem (48 + n) (omega arith) (omega arith)) (omega arith), v))
    (λ n h ih p at l.
    let d = 48 + n % 10 in
    let m = at + length (numeral (n / 10)) in
    let v : n / 10 * 10 + (d - 48) ≡ n = omega arith in
    let e : at + length (numeral (n / 10) ++ (d ∷ [])) ≡ suc m = rw (length-append) (omega arith) in
    rw (numeral_more n h, append_assoc, e)
    (ih (omega arith) at (d ∷ l)
    ∙ digit_read most (n / 10) m d l (is_digit_lem d (omega arith) (omega arith)) (omega arith) ∙ rw v))

-- a number that stands at a place, and no digit after it, is found there
module _ (most : ℕ) {s : List ℕ} {at next : ℕ} where
  zero_found : Stands s at next (numeral 0) → number_at most s at ≡ found 0 next
  unfolding number_at
  zero_found p =
      let z = numeral_one 0 (omega arith) in
      let b : get_or s at 0 ≡ 48 = first_byte s at ∙ rw (p.text, z) in
      let e : next ≡ at + 1 = rw z at p.ends in
      rw (b, e)

  some_found : (n : ℕ) → 1 ≤ n → n ≤ most → Stands s at next (numeral n) → NoDigit (drop next s) → number_at most s at ≡ found n next
  unfolding number_at
  some_found n o h p d =
      let f = numeral_first n o (drop next s) in
      let b : get_or s at 0 ≡ get_or (numeral n ++ drop next s) 0 0 = first_byte s at ∙ rw p.text in
      rw (ne_eqb (get_or s at 0) 48 (omega arith), is_digit_lem (get_or s at 0) (omega arith) (omega arith), p.text)
      (digits_read most n h at (drop next s) ∙ rw (← p.ends) (digits_over most n next (drop next s) d))

  pub number_found : (n : ℕ) → n ≤ most → Stands s at next (numeral n) → NoDigit (drop next s) → number_at most s at ≡ found n next
  number_found n h p d =
      decide (eqb n 0)
      (λ t. let z = eqb-true n 0 t in rw z (zero_found (rw z at p)))
      (λ t. let z = eqb-false n 0 t in some_found n (omega arith) h p d)

digit_range : (b : ℕ) → is_ascii_digit b ≡ true → (48 ≤ b) × (b ≤ 57)
digit_range b e =
    decide (leb 48 b) (λ t. decide (leb b 57) (λ u. (leb-true 48 b t, leb-true b 57 u)) (λ u. cc (rw (t, u) at e)))
    (λ t. cc (rw t at e))

-- digits that were read on from a number are the end of the numeral that they come to
record ReadOn (l : List ℕ) (v at n next : ℕ) : Type 0 where
  pub digits : List ℕ
  pub text : l ≡ digits ++ drop (length digits) l
  pub whole : numeral n ≡ numeral v ++ digits
  pub ends : next ≡ at + length digits

read_on : (most : ℕ) (l : List ℕ) (v at : ℕ) {f : Found} → 1 ≤ v → digits_from most v at l ≡ Some f → ReadOn l v at f.value f.next
unfolding digits_from
read_on most [] v at {f} o e =
    let p : v ≡ f.value = cc in
    let q : at ≡ f.next = cc in
    record { digits = []; text = refl; whole = rw (append-nil, p); ends = omega arith }
read_on most (b ∷ l) v at {f} o e =
    decide (is_ascii_digit b)
    (λ d. decide (leb (v * 10 + (b - 48)) most)
    (λ m.
    let g = digit_range b d in
    let r : ReadOn l (v * 10 + (b - 48)) (suc at) f.value f.next =
    read_on most l (v * 10 + (b - 48)) (suc at) {f = f} (omega arith) (rw (d, m) at e) in
    record {
      digits = b ∷ r.digits;
      text = ap (λ (k : List ℕ). b ∷ k) {y = r.digits ++ drop (length r.digits) l} r.text;
      whole = r.whole ∙ rw (numeral_digit v b o g.0 g.1) (append_assoc (numeral v) (b ∷ []) r.digits);
      ends = omega (arith, r.ends);
    })
    (λ m. cc (rw (d, m) at e)))
    (λ d.
    let g : found v at ≡ Some f = rw d at e in
    let p : v ≡ f.value = cc in
    let q : at ≡ f.next = cc in
    record { digits = []; text = refl; whole = rw (append-nil, p); ends = omega arith })

-- the same from a first digit that is not 0
first_read : (most at b : ℕ) (l : List ℕ) {f : Found} → 49 ≤ b → b ≤ 57 → digits_from most 0 at (b ∷ l) ≡ Some f
    → (ds : List ℕ) × (l ≡ ds ++ drop (length ds) l) × (numeral f.value ≡ b ∷ ds) × (f.next ≡ at + length (b ∷ ds))
unfolding digits_from
first_read most at b l {f} lo hi e =
    let d = is_digit_lem b (omega arith) hi in
    decide (leb (0 * 10 + (b - 48)) most)
    (λ m.
    let r : ReadOn l (0 * 10 + (b - 48)) (suc at) f.value f.next =
    read_on most l (0 * 10 + (b - 48)) (suc at) {f = f} (omega arith) (rw (d, m) at e) in
    let v : 48 + (0 * 10 + (b - 48)) ≡ b = omega arith in
    (r.digits, r.text, r.whole ∙ rw (numeral_one (0 * 10 + (b - 48)) (omega arith), v), omega (arith, r.ends)))
    (λ m. cc (rw (d, m) at e))

-- a number that was found stands there
pub number_stands : (most : ℕ) (s : List ℕ) (at : ℕ) {f : Found} → number_at most s at ≡ Some f → Stands s at f.next (numeral f.value)
unfolding number_at
number_stands most s at {f} e =
    decide (eqb (get_or s at 0) 48)
    (λ t.
    let g : found 0 (at + 1) ≡ Some f = rw t at e in
    let p : 0 ≡ f.value = cc in
    let q : at + 1 ≡ f.next = cc in
    rw (← p, ← q, numeral_one 0 (omega arith)) (byte_stands s at 48 (omega arith) (eqb-true _ _ t)))
    (λ t. decide (is_ascii_digit (get_or s at 0)) (λ d. from_digit (eqb-false _ _ t) (digit_range _ d) (rw (t, d) at e))
    (λ d. cc (rw (t, d) at e)))
  where
    b : ℕ
    b = get_or s at 0

    from_digit : (b ≡ 48 → ⊥) → (48 ≤ b) × (b ≤ 57) → digits_from most 0 at (drop at s) ≡ Some f → Stands s at f.next (numeral f.value)
    from_digit other g e =
        let c : drop at s ≡ b ∷ drop (suc at) s = drop-cons s at 0 (byte_inside s at (omega arith)) in
        let r = first_read most at b (drop (suc at) s) {f = f} (omega arith) g.1 (rw c at e) in
        stands_as s at f.next (numeral f.value) (b ∷ r.0) (drop (length r.0) (drop (suc at) s)) r.2 r.3
        (c ∙ ap (λ (l : List ℕ). b ∷ l) r.1)

-- std's name for it
pub numeral_decimal : (n : ℕ) → n < 2 ^ 64 → numeral n ≡ decimal n
numeral_decimal =
    by_digits (λ n. n < 2 ^ 64 → numeral n ≡ decimal n) (λ n h w. numeral_one n h ∙ sym (decimal_digit n h))
    (λ n h ih w. numeral_more n h ∙ rw (ih (omega arith)) (sym (decimal_step n h w)))
