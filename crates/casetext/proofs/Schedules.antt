-- A schedule's entries, one by one: whether refusal 9 names one, and the do lines of their calls.
-- Assumes nothing.
use Rattle.std.proofs.lemmas.List.{drop_more}
use Prim.Native.Nat.{ℕ, zero, suc, ◌+◌, ◌*◌, ◌≤◌, ◌<◌}
use native.Mathlib.Omega.{arith}
use mathlib.Core.Bool.{true, false}
use mathlib.Core.Path.{◌≡◌, refl, sym}
use mathlib.Core.List.{List, [], ◌∷◌, ◌++◌, map}
use lib.Dec.{eqb}
use lib.ListN.{length, get_or, drop, length-append, drop_of_length-le}
use borrow.Table.Steps.{cases as decide}
use Rattle.std.specs.Prelude.{Ok, Err}
use Rattle.std.specs.Result.{is_err}
use Rattle.store.specs.Schedules.{Entry, kind_in, claimant_in, session_in, is_nine, call_of, decoded}
use Rattle.store.proofs.Laws.{entry_barred, entry_made}
use Rattle.casetext.specs.Layout.{head_text, turn_text, do_text, do_texts}
use Rattle.casetext.specs.Written.{some_nine, schedule_text}
use Rattle.casetext.specs.RoundTrips.{SomeNine, NoNine}
use Rattle.casetext.proofs.Measures.{numeral_short, head_size, ask_size, step_size, leave_size, do_size}

-- The do lines of a schedule.
abbrev pub lines : List ℕ → List ℕ
lines es = do_texts (map call_of es)

-- Decoding an entry fails just where refusal 9 names it.
pub decoded_nine : (e : ℕ) → is_err (decoded e) ≡ is_nine e
decoded_nine e = go (decoded e) refl
  where
    go : (r : Entry) → decoded e ≡ r → is_err r ≡ is_nine e
    go (Ok c) m = sym (entry_made e c m).0
    go (Err b) m = sym (entry_barred e b m)

pub some_nine_lem : (es : List ℕ) → some_nine es ≡ true → SomeNine es
some_nine_lem [] e = cc
some_nine_lem (x ∷ es) e =
    decide (is_nine x) (λ t. (0, omega arith, t))
    (λ t. let r = some_nine_lem es (rw t at e) in (suc r.0, omega (arith, r.1), r.2))

pub no_nine : (es : List ℕ) → some_nine es ≡ false → NoNine es
no_nine [] e i h = absurd (omega arith)
no_nine (x ∷ es) e zero h = decide (is_nine x) (λ t. cc (rw t at e)) (λ t. t)
no_nine (x ∷ es) e (suc i) h =
    no_nine es (decide (is_nine x) (λ t. cc (rw t at e)) (λ t. rw t at e)) i (omega arith)

-- The do lines from an entry on.
pub lines_next : (es : List ℕ) (i : ℕ) → i < length es → lines (drop i es) ≡ do_text (call_of (get_or es i 0)) ++ lines (drop (i + 1) es)
unfolding do_texts
lines_next es i h = rw (drop_more es i 0 h)

pub lines_over : (es : List ℕ) (i : ℕ) → length es ≤ i → lines (drop i es) ≡ []
unfolding do_texts
lines_over es i h = rw (drop_of_length-le es h)

-- How long they are at most: no line of a schedule is longer than 17 bytes.
call_short : (e : ℕ) → length (turn_text (call_of e)) ≤ 13
call_short e =
    let who = claimant_in e in
    let wide = numeral_short 3 who (omega arith) (omega arith) in
    decide (eqb (kind_in e) 0) (λ t. rw (t, step_size who) (omega (arith, wide)))
    (λ t.
    decide (eqb (kind_in e) 1)
    (λ u. rw (t, u, ask_size who (session_in e)) (omega (arith, wide, numeral_short 5 (session_in e) (omega arith) (omega arith))))
    (λ u. rw (t, u, leave_size who) (omega (arith, wide))))

lines_short : (es : List ℕ) → length (lines es) ≤ 17 * length es
unfolding do_texts
lines_short [] = omega arith
lines_short (e ∷ es) =
    omega (arith, length-append (do_text (call_of e)) (lines es), do_size (call_of e), call_short e, lines_short es)

pub schedule_short : (n k : ℕ) (es : List ℕ) → n ≤ 4294967295 → k ≤ 4294967295 → length (schedule_text n k es) ≤ 40 + 17 * length es
schedule_short n k es h g =
    let first = numeral_short 10 n (omega arith) (omega arith) in
    let second = numeral_short 10 k (omega arith) (omega arith) in
    omega (arith, length-append (head_text n k) (lines es), head_size n k, first, second, lines_short es)
