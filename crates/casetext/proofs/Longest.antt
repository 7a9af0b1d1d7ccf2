-- What the writer promises of schedules happens: the longest text, one byte more, and each other refusal.
-- Assumes nothing.
use Prim.Native.Nat.{ℕ, zero, suc, ◌+◌, ◌*◌, ◌≤◌}
use native.Mathlib.Omega.{arith}
use mathlib.Core.Bool.{true, false}
use mathlib.Core.Path.{◌≡◌, refl, sym, ap, ◌∙◌}
use mathlib.Core.List.{List, [], ◌∷◌, ◌++◌}
use lib.ListN.{length, replicate, length-append, length-replicate}
use Rattle.rules.specs.declared.Call.TheVariants.{Ask}
use Rattle.store.specs.Schedules.{is_nine, call_of}
use Rattle.casetext.specs.Numerals.{numeral}
use Rattle.casetext.specs.Layout.{entry, head_text, do_text, do_texts}
use Rattle.casetext.specs.Written.{some_nine, schedule_text, written}
use Rattle.casetext.specs.Answers.{written_number, written_bytes}
use Rattle.casetext.specs.RoundTrips.{WriterHappens}
use Rattle.std.specs.Prelude.{Ok, Err}
use Rattle.rules.specs.declared.Refusal.TheVariants.{NoCall, TooLong, TooManyLines}
use Rattle.casetext.proofs.Measures.{size_one, size_at, head_size, ask_size, do_size}
use Rattle.casetext.proofs.Schedules.{lines}
use Rattle.casetext.proofs.Refusals.{refused_as, written_as, refuses_9, refuses_13, refuses_11_long, refuses_11_short, refuses_none}

-- The same entry so many times.
module _ (e : ℕ) where
  repeated_none : is_nine e ≡ false → (m : ℕ) → some_nine (replicate m e) ≡ false
  repeated_none h zero = refl
  repeated_none h (suc m) = rw h (repeated_none h m)

  repeated_size : length (do_text (call_of e)) ≡ 16 → (m : ℕ) → length (lines (replicate m e)) ≡ m * 16
  unfolding do_texts
  repeated_size h zero = omega arith
  repeated_size h (suc m) = omega (arith, h, length-append (do_text (call_of e)) (lines (replicate m e)), repeated_size h m)

-- An ask of 16 bytes, and how long the text of so many of them is.
abbrev asked : ℕ
asked = entry 1 10 65535

asked_size : length (do_text (call_of asked)) ≡ 16
asked_size =
    omega (arith, do_size (Ask 10 65535), ask_size 10 65535, size_at 1 10 (omega arith) (omega arith), size_at 4 65535 (omega arith) (omega arith))

asks_size : (n m : ℕ) → length (schedule_text n 4294967295 (replicate m asked)) ≡ 30 + length (numeral n) + m * 16
asks_size n m =
    omega
    (arith, length-append (head_text n 4294967295) (lines (replicate m asked)), head_size n 4294967295, size_at 9 4294967295 (omega arith) (omega arith), repeated_size asked asked_size m)

-- Where m is 2,046: a number that is not written out, so that no list of so many is.
module _ (m : ℕ) (is : m ≡ 2046) (lent : List ℕ) (room : 32768 ≤ length lent) where
  few : length (replicate m asked) ≤ 2048
  few = omega (arith, length-replicate m asked)

  asks_written : written 64 4294967295 (replicate m asked) lent ≡ Ok 32768
  asks_written =
      let size : length (schedule_text 64 4294967295 (replicate m asked)) ≡ 32768 =
      omega (arith, asks_size 64 m, size_at 1 64 (omega arith) (omega arith)) in
      let none =
      refuses_none 64 4294967295 (replicate m asked) (length lent) (repeated_none asked refl m) few (omega (arith, size)) (omega (arith, size)) in
      sym (written_as 64 4294967295 (replicate m asked) lent none).0 ∙ ap Ok size

  asks_over : written 100 4294967295 (replicate m asked) lent ≡ Err TooLong
  asks_over =
      let size : length (schedule_text 100 4294967295 (replicate m asked)) ≡ 32769 =
      omega (arith, asks_size 100 m, size_at 2 100 (omega arith) (omega arith)) in
      let long = refuses_11_long 100 4294967295 (replicate m asked) (length lent) (repeated_none asked refl m) few (omega (arith, size)) in
      sym (refused_as 100 4294967295 (replicate m asked) lent long).0

-- A case of nobody: the head alone.
nobody_size : length (schedule_text 0 0 []) ≡ 22
unfolding do_texts
nobody_size = omega (arith, length-append (head_text 0 0) [], head_size 0 0, size_one 0 (omega arith))

nobody : (lent : List ℕ) → 22 ≤ length lent → written 0 0 [] lent ≡ Ok 22
nobody lent room =
    let none = refuses_none 0 0 [] (length lent) refl (omega arith) (omega (arith, nobody_size)) (omega (arith, nobody_size)) in
    sym (written_as 0 0 [] lent none).0 ∙ ap Ok nobody_size

no_room : written 0 0 [] [] ≡ Err TooLong
no_room =
    let short = refuses_11_short 0 0 [] 0 refl (omega arith) (omega (arith, nobody_size)) in
    sym (refused_as 0 0 [] [] short).0

-- 2,049 steps, and a barred entry after them.
module _ (m : ℕ) (is : m ≡ 2049) (lent : List ℕ) where
  steps_many : written 1 1 (replicate m 0) lent ≡ Err TooManyLines
  steps_many =
      let many = refuses_13 1 1 (replicate m 0) (length lent) (repeated_none 0 refl m) (omega (arith, length-replicate {A = ℕ} m 0)) in
      sym (refused_as 1 1 (replicate m 0) lent many).0

last_nine : (m : ℕ) → some_nine (replicate m 0 ++ (entry 3 1 0 ∷ [])) ≡ true
last_nine zero = refl
last_nine (suc m) = last_nine m

barred_last : (m : ℕ) (lent : List ℕ) → written 1 1 (replicate m 0 ++ (entry 3 1 0 ∷ [])) lent ≡ Err NoCall
barred_last m lent =
    let es = replicate m 0 ++ (entry 3 1 0 ∷ []) in
    sym (refused_as 1 1 es lent (refuses_9 1 1 es (length lent) (last_nine m))).0

pub writer_happens : WriterHappens
writer_happens lent room = record {
  most = ap written_bytes (asks_written 2046 refl lent room);
  over = ap written_number (asks_over 2046 refl lent room);
  nobody = ap written_bytes (nobody lent (omega arith));
  no_room = ap written_number no_room;
  many = ap written_number (steps_many 2049 refl lent);
  barred = ap written_number (barred_last 2049 lent);
}
