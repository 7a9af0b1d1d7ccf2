-- How long a report can be.
-- Assumes nothing.
use Prim.Native.Nat.{ℕ, ◌+◌, ◌*◌, ◌≤◌}
use native.Mathlib.Omega.{arith}
use mathlib.Core.Path.{◌≡◌, refl}
use mathlib.Core.List.{List, [], ◌∷◌}
use lib.ListN.{length, length-append}
use Rattle.std.specs.Prelude.{Ok, Err}
use Rattle.rules.specs.Tests.{Verdict, first}
use Rattle.rules.specs.Answers.{refusal_number, number_of}
use Rattle.rules.specs.Rules.{open_refusals}
use Rattle.rules.specs.Tables.{Table, opened, record_of, Opens, Sound}
use Rattle.rules.specs.declared.Terms.{Terms}
use Rattle.rules.proofs.Laws.{opens_exactly, opening_refuses, opened_is_sound, sound_in_range}
use Rattle.store.specs.Schedules.{claimant_in, decoded, entered}
use Rattle.store.specs.Trials.{terms_of, traced}
use Rattle.store.proofs.Laws.{entry_keeps_sound, entry_answer_small}
use Rattle.casetext.specs.Words.{ascii}
use Rattle.casetext.specs.Layout.{line_text}
use Rattle.casetext.specs.Reading.{Said, reading}
use Rattle.casetext.specs.Reading.Said.{accepted, refused}
use Rattle.casetext.specs.Report.{entry_text, entries_text, refusal_text, run_text, opened_text, said_text, printed}
use Rattle.casetext.specs.Promises.{Cause, ReportFits, PrintsSomething}
use Rattle.casetext.specs.Promises.FirstBad.{line_1, line_2, line_3_on}
use Rattle.casetext.specs.Promises.Cause.{long, broken, many}
use Rattle.casetext.proofs.Measures.{numeral_short}
use Rattle.casetext.proofs.Promises.{case_few, accepted_exactly, refused_exactly}

-- The line of a do line, at the widest numbers that it can have.
entry_short : (number entry place session raised token answer : ℕ) (rest : List ℕ)
    → number ≤ 2048 → place ≤ 12 → session ≤ 65535 → raised ≤ 1 → token ≤ 4294967295 → answer ≤ 41
    → length (entry_text number entry (place ∷ session ∷ raised ∷ token ∷ answer ∷ rest)) ≤ 75
unfolding entry_text
entry_short number entry place session raised token answer rest a b c d e f =
    simp length-append
    (omega
    (arith, numeral_short 4 number (omega arith) (omega arith), numeral_short 3 (claimant_in entry) (omega arith) (omega arith), numeral_short 2 place (omega arith) (omega arith), numeral_short 5 session (omega arith) (omega arith), numeral_short 1 raised (omega arith) (omega arith), numeral_short 10 token (omega arith) (omega arith), numeral_short 2 answer (omega arith) (omega arith)))

refusal_short : (number line : ℕ) → number ≤ 13 → line ≤ 2051 → length (refusal_text number line) ≤ 153609
unfolding refusal_text
refusal_short number line a b =
    simp length-append
    (omega (arith, numeral_short 2 number (omega arith) (omega arith), numeral_short 4 line (omega arith) (omega arith)))

-- 75 bytes an entry
entries_short : {n : ℕ} {k : Terms} → k.ceiling ≤ 4294967295 → (es : List ℕ) (number : ℕ) (t : Table) → Sound n k t → number + length es ≤ 2049
    → length (entries_text number es (traced k es t)) ≤ 75 * length es
unfolding entries_text traced
entries_short ceiling [] number t s h = omega arith
entries_short {n} {k} ceiling (e ∷ es) number t s h =
    let next = (entered k (decoded e) t).table in
    let sound = entry_keeps_sound n k (decoded e) t s in
    let c = record_of next (claimant_in e) in
    let b = sound_in_range n k next sound (claimant_in e) in
    let one =
    entry_short number e c.place c.session c.choosing c.token (number_of (entered k (decoded e) t).answer) (traced k es next)
    (omega arith) b.place b.session b.choosing (omega (arith, b.token)) (entry_answer_small k e t) in
    let rest = entries_short ceiling es (number + 1) next sound (omega arith) in
    rw length-append (omega (arith, one, rest))

run_short : {n : ℕ} {k : Terms} → k.ceiling ≤ 4294967295 → (es : List ℕ) → Opens n k → length es ≤ 2048
    → length (run_text es (traced k es (opened n))) ≤ 153609
unfolding run_text
run_short {n} {k} ceiling es o h =
    rw length-append
    (omega
    (arith, entries_short ceiling es 1 (opened n) (opened_is_sound n k o) (omega arith), end_short (length es) h))
  where
    end_short : (n : ℕ) → n ≤ 2048 → length (line_text (ascii "end=") n) ≤ 9
    end_short n h = simp length-append (omega (arith, numeral_short 4 n (omega arith) (omega arith)))

-- A refused text's number and line.
pub cause_small : {s : List ℕ} {number line : ℕ} → Cause s number line → (number ≤ 13) × (line ≤ 2051)
cause_small (long a b h) = omega arith
cause_small (broken a l (line_1 b h)) = omega arith
cause_small (broken a l (line_2 n rest b h e o)) = omega arith
cause_small (broken a l (line_3_on n k ts rest b hn hk r m e o d)) = omega arith
cause_small (many a l m) = omega (arith, m.at)

said_short : (s : List ℕ) (r : Said) → reading s ≡ r → length (said_text r) ≤ 153609
unfolding said_text opened_text
said_short s (accepted n k es) e = go (first (open_refusals n (terms_of k))) refl
  where
    go : (v : Verdict) → first (open_refusals n (terms_of k)) ≡ v → length (opened_text v n k es) ≤ 153609
    go (Ok u) t =
        let c = (accepted_exactly s n k es).0 e in
        run_short {k = terms_of k} c.written.second es ((opens_exactly n (terms_of k)).0 t) (case_few c)
    go (Err r) t =
        let small = opening_refuses n (terms_of k) r t in
        refusal_short (refusal_number r) (refusal_number r) (omega arith) (omega arith)
said_short s (refused r line) e =
    let h = cause_small ((refused_exactly s r line).0 e) in
    refusal_short (refusal_number r) line h.0 h.1

pub report_fits : ReportFits
unfolding printed
report_fits s = said_short s (reading s) refl

refusal_something : (number line : ℕ) → 1 ≤ length (refusal_text number line)
unfolding refusal_text
refusal_something number line = omega arith

said_something : (r : Said) → 1 ≤ length (said_text r)
unfolding said_text opened_text run_text
said_something (accepted n k es) = go (first (open_refusals n (terms_of k)))
  where
    go : (v : Verdict) → 1 ≤ length (opened_text v n k es)
    go (Ok u) = rw length-append (omega arith)
    go (Err r) = refusal_something (refusal_number r) (refusal_number r)
said_something (refused r line) = refusal_something (refusal_number r) line

pub prints_something : PrintsSomething
unfolding printed
prints_something s = said_something (reading s)
