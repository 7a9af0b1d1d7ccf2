-- The promises of the reader, kept.
-- Assumes nothing.
use Prim.Native.Nat.{ℕ, zero, suc, ◌+◌, ◌-◌, ◌≤◌, ◌<◌}
use native.Mathlib.Omega.{arith}
use mathlib.Core.Bool.{false}
use mathlib.Core.Path.{◌≡◌, refl, sym, ap, ◌∙◌}
use mathlib.Core.List.{List, [], ◌∷◌, ◌++◌, append_assoc, append-nil, map}
use lib.Dec.{leb, ltb}
use lib.ListN.{length, get_or, drop, length-drop, length-map, drop_of_length-le}
use borrow.Author.Tests.{le-ltb, lt-ltb, ltb-true, ltb-false, leb-true, leb-false}
use Rattle.rules.specs.declared.Call.{Call}
use Rattle.rules.specs.declared.Call.TheVariants.{Ask, Step, Leave}
use Rattle.store.specs.Schedules.{kind_in, claimant_in, session_in, is_nine, call_of}
use Rattle.casetext.specs.Words.{ascii}
use Rattle.casetext.specs.Layout.{InRange, AllInRange, entry, entry_of, line_text, do_text, do_texts, head_text}
use Rattle.casetext.specs.Lines.{line_at, do_line_at}
use Rattle.casetext.specs.Reading.{Said, before, do_lines, from_line2, from_line3, reading}
use Rattle.casetext.specs.Reading.Said.{accepted, refused}
use Rattle.casetext.specs.Promises.{IsCase, NoNumberLine, NoDoLine, FirstBad, TooMany, Cause}
use Rattle.casetext.specs.Promises.{AcceptedExactly, OneReading, RefusedExactly, EntriesMade}
use Rattle.casetext.specs.Promises.FirstBad.{line_1, line_2, line_3_on}
use Rattle.casetext.specs.Promises.Cause.{long, broken, many}
use Rattle.casetext.specs.declared.cursor.Found.{Found}
use borrow.Table.Steps.{cases as decide}
use Rattle.std.specs.Prelude.{Option, None, Some}
use Rattle.rules.specs.Answers.{refusal_number}
use Rattle.rules.specs.declared.Refusal.{Refusal}
use Rattle.rules.specs.declared.Refusal.TheVariants.{TooLong, BadLine, TooManyLines}
use Rattle.casetext.specs.Pieces.{found}
use Rattle.casetext.proofs.Numbered.{same_refusal}
use Rattle.casetext.proofs.Finding.{none_found, same_found}
use Rattle.casetext.proofs.Gathering.{lines_end, lines_broken, lines_full}
use Rattle.casetext.proofs.Stands.{Stands, stands_at, rest_at}
use Rattle.casetext.proofs.Turns.{line_found, line_stands, do_found, do_stands}
use Rattle.casetext.proofs.Texts.{inside, calls_read, Run, run}
use Rattle.casetext.proofs.Texts.Run.{whole, bad, many as too_many}

-- A reading is of one kind only.
pub not_refused {ℓ} : {A : Type ℓ} {n k line : ℕ} {r : Refusal} {es : List ℕ} → accepted n k es ≡ refused r line → A
not_refused e = cc

-- Where no line fits, none is found.
no_line : (w : List ℕ) (s : List ℕ) (at : ℕ) → NoNumberLine w (drop at s) → line_at w 4294967295 s at ≡ None
no_line w s at h =
    none_found (line_at w 4294967295 s at)
    (λ f e. let r = line_stands w 4294967295 s at {f = f} e in h f.value (drop f.next s) r.0 r.1.text)

no_do_line : (s : List ℕ) (at : ℕ) → NoDoLine (drop at s) → do_line_at s at ≡ None
no_do_line s at h = none_found (do_line_at s at) (λ f e. let r = do_stands s at {f = f} e in h r.0 (drop f.next s) r.1 r.3.text)

-- where something is left, the place is before the end
before_end : (s : List ℕ) (at : ℕ) {rest : List ℕ} → drop at s ≡ rest → (rest ≡ [] → ⊥) → at < length s
before_end s at e o =
    decide (leb (length s) at) (λ t. absurd (o (sym e ∙ drop_of_length-le s (leb-true _ _ t)))) (λ t. leb-false _ _ t)

-- where nothing is left, it is not
at_end : (s : List ℕ) (at : ℕ) → drop at s ≡ [] → length s ≤ at
at_end s at e = omega (arith, sym (length-drop at s) ∙ ap length e)

-- The first two lines, where they stand.
record Head (s : List ℕ) (n k : ℕ) (rest : List ℕ) : Type 0 where
  pub second : ℕ
  pub third : ℕ
  pub found_1 : line_at (ascii "claimants=") 4294967295 s 0 ≡ found n second
  pub found_2 : line_at (ascii "ceiling=") 4294967295 s second ≡ found k third
  pub left : drop third s ≡ rest

head : (s : List ℕ) (n k : ℕ) (rest : List ℕ) → n ≤ 4294967295 → k ≤ 4294967295 → s ≡ head_text n k ++ rest → Head s n k rest
head s n k rest hn hk e =
    let a = line_text (ascii "claimants=") n in
    let b = line_text (ascii "ceiling=") k in
    let p : drop 0 s ≡ a ++ (b ++ rest) = e ∙ append_assoc a b rest in
    let q = rest_at s 0 a (b ++ rest) p in
    record {
      second = 0 + length a;
      third = 0 + length a + length b;
      found_1 = line_found (ascii "claimants=") hn (stands_at s 0 a (b ++ rest) p);
      found_2 = line_found (ascii "ceiling=") hk (stands_at s (0 + length a) b rest q);
      left = rest_at s (0 + length a) b rest q;
    }

head_read : {s : List ℕ} {n k : ℕ} {rest : List ℕ} → length s ≤ 32768 → (h : Head s n k rest) → reading s ≡ do_lines n k 2048 s h.third 3
unfolding reading
head_read {s} l h = rw (le-ltb 32768 (length s) l, h.found_1, h.found_2)

-- Do lines to the end of the text, and nothing else, are all that is read.
calls_whole : (n k : ℕ) (s : List ℕ) (ts : List Call) (places at line : ℕ) → AllInRange ts → length ts ≤ places → drop at s ≡ do_texts ts
    → do_lines n k places s at line ≡ accepted n k (map entry_of ts)
unfolding before
calls_whole n k s ts places at line h m e =
    let f : drop at s ≡ do_texts ts ++ [] = e ∙ sym (append-nil (do_texts ts)) in
    let o = at_end s (at + length (do_texts ts)) (rest_at s at (do_texts ts) [] f) in
    calls_read n k s ts places at line [] h m f
    ∙ rw (lines_end n k s (at + length (do_texts ts)) (line + length ts) (places - length ts) o, append-nil)

case_read : (s : List ℕ) (n k : ℕ) (es : List ℕ) → IsCase s n k es → reading s ≡ accepted n k es
case_read s n k es c =
    let w = c.written in
    let h = head s n k (do_texts c.calls) w.first w.second w.text in
    head_read c.short h ∙ calls_whole n k s c.calls 2048 h.third 3 w.ranged c.few h.left ∙ ap (accepted n k) (sym c.says)

-- A text with a fault is refused for it.
bad_read : (s : List ℕ) (line : ℕ) → length s ≤ 32768 → FirstBad s line → reading s ≡ refused BadLine line
unfolding reading before
bad_read s line l (line_1 e h) = rw (le-ltb 32768 (length s) l, no_line (ascii "claimants=") s 0 h, e)
bad_read s line l (line_2 n rest e hn t h) =
    let a = line_text (ascii "claimants=") n in
    let q = rest_at s 0 a rest t in
    let f = line_found (ascii "claimants=") hn (stands_at s 0 a rest t) in
    rw (le-ltb 32768 (length s) l, f, no_line (ascii "ceiling=") s (0 + length a) (rw q h), e)
bad_read s line l (line_3_on n k ts rest e hn hk h m t o d) =
    let g = head s n k (do_texts ts ++ rest) hn hk (t ∙ append_assoc (head_text n k) (do_texts ts) rest) in
    let at = g.third + length (do_texts ts) in
    let q = rest_at s g.third (do_texts ts) rest g.left in
    head_read l g ∙ calls_read n k s ts 2048 g.third 3 rest h m g.left
    ∙ rw (lines_broken n k s at (3 + length ts) (before_end s at q o) (2048 - length ts) (no_do_line s at (rw q d)), e)

many_read : (s : List ℕ) (line : ℕ) → length s ≤ 32768 → TooMany s line → reading s ≡ refused TooManyLines line
unfolding before
many_read s line l m =
    let ts = m.calls in
    let rest = do_text m.more ++ m.rest in
    let t = m.text ∙ append_assoc (head_text m.claimants m.ceiling) (do_texts ts) rest in
    let g = head s m.claimants m.ceiling (do_texts ts ++ rest) m.first m.second t in
    let at = g.third + length (do_texts ts) in
    let q = rest_at s g.third (do_texts ts) rest g.left in
    let z : 2048 - length ts ≡ 0 = omega (arith, m.many) in
    let f = do_found m.more m.in_range (stands_at s at (do_text m.more) m.rest q) in
    head_read l g ∙ calls_read m.claimants m.ceiling s ts 2048 g.third 3 rest m.ranged (omega (arith, m.many)) g.left
    ∙ rw (z, lines_full m.claimants m.ceiling s at (3 + length ts) (inside s at _ _ q) f, m.many, m.at)

-- A text with a cause is refused for it.
pub cause_read : {s : List ℕ} {number line : ℕ} → Cause s number line → (r : Refusal) × (refusal_number r ≡ number) × (reading s ≡ refused r line)
unfolding reading
cause_read {s} (long e f h) = (TooLong, sym e, rw (lt-ltb 32768 (length s) h, f))
cause_read {s} {number} {line} (broken e l b) = (BadLine, sym e, bad_read s line l b)
cause_read {s} {number} {line} (many e l m) = (TooManyLines, sym e, many_read s line l m)

-- What a reading comes to, and why.
data Verdict (s : List ℕ) (r : Said) : Type 0 where
  good : (n k : ℕ) (es : List ℕ) → r ≡ accepted n k es → IsCase s n k es → Verdict s r
  fault : (why : Refusal) (line : ℕ) → r ≡ refused why line → Cause s (refusal_number why) line → Verdict s r

module _ (s : List ℕ) (l : length s ≤ 32768) where
  of_run : (n k at : ℕ) (r : Said) → n ≤ 4294967295 → k ≤ 4294967295 → s ≡ head_text n k ++ drop at s → Run n k s 2048 at 3 r → Verdict s r
  of_run n k at r hn hk t (whole ts h m e q) =
      good n k (map entry_of ts) q (record {
        short = l;
        calls = ts;
        written = record { first = hn; second = hk; ranged = h; text = t ∙ ap (λ (x : List ℕ). head_text n k ++ x) e };
        few = m;
        says = refl;
      })
  of_run n k at r hn hk t (bad ts rest h m e o d q) =
      fault BadLine (3 + length ts) q
      (broken refl l
      (line_3_on n k ts rest refl hn hk h m
      (t ∙ ap (λ (x : List ℕ). head_text n k ++ x) e ∙ sym (append_assoc (head_text n k) (do_texts ts) rest)) o d))
  of_run n k at r hn hk t (too_many ts u rest h g m e q) =
      fault TooManyLines (3 + length ts) q
      (many refl l (record {
        claimants = n;
        ceiling = k;
        calls = ts;
        more = u;
        rest = rest;
        at = omega arith;
        first = hn;
        second = hk;
        ranged = h;
        many = m;
        in_range = g;
        text = t ∙ ap (λ (x : List ℕ). head_text n k ++ x) e ∙ sym (append_assoc (head_text n k) (do_texts ts) (do_text u ++ rest));
      }))

  from_2 : (n at : ℕ) → n ≤ 4294967295 → Stands s 0 at (line_text (ascii "claimants=") n)
      → (o : Option Found) → line_at (ascii "ceiling=") 4294967295 s at ≡ o → Verdict s (from_line3 s n o)
  from_2 n at hn p None e =
      fault BadLine 2 refl
      (broken refl l
      (line_2 n (drop at s) refl hn p.text
      (λ k after h z. cc (line_found (ascii "ceiling=") h (stands_at s at (line_text (ascii "ceiling=") k) after z)))))
  from_2 n at hn p (Some f) e =
      let r = line_stands (ascii "ceiling=") 4294967295 s at {f = f} e in
      let a = line_text (ascii "claimants=") n in
      let b = line_text (ascii "ceiling=") f.value in
      of_run n f.value f.next _ hn r.0
      (p.text ∙ ap (λ (x : List ℕ). a ++ x) r.1.text ∙ sym (append_assoc a b (drop f.next s)))
      (run n f.value s 2048 f.next 3)

  from_1 : (o : Option Found) → line_at (ascii "claimants=") 4294967295 s 0 ≡ o → Verdict s (from_line2 s o)
  from_1 None e =
      fault BadLine 1 refl
      (broken refl l
      (line_1 refl
      (λ n after h z. cc (line_found (ascii "claimants=") h (stands_at s 0 (line_text (ascii "claimants=") n) after z)))))
  from_1 (Some f) e =
      let r = line_stands (ascii "claimants=") 4294967295 s 0 {f = f} e in
      from_2 f.value f.next r.0 r.1 (line_at (ascii "ceiling=") 4294967295 s f.next) refl

verdict : (s : List ℕ) → Verdict s (reading s)
unfolding reading
verdict s =
    decide (ltb 32768 (length s))
    (λ t. rw t (fault TooLong 0 refl (long refl refl (ltb-true _ _ t))))
    (λ t. rw t (from_1 s (ltb-false _ _ t) (line_at (ascii "claimants=") 4294967295 s 0) refl))

pub accepted_exactly : AcceptedExactly
accepted_exactly s n k es = (λ e. go e (verdict s), case_read s n k es)
  where
    go : reading s ≡ accepted n k es → Verdict s (reading s) → IsCase s n k es
    go e (good n' k' es' q c) =
        let a : n' ≡ n = cc in
        let b : k' ≡ k = cc in
        let d : es' ≡ es = cc in
        rw (a, b, d) at c
    go e (fault why line q c) = cc

pub refused_exactly : RefusedExactly
refused_exactly s r line = (
  (λ e. go e (verdict s)),
  λ c. let q = cause_read c in let e : q.0 ≡ r = same_refusal q.0 r q.1 in rw e at q.2,
)
  where
    go : reading s ≡ refused r line → Verdict s (reading s) → Cause s (refusal_number r) line
    go e (good n k es q c) = cc
    go e (fault why at q c) =
        let a : why ≡ r = cc in
        let b : at ≡ line = cc in
        rw (a, b) at c

pub case_few : {s : List ℕ} {n k : ℕ} {es : List ℕ} → IsCase s n k es → length es ≤ 2048
case_few c = omega (arith, c.few, ap length c.says ∙ length-map c.calls entry_of)

-- An entry says which call it is of.
one_call : (t u : Call) → InRange t → InRange u → entry_of t ≡ entry_of u → t ≡ u
unfolding InRange entry_of
one_call (Ask w s) (Ask v r) h g e =
    let a : w ≡ v = omega arith in
    let b : s ≡ r = omega arith in
    rw (a, b)
one_call (Ask w s) (Step v) h g e = absurd (omega arith)
one_call (Ask w s) (Leave v) h g e = absurd (omega arith)
one_call (Step w) (Ask v r) h g e = absurd (omega arith)
one_call (Step w) (Step v) h g e = let a : w ≡ v = omega arith in rw a
one_call (Step w) (Leave v) h g e = absurd (omega arith)
one_call (Leave w) (Ask v r) h g e = absurd (omega arith)
one_call (Leave w) (Step v) h g e = absurd (omega arith)
one_call (Leave w) (Leave v) h g e = let a : w ≡ v = omega arith in rw a

one_schedule : (ts us : List Call) → AllInRange ts → AllInRange us → map entry_of ts ≡ map entry_of us → ts ≡ us
unfolding AllInRange
one_schedule [] [] h g e = refl
one_schedule [] (u ∷ us) h g e = cc
one_schedule (t ∷ ts) [] h g e = cc
one_schedule (t ∷ ts) (u ∷ us) h g e =
    let a : entry_of t ≡ entry_of u = cc in
    let b : map entry_of ts ≡ map entry_of us = cc in
    rw (one_call t u h.0 g.0 a, one_schedule ts us h.1 g.1 b)

pub one_reading : OneReading
one_reading s n k n' k' ts ts' w w' =
    let h = head s n k (do_texts ts) w.first w.second w.text in
    let g = head s n' k' (do_texts ts') w'.first w'.second w'.text in
    let a : (n ≡ n') × (h.second ≡ g.second) = same_found (sym h.found_1 ∙ g.found_1) in
    let b : (k ≡ k') × (h.third ≡ g.third) = same_found (sym h.found_2 ∙ rw a.1 g.found_2) in
    let places = length ts + length ts' in
    let p = calls_whole 0 0 s ts places h.third 3 w.ranged (omega arith) h.left in
    let q = calls_whole 0 0 s ts' places h.third 3 w'.ranged (omega arith) (rw b.1 g.left) in
    let r : accepted 0 0 (map entry_of ts) ≡ accepted 0 0 (map entry_of ts') = sym p ∙ q in
    (a.0, b.0, one_schedule ts ts' w.ranged w'.ranged (cc))

-- The entry of a call makes that call.
abbrev Makes : (entry : ℕ) → Call → Type 0
Makes e t = (is_nine e ≡ false) × (call_of e ≡ t)

parts : (kind w s : ℕ) → w ≤ 255 → s ≤ 65535 → let e = entry kind w s in (kind_in e ≡ kind) × (claimant_in e ≡ w) × (session_in e ≡ s)
parts kind w s h g = (omega arith, omega arith, omega arith)

pub made : (t : Call) → InRange t → Makes (entry_of t) t
unfolding InRange entry_of
made (Ask w s) h = let p = parts 1 w s h.0 h.1 in rw (p.0, p.1, p.2) (refl, refl)
made (Step w) h = let p = parts 0 w 0 h (omega arith) in rw (p.0, p.1, p.2) (refl, refl)
made (Leave w) h = let p = parts 2 w 0 h (omega arith) in rw (p.0, p.1, p.2) (refl, refl)

all_first : (t : Call) (ts : List Call) → AllInRange (t ∷ ts) → InRange t
unfolding AllInRange
all_first t ts r = r.0

all_rest : (t : Call) (ts : List Call) → AllInRange (t ∷ ts) → AllInRange ts
unfolding AllInRange
all_rest t ts r = r.1

pub entries_made : EntriesMade
entries_made s n k es c i h = rw c.says (at c.calls c.written.ranged i (rw c.says at h))
  where
    at : (ts : List Call) → AllInRange ts → (i : ℕ) → i < length (map entry_of ts) → Makes (get_or (map entry_of ts) i 0) (get_or ts i (Step 0))
    at [] r i h = absurd (omega arith)
    at (t ∷ ts) r zero h = made t (all_first t ts r)
    at (t ∷ ts) r (suc i) h = at ts (all_rest t ts r) i (omega arith)
