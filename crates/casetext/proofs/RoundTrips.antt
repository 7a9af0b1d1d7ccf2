-- The promises of the writer, kept.
-- Assumes nothing.
use Prim.Native.Nat.{ℕ, ◌≤◌}
use native.Mathlib.Omega.{arith}
use mathlib.Core.Bool.{true, false}
use mathlib.Core.Path.{◌≡◌, refl, sym, ap, ◌∙◌}
use mathlib.Core.Logic.{◌≢◌}
use mathlib.Core.List.{List, [], ◌∷◌, ◌++◌, map}
use lib.Dec.{eqb, ltb}
use lib.ListN.{length, take, drop, length-map}
use lib.Seq.{take_at}
use borrow.Author.Tests.{ltb-true, ltb-false, eqb-true, eqb-false, ne_eqb}
use borrow.Table.Steps.{cases as decide}
use Rattle.rules.specs.declared.Call.{Call}
use Rattle.store.specs.Schedules.{kind_in, session_in, is_nine, call_of}
use Rattle.casetext.specs.Layout.{InRange, AllInRange, entry_of}
use Rattle.casetext.specs.Answers.{written_number, written_bytes}
use Rattle.casetext.specs.Promises.{IsCase}
use Rattle.casetext.specs.Written.{some_nine, schedule_text, write_refusal, written, written_row}
use Rattle.casetext.specs.RoundTrips.{ReadsBack, WritesBack, SomeNine, NoNine, WriterCause}
use Rattle.casetext.specs.RoundTrips.{WriterRefuses, RefusedWriting, AcceptedWriting, WrittenWithin}
use Rattle.casetext.specs.RoundTrips.WriterCause.{barred, many, long, short}
use Rattle.std.specs.Prelude.{Ok, Err}
use Rattle.rules.specs.Answers.{refusal_number}
use Rattle.rules.specs.declared.Refusal.{Refusal}
use Rattle.rules.specs.declared.Refusal.TheVariants.{NoCall, TooLong, TooManyLines}
use Rattle.casetext.proofs.Gathering.{room_for_all}
use Rattle.casetext.proofs.Promises.{accepted_exactly, case_few, made}
use Rattle.casetext.proofs.Readings.{read_case}
use Rattle.casetext.proofs.Schedules.{some_nine_lem, no_nine}
use Rattle.casetext.proofs.Refusals.{refused_as, written_as, refuses_9, refuses_13, refuses_11_long, refuses_11_short, refuses_none}

-- What an entry's fields hold if refusal 9 does not name it.
fields : (e : ℕ) → is_nine e ≡ false → (kind_in e ≤ 2) × (eqb (kind_in e) 1 ≡ false → session_in e ≡ 0)
fields e h =
    decide (ltb 2 (kind_in e)) (λ t. cc (rw t at h))
    (λ t.
    (ltb-false 2 (kind_in e) t, λ o. decide (eqb (session_in e) 0) (λ z. eqb-true _ _ z) (λ z. cc (rw (t, o, z) at h))))

-- Such an entry is that of its call, which is in range ..
entry_back : (e : ℕ) → is_nine e ≡ false → InRange (call_of e) × (entry_of (call_of e) ≡ e)
unfolding InRange entry_of
entry_back e h =
    let f = fields e h in
    decide (eqb (kind_in e) 0)
    (λ a.
    let k = eqb-true (kind_in e) 0 a in
    let z = f.1 (ne_eqb (kind_in e) 1 (omega arith)) in
    rw a (omega arith, omega (arith, k, z)))
    (λ a. decide (eqb (kind_in e) 1)
    (λ b. let k = eqb-true (kind_in e) 1 b in rw (a, b) ((omega arith, omega arith), omega (arith, k)))
    (λ b.
    let z = f.1 b in
    let m = eqb-false (kind_in e) 0 a in
    let o = eqb-false (kind_in e) 1 b in
    rw (a, b) (omega arith, omega (arith, z, m, o, f.0))))

schedule_back : (es : List ℕ) → some_nine es ≡ false → AllInRange (map call_of es) × (map entry_of (map call_of es) ≡ es)
unfolding AllInRange
schedule_back [] h = (tt, refl)
schedule_back (e ∷ es) h =
    decide (is_nine e) (λ t. cc (rw t at h))
    (λ t.
    let a = entry_back e t in
    let b = schedule_back es (rw t at h) in
    ((a.0, b.0), rw (a.1, b.1)))

-- .. and calls that a text says are those of its entries, none of which refusal 9 names.
calls_back : (ts : List Call) → AllInRange ts → (some_nine (map entry_of ts) ≡ false) × (map call_of (map entry_of ts) ≡ ts)
unfolding AllInRange
calls_back [] h = (refl, refl)
calls_back (t ∷ ts) h =
    let a = made t h.0 in
    let b = calls_back ts h.1 in
    (rw (a.0, b.0), rw (a.1, b.1))

nine_some : (es : List ℕ) → SomeNine es → some_nine es ≡ true
nine_some es h = decide (some_nine es) (λ t. t) (λ t. cc (h.2, no_nine es t h.0 h.1))

nine_none : (es : List ℕ) → NoNine es → some_nine es ≡ false
nine_none es h = decide (some_nine es) (λ t. let r = some_nine_lem es t in cc (r.2, h r.0 r.1)) (λ t. t)

-- What a writing comes to, and why.
record Whole (n k : ℕ) (es lent : List ℕ) : Type 0 where
  pub none : some_nine es ≡ false
  pub few : length es ≤ 2048
  pub fits : length (schedule_text n k es) ≤ 32768
  pub room : length (schedule_text n k es) ≤ length lent

data Verdict (n k : ℕ) (es lent : List ℕ) : Type 0 where
  whole : Whole n k es lent → Verdict n k es lent
  fault : (r : ℕ) → WriterCause n k es (length lent) r → Verdict n k es lent

verdict : (n k : ℕ) (es lent : List ℕ) → Verdict n k es lent
verdict n k es lent =
    decide (some_nine es) (λ t. fault 9 (barred refl (some_nine_lem es t)))
    (λ t.
    let none = no_nine es t in
    decide (ltb 2048 (length es)) (λ u. fault 13 (many refl none (ltb-true _ _ u)))
    (λ u.
    let few = ltb-false _ _ u in
    decide (ltb 32768 (length (schedule_text n k es))) (λ v. fault 11 (long refl none few (ltb-true _ _ v)))
    (λ v.
    decide (ltb (length lent) (length (schedule_text n k es))) (λ w. fault 11 (short refl none few (ltb-true _ _ w)))
    (λ w. whole (record { none = t; few = few; fits = ltb-false _ _ v; room = ltb-false _ _ w })))))

cause_refuses : (n k : ℕ) (es : List ℕ) (room number : ℕ) → WriterCause n k es room number
    → (r : Refusal) × (refusal_number r ≡ number) × (write_refusal n k es room ≡ Err r)
cause_refuses n k es room number (barred e h) = (NoCall, sym e, refuses_9 n k es room (nine_some es h))
cause_refuses n k es room number (many e o h) = (TooManyLines, sym e, refuses_13 n k es room (nine_none es o) h)
cause_refuses n k es room number (long e o m h) = (TooLong, sym e, refuses_11_long n k es room (nine_none es o) m h)
cause_refuses n k es room number (short e o m h) = (TooLong, sym e, refuses_11_short n k es room (nine_none es o) m h)

cause_least : {n k : ℕ} {es : List ℕ} {room number : ℕ} → WriterCause n k es room number → 1 ≤ number
cause_least (barred e h) = omega arith
cause_least (many e o h) = omega arith
cause_least (long e o m h) = omega arith
cause_least (short e o m h) = omega arith

module _ (n k : ℕ) (es lent : List ℕ) where
  -- what is whole is written ..
  whole_came : Whole n k es lent
      → (written n k es lent ≡ Ok (length (schedule_text n k es)))
      × (written_row n k es lent ≡ schedule_text n k es ++ drop (length (schedule_text n k es)) lent)
  whole_came w =
      let t = written_as n k es lent (refuses_none n k es (length lent) w.none w.few w.fits w.room) in
      (sym t.0, sym t.1)

  cause_came : (number : ℕ) → WriterCause n k es (length lent) number
      → (written_number (written n k es lent) ≡ number) × (written_row n k es lent ≡ lent)
  cause_came number c =
      let p = cause_refuses n k es (length lent) number c in
      let t = refused_as n k es lent p.2 in
      (sym (ap written_number t.0) ∙ p.1, sym t.1)

  -- .. and what is not refused is whole.
  whole_of : written_number (written n k es lent) ≡ 0 → Whole n k es lent
  whole_of e = go (verdict n k es lent)
    where
      go : Verdict n k es lent → Whole n k es lent
      go (whole w) = w
      go (fault r c) = absurd (omega (arith, cause_least c, sym (cause_came r c).0 ∙ e))

  cause_of : written_number (written n k es lent) ≢ 0 → WriterCause n k es (length lent) (written_number (written n k es lent))
  cause_of h = go (verdict n k es lent)
    where
      go : Verdict n k es lent → WriterCause n k es (length lent) (written_number (written n k es lent))
      go (whole w) = absurd (h (ap written_number (whole_came w).0))
      go (fault r c) = rw (cause_came r c).0 c

pub writer_refuses : WriterRefuses
writer_refuses n k es lent number h =
    (λ e. rw e at (cause_of n k es lent (λ z. omega (arith, h, sym e ∙ z))), λ c. (cause_came n k es lent number c).0)

pub refused_writing : RefusedWriting
refused_writing n k es lent h = (cause_came n k es lent _ (cause_of n k es lent h)).1

pub accepted_writing : AcceptedWriting
accepted_writing n k es lent none few fits room =
    let t = whole_came n k es lent (record { none = nine_none es none; few = few; fits = fits; room = room }) in
    (ap written_number t.0, ap written_bytes t.0, t.1)

pub written_within : WrittenWithin
written_within n k es lent bytes e =
    let w = whole_of n k es lent (ap written_number e) in
    let b : bytes ≡ length (schedule_text n k es) = sym (ap written_bytes e) ∙ ap written_bytes (whole_came n k es lent w).0 in
    (omega (arith, b, w.fits), omega (arith, b, w.room))

-- A schedule's text is a case of just that schedule.
whole_case : {n k : ℕ} {es lent : List ℕ} → n ≤ 4294967295 → k ≤ 4294967295 → Whole n k es lent → IsCase (schedule_text n k es) n k es
whole_case {n} {k} {es} hn hk w =
    let b = schedule_back es w.none in
    record {
      short = w.fits;
      calls = map call_of es;
      written = record { first = hn; second = hk; ranged = b.0; text = refl };
      few = rw (length-map es call_of) w.few;
      says = sym b.1;
    }

pub reads_back : ReadsBack
reads_back n k es lent row hn hk h e =
    let w = whole_of n k es lent e in
    let text = schedule_text n k es in
    let t = whole_came n k es lent w in
    let s : take (written_bytes (written n k es lent)) (written_row n k es lent) ≡ text =
    rw (t.0, t.1) (take_at text (drop (length text) lent) (length text) refl) in
    rw s (room_for_all row text h ∙ (accepted_exactly text n k es).1 (whole_case hn hk w))

pub writes_back : WritesBack
writes_back text row lent n k es e room =
    let c = read_case row text n k es e in
    let b = calls_back c.calls c.written.ranged in
    let s : schedule_text n k es ≡ text = rw (c.says, b.1) (sym c.written.text) in
    let l = ap length s in
    let t =
    whole_came n k es lent (record {
      none = rw c.says b.0;
      few = case_few c;
      fits = omega (arith, l, c.short);
      room = omega (arith, l, room);
    }) in
    (ap written_number t.0, ap written_bytes t.0 ∙ l, t.1 ∙ ap (λ (x : List ℕ). x ++ drop (length x) lent) s)
