-- A step reads or writes one register, and nothing else of the table matters to it or is changed by it.
use mathlib.Core.Path.{◌≡◌, refl, sym, ap}
use mathlib.Core.Bool.{true, false, not}
use Prim.Native.Nat.{ℕ}
use native.Mathlib.Omega.{arith}
use lib.Dec.{eqb, leb, ltb}
use borrow.Author.Tests.{leb-true, leb-false}
use Rattle.std.specs.Prelude.{Option, None, Some, is_some, Ok, Err}
use Rattle.rules.specs.Tests.{◌or◌, Verdict}
use Rattle.rules.specs.Records.{placed, with_want}
use Rattle.rules.specs.Places.{place_at}
use Rattle.rules.specs.declared.Place.{Place}
use Rattle.rules.specs.declared.Place.TheVariants.{Rest, Sign, Raise, Scan, Take, Lower, SeeChoosing, SeeSession, SeeToken, SeeAgain, Inside}
use Rattle.rules.specs.declared.Place.TheVariants.{DropToken, DropSession, Nowhere}
use Rattle.rules.specs.Rules.{conflict, before, reads, read_at, holds, passed, reached, refused, stepped, unless, asked, step_refusals, step_taken}
use Rattle.rules.specs.Rules.{left}
use Rattle.rules.specs.Tables.{turn}
use Rattle.rules.specs.declared.Claimant.{Claimant}
use Rattle.rules.specs.declared.Terms.{Terms}
use Rattle.rules.specs.declared.Turn.{Turn}
use Rattle.rules.specs.declared.Register.{Register}
use Rattle.rules.proofs.Choices.{decide, judged}
use Rattle.rules.proofs.Shapes.{◌&◌, between}
use Rattle.promises.specs.OneRegister.{write_at, writes, shared, written, Accepted, is_write, ReadsOrWrites, WritesOne, ValueIgnored}
use Rattle.promises.specs.OneRegister.{SeesOne, AskTouchesNone, LeaveTouchesNone, OthersUntouched}
use Rattle.promises.proofs.Steps.{unmoved}

take_writes : (k : Terms) (c : Claimant) → is_write (write_at Take k c) ≡ true
unfolding write_at
take_writes k c = decide (ltb c.seen k.ceiling) (λ e. rw e) (λ e. rw e)

pub reads_or_writes : ReadsOrWrites
unfolding ReadsOrWrites reads read_at writes write_at place_at
reads_or_writes k c h a b =
    let Fine : Claimant → Type 0 = λ c. is_some (reads c) ≡ not (is_write (writes k c)) in
    decide (leb c.place 9)
    (λ e.
    between Fine c 1 9 (omega arith) (omega (arith, leb-true c.place 9 e))
    (refl & refl & refl & ap not (sym (take_writes k c)) & refl & refl & refl & refl & refl & tt))
    (λ e. between Fine c 11 2 (omega (arith, leb-false c.place 9 e)) (omega arith) (refl & refl & tt))

passed_keeps : (n : ℕ) (c : Claimant) → shared (passed n c) ≡ shared c
unfolding passed
passed_keeps n c = decide (eqb c.other n) (λ e. rw e) (λ e. rw e)

-- What a step that nothing refuses does at each place: its one write; and without a read the values given do not matter.
record Acts (n : ℕ) (k : Terms) (i v v' : ℕ) (p : Place) (c : Claimant) : Type 0 where
  writes_it : shared (stepped p n k i v c).after ≡ written (write_at p k c) (shared c)
  ignores : is_some (read_at p c.other) ≡ false → stepped p n k i v c ≡ stepped p n k i v' c

acts : (n : ℕ) (k : Terms) (i v v' : ℕ) (p : Place) (c : Claimant) → Acts n k i v v' p c
unfolding stepped write_at read_at
acts n k i v v' Rest c = record { writes_it = refl; ignores = λ e. refl }
acts n k i v v' Sign c = record { writes_it = refl; ignores = λ e. refl }
acts n k i v v' Raise c = record { writes_it = refl; ignores = λ e. refl }
acts n k i v v' Scan c = record { writes_it = decide (eqb c.other n) (λ e. rw e) (λ e. rw e); ignores = λ e. cc }
acts n k i v v' Take c = record { writes_it = decide (ltb c.seen k.ceiling) (λ e. rw e) (λ e. rw e); ignores = λ e. refl }
acts n k i v v' Lower c = record { writes_it = refl; ignores = λ e. refl }
acts n k i v v' SeeChoosing c = record { writes_it = refl; ignores = λ e. cc }
acts n k i v v' SeeSession c = record { writes_it = refl; ignores = λ e. cc }
acts n k i v v' SeeToken c =
    record {
      writes_it = decide (eqb v 0 or before c.token i v c.other) (λ e. rw e (passed_keeps n c)) (λ e. rw e);
      ignores = λ e. cc;
    }
acts n k i v v' SeeAgain c =
    record { writes_it = decide (conflict v c.want) (λ e. rw e) (λ e. rw e (passed_keeps n c)); ignores = λ e. cc }
acts n k i v v' Inside c = record { writes_it = refl; ignores = λ e. refl }
acts n k i v v' DropToken c = record { writes_it = refl; ignores = λ e. refl }
acts n k i v v' DropSession c = record { writes_it = refl; ignores = λ e. refl }
acts n k i v v' Nowhere c = record { writes_it = refl; ignores = λ e. refl }

pub writes_one : WritesOne
unfolding WritesOne step_taken unless writes
writes_one n k i v c =
    judged (λ r. Accepted r.answer → shared r.after ≡ written (writes k c) (shared c)) (stepped (place_at c.place) n k i v c) (refused c)
    (step_refusals n k i v c)
    (λ g a. (acts n k i v v (place_at c.place) c).writes_it)
    (λ g r e a. absurd a)

holds_unread : (r : Option Register) (k : Terms) (v v' : ℕ) → is_some r ≡ false → holds r k v ≡ holds r k v'
holds_unread None k v v' e = refl
holds_unread (Some r) k v v' e = cc

pub value_ignored : ValueIgnored
unfolding ValueIgnored step_taken reads
value_ignored n k i v v' c e = rw (holds_unread (reads c) k v v' e, (acts n k i v v' (place_at c.place) c).ignores e)

pub sees_one : SeesOne
unfolding SeesOne turn
sees_one k w t t' l e v = rw (v, l, e)

-- Accepted or refused, the registers are as they were.
untouched : (v : Verdict) (c : Claimant) (t : Turn) → shared t.after ≡ shared c → shared (unless v c t).after ≡ shared c
unfolding unless
untouched (Ok u) c t h = h
untouched (Err r) c t h = refl

pub ask_touches_none : AskTouchesNone
unfolding AskTouchesNone asked
ask_touches_none n k i s c = untouched _ c (reached (placed 1 (with_want s c))) refl

pub leave_touches_none : LeaveTouchesNone
unfolding LeaveTouchesNone left
leave_touches_none n k i c = untouched _ c (reached (placed 11 c)) refl

pub others_untouched : OthersUntouched
unfolding OthersUntouched
others_untouched k c t j h = unmoved k c t j (λ q b. h (sym q))
