-- Every call keeps a table sound.
use mathlib.Core.Path.{◌∙◌}
use mathlib.Core.List.{List, [], ◌∷◌}
use Prim.Native.Nat.{ℕ, ◌≤◌}
use native.Mathlib.Omega.{arith}
use lib.Dec.{eqb}
use borrow.Author.Tests.{eqb-true, eqb-false}
use Rattle.rules.specs.Tables.{Table, caller, called, after, Sound}
use Rattle.rules.specs.declared.Claimant.{Claimant}
use Rattle.rules.specs.declared.Terms.{Terms}
use Rattle.rules.specs.declared.Call.{Call}
use Rattle.rules.proofs.Choices.{decide}
use Rattle.rules.proofs.Moves.{keeps_formed}
use Rattle.rules.proofs.Rows.{AllFormed, rows_formed, any_bounds, sound_of}
use Rattle.rules.proofs.Calls.{Next, next, same_length}
use Rattle.rules.proofs.Calls.Next.{still, moves}

formed_next : {n : ℕ} {k : Terms} {c : Call} {at at' : ℕ → Claimant} → ((o : ℕ) → (at o).token ≤ k.ceiling) → Next n k c at at'
    → AllFormed n k at → AllFormed n k at'
formed_next h (still e) f j a b = rw (e j) (f j a b)
formed_next {c} h (moves s m) f j a b =
    let w = caller c in
    decide (eqb j w)
    (λ e. rw (eqb-true j w e) (keeps_formed (omega (arith, m.low, m.high)) h m.move (f w m.low m.high)))
    (λ e. rw (m.others j (eqb-false j w e)) (f j a b))

pub sound_called : {n : ℕ} {k : Terms} {t : Table} (c : Call) → Sound n k t → Sound n k (called k c t).table
sound_called {n} {k} {t} c s =
    sound_of n k (called k c t).table s.opens (same_length k c t ∙ s.length_is)
    (formed_next (λ o. (any_bounds s o).token) (rw s.length_is at (next k c t)) (rows_formed s))

pub sound_after : {n : ℕ} {k : Terms} {t : Table} (cs : List Call) → Sound n k t → Sound n k (after k cs t)
unfolding after
sound_after [] s = s
sound_after {n} {k} {t} (c ∷ cs) s = sound_after {n = n} {k = k} {t = (called k c t).table} cs (sound_called c s)
