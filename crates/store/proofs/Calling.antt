-- A call as the code makes it: an entry that the table bars, or the call itself on a table that is sound.
use mathlib.Core.Path.{◌≡◌, refl}
use mathlib.Core.Bool.{not}
use mathlib.Core.List.{List, [], ◌∷◌, ◌++◌}
use lib.ListN.{length}
use Rattle.std.specs.Prelude.{Ok, Err, is_some}
use Rattle.rules.specs.Tests.{within, Listed, ◌when◌, Verdict}
use Rattle.rules.specs.Rules.{open_refusals, refusals}
use Rattle.rules.specs.Tables.{Table, all_well_formed, caller, unless_refused, table_refusal, called}
use Rattle.rules.specs.declared.Terms.{Terms}
use Rattle.rules.specs.declared.Call.{Call}
use Rattle.rules.specs.declared.Refusal.{Refusal}
use Rattle.rules.specs.declared.Refusal.TheVariants.{Broken, NoClaimant}
use Rattle.rules.specs.declared.Answer.TheVariants.{Refused}
use Rattle.rules.proofs.Choices.{first_append}
use Rattle.store.specs.Entries.{turn_in, table_bar, unless_barred}
use Rattle.store.specs.Runs.{lowest_broken}
use Rattle.store.specs.Schedules.{Entry, entered}
use Rattle.store.proofs.Entering.{Does, barred, entered_is}
use Rattle.store.proofs.Judging.{call_sound}
use Rattle.store.proofs.Lowest.{broken_is}

module _ (k : Terms) (c : Call) (t : Table) where
  -- whether the table bars the call
  abbrev bar : Verdict
  bar = table_bar (length t) k (not (all_well_formed (length t) k t))

  refused : (r : Refusal) → bar ≡ Err r → called k c t ≡ record { table = t; answer = Refused r }
  unfolding called unless_refused table_refusal refusals table_bar
  refused r e =
      let bars : List Listed = open_refusals (length t) k ++ (Broken when not (all_well_formed (length t) k t) ∷ []) in
      rw (first_append bars (NoClaimant when not (within 1 (length t) (caller c)) ∷ []), e)

  does : (v : Verdict) → bar ≡ v → let e = unless_barred v c in Does e (turn_in k e t) t (called k c t)
  unfolding entered
  does (Ok u) e = entered_is k (Ok c) t (call_sound k t e)
  does (Err r) e = rw (refused r e) (barred k (record { who = caller c; refusal = r }) t)

  pub call_is : {e : Entry} → e ≡ unless_barred (table_bar (length t) k (is_some (lowest_broken k t))) c
      → Does e (turn_in k e t) t (called k c t)
  call_is x = rw (x, broken_is k t) (does bar refl)
