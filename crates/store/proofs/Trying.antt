-- A trial's own table: the first rows of an array of blank records, as many as it has claimants.
use mathlib.Core.Path.{◌≡◌, refl}
use mathlib.Core.Bool.{true}
use Prim.Native.Nat.{ℕ, zero, suc, ◌*◌, ◌≤◌}
use lib.ListN.{length, replicate, take, length-replicate}
use Rattle.std.specs.Prelude.{Ok}
use Rattle.std.proofs.lemmas.List.{take-replicate}
use Rattle.rules.specs.Records.{blank}
use Rattle.rules.specs.Tables.{opened, all_well_formed, Sound}
use Rattle.rules.specs.declared.Claimant.{Claimant}
use Rattle.rules.specs.declared.Terms.{Terms}
use Rattle.rules.proofs.Laws.{opened_is_sound}
use Rattle.store.specs.Trials.{trial_refusal}
use Rattle.store.proofs.Judging.{trial_opens}
use Rattle.store.proofs.Entering.{blank_formed}

pub blank_table : (n : ℕ) (k : Terms) (m : ℕ) → all_well_formed n k (replicate m blank) ≡ true
unfolding all_well_formed
blank_table n k zero = refl
blank_table n k (suc m) = rw (blank_formed n k) (blank_table n k m)

pub part_size : (n : ℕ) (b : Claimant) → n ≤ 64 → n ≡ length (take n (replicate 64 b))
part_size n b h = rw (take-replicate n 64 b h, length-replicate n b)

module _ (n : ℕ) (k : Terms) (m l : ℕ) (e : trial_refusal n k m l ≡ Ok tt) where
  pub few_rows : n ≤ 64
  few_rows = (trial_opens n k m l e).0.rows

  pub room : 5 * m ≤ l
  room = (trial_opens n k m l e).1

  pub part_is : {b : Claimant} → b ≡ blank → take n (replicate 64 b) ≡ opened n
  unfolding opened
  part_is p = rw (p, take-replicate n 64 blank few_rows)

  pub part_long : {b : Claimant} → b ≡ blank → n ≡ length (take n (replicate 64 b))
  part_long {b} p = part_size n b few_rows

  pub part_sound : {b : Claimant} → b ≡ blank → Sound (length (take n (replicate 64 b))) k (take n (replicate 64 b))
  unfolding opened
  part_sound p = rw (part_is p, length-replicate n blank) (opened_is_sound n k (trial_opens n k m l e).0)

pub ruleset opened_part = (few_rows, room, part_is, part_long, part_sound)
