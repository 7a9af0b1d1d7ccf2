-- Kept for the edit lowest_counts_from_0: the number is the row's index and one.
use Rattle.std.proofs.Common.{ℕ, ◌+◌, ap}
use Rattle.std.specs.Prelude.{option_map}
use Rattle.store.proofs.lowest_broken.Goals as goal

pub returns : goal.returns
returns c = ap (option_map (λ (row : ℕ). row + 1)) c.in_ok-row.ensures
