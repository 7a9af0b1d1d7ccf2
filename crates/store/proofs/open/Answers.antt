-- Kept for the edit open_refuses_all: an opened table is not refused.
use Rattle.std.proofs.Common.{◌≡◌, sym, refl, length, rules}
use Rattle.std.specs.Prelude.{Ok}
use Rattle.rules.specs.Tables.{opened}
use Rattle.store.specs.Runs.{open_refusal, opening}
use Rattle.store.proofs.open.Goals as goal

-- What was answered first, and then what was lent.
answered_first : {A B : Type 0} → B → A → A × B
answered_first b a = (a, b)

pub returns : goal.returns
unfolding opening opened
returns c =
    let opens : open_refusal (length c.args.rows.now) c.args.terms ≡ Ok tt = sym (rw c.board_of.ensures at c.in_ok-opens.ensures) in
    rw opens (answered_first refl (search rules))
