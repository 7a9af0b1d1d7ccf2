-- Nothing else meets a public function's contract: two results, and two last contents of all that was lent, that meet it
-- at the same arguments are the same.
--     Only             of a function, by its contract as its source states it: the fact φ that it ensures, that it ensures
--                      just that, and that φ leaves no choice
-- Assumes nothing.
use mathlib.Core.Path.{◌≡◌, refl}
use lib.ListN.{length}
use seplogic.Ra.Ura.{Ura}
use base.Logic.{SProp}
use types.Logic.{Logic}
use prog.Memory.{Memory}
use prog.Routine.{Routine}
use contract.Lifetimes.{Lfts}
use contract.Monad.{Fun, fact}
use denote.Triple.Clauses.{Clauses, Ended, Lasts, at_exit}
use denote.Triple.Entry.{Args, Res}
use Rattle.rules.specs.Tables.{called}
pub use Rattle.rules.proofs.Only.{same}
use Rattle.store.specs.Runs.{lowest_broken, open_refusal, opening, running}
use Rattle.store.specs.Standings.{standing_of}
use Rattle.store.specs.Trials.{trial_left, trial_outcome}
use Rattle.store.specs.Schedules.{decoded}
use Rattle.store.specs.contracts.entries.decoded as #decoded
use Rattle.store.specs.contracts.lowest_broken as #lowest_broken
use Rattle.store.specs.contracts.open as #open
use Rattle.store.specs.contracts.call as #call
use Rattle.store.specs.contracts.run as #run
use Rattle.store.specs.contracts.standing as #standing
use Rattle.store.specs.contracts.trial as #trial

abbrev pub Contract : Ended → Type 2
Contract T = (M : Type 1) (𝓤 : Ura M) (𝓛 : Logic 𝓤) → (Memory → SProp 𝓤) → (Routine → Fun 𝓤) → Clauses 𝓤 T

pub record Only (T : Ended) (c : Contract T) : Type 2 where
  pub φ : (κs : Lfts T.signature.lifetimes) (a : Args T.signature κs) → Res T.signature κs → Lasts T κs a → Type 0
  pub ensures : {M : Type 1} {𝓤 : Ura M} (𝓛 : Logic 𝓤) (mem : Memory → SProp 𝓤) (run : Routine → Fun 𝓤)
      (κs : Lfts T.signature.lifetimes) (a : Args T.signature κs) (g : (c M 𝓤 𝓛 mem run κs a).ghost)
      (r : Res T.signature κs) (ws : Lasts T κs a) → (c M 𝓤 𝓛 mem run κs a).ensures g r (at_exit T κs a ws) ≡ fact 𝓤 (φ κs a r ws)
  pub only : (κs : Lfts T.signature.lifetimes) (a : Args T.signature κs) (r r' : Res T.signature κs) (ws ws' : Lasts T κs a)
      → φ κs a r ws → φ κs a r' ws' → (r ≡ r') × (ws ≡ ws')

pub only_decoded : Only #decoded.ended (λ M 𝓤. #decoded.clauses)
only_decoded = record {
  φ = λ κs a r ws. r ≡ decoded a.0;
  ensures = λ 𝓛 mem run κs a g r ws. refl;
  only = λ κs a r r' ws ws' p q. (same p q, refl);
}

pub only_lowest_broken : Only #lowest_broken.ended (λ M 𝓤. #lowest_broken.clauses)
only_lowest_broken = record {
  φ = λ κs a r ws. r ≡ lowest_broken a.1.0 a.0.now;
  ensures = λ 𝓛 mem run κs a g r ws. refl;
  only = λ κs a r r' ws ws' p q. (same p q, refl);
}

pub only_open : Only #open.ended (λ M 𝓤. #open.clauses)
only_open = record {
  φ = λ κs a r ws. (ws.0 ≡ opening a.1.0 a.0.now) × (r ≡ open_refusal (length a.0.now) a.1.0);
  ensures = λ 𝓛 mem run κs a g r ws. refl;
  only = λ κs a r r' ws ws' p q. (same p.1 q.1, λ i. (same p.0 q.0 i, (tt, tt)));
}

pub only_call : Only #call.ended (λ M 𝓤. #call.clauses)
only_call = record {
  φ = λ κs a r ws. (ws.0 ≡ (called a.1.0 a.1.1.0 a.0.now).table) × (r ≡ (called a.1.0 a.1.1.0 a.0.now).answer);
  ensures = λ 𝓛 mem run κs a g r ws. refl;
  only = λ κs a r r' ws ws' p q. (same p.1 q.1, λ i. (same p.0 q.0 i, (tt, (tt, tt))));
}

pub only_run : Only #run.ended (λ M 𝓤. #run.clauses)
only_run = record {
  φ = λ κs a r ws.
      (ws.0 ≡ (running a.1.0 a.1.1.0.now a.1.1.1.0.now a.0.now).rows)
      × (ws.1.1.1.0 ≡ (running a.1.0 a.1.1.0.now a.1.1.1.0.now a.0.now).answers)
      × (r ≡ (running a.1.0 a.1.1.0.now a.1.1.1.0.now a.0.now).outcome);
  ensures = λ 𝓛 mem run κs a g r ws. refl;
  only = λ κs a r r' ws ws' p q. (same p.2 q.2, λ i. (same p.0 q.0 i, (tt, (tt, (same p.1 q.1 i, tt)))));
}

pub only_standing : Only #standing.ended (λ M 𝓤. #standing.clauses)
only_standing = record {
  φ = λ κs a r ws. r ≡ standing_of a.1.0 a.1.1.0 a.1.1.1.0 a.0.now;
  ensures = λ 𝓛 mem run κs a g r ws. refl;
  only = λ κs a r r' ws ws' p q. (same p q, refl);
}

pub only_trial : Only #trial.ended (λ M 𝓤. #trial.clauses)
only_trial = record {
  φ = λ κs a r ws.
      (ws.1.1.1.0 ≡ trial_left a.0 a.1.0 a.1.1.0.now a.1.1.1.0.now)
      × (r ≡ trial_outcome a.0 a.1.0 a.1.1.0.now a.1.1.1.0.now);
  ensures = λ 𝓛 mem run κs a g r ws. refl;
  only = λ κs a r r' ws ws' p q. (same p.1 q.1, λ i. (tt, (tt, (tt, (same p.0 q.0 i, tt)))));
}
