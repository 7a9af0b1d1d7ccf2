-- Where what every call refuses is not given, a call's own refusals decide.
use mathlib.Core.Path.{◌≡◌, sym, ◌∙◌}
use mathlib.Core.Bool.{Bool}
use mathlib.Core.List.{List, []}
use Prim.Native.Nat.{ℕ}
use Rattle.std.specs.Prelude.{Ok}
use Rattle.rules.specs.Tests.{Listed, Verdict, first}
use Rattle.rules.specs.Rules.{refusals}
use Rattle.rules.specs.declared.Terms.{Terms}
use Rattle.rules.proofs.Choices.{first_append}

pub own_decides : (n : ℕ) (k : Terms) (i : ℕ) (broken : Bool) (own : List Listed) {v : Verdict}
    → first (refusals n k i broken []) ≡ Ok tt → v ≡ first own → v ≡ first (refusals n k i broken own)
unfolding refusals
own_decides n k i broken own e p = p ∙ sym (first_append (refusals n k i broken []) own ∙ rw e)
