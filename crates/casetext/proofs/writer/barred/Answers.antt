-- `casetext::writer::barred` meets its contract: the test of an entry is whether refusal 9 names it.
use Rattle.std.proofs.Common.{◌≡◌, ◌∙◌, rules, tests}
use Rattle.std.proofs.lemmas.Iterator.{YieldsList-from_slice}
use Rattle.std.proofs.lemmas.Iterator.Search.{any_from_yields_List}
use Rattle.store.specs.Schedules.{is_nine, decoded}
use Rattle.std.specs.Result.{is_err}
use Rattle.casetext.proofs.Schedules.{decoded_nine}
use Rattle.casetext.proofs.writer.barred.Goals as goal

pub returns : goal.returns
returns c =
    any_from_yields_List is_nine _ _ _ c.any.ensures.ran (YieldsList-from_slice c.args.schedule.now cc) (λ x b q k.
    let one : (q ≡ record {}) × (b ≡ is_err (decoded x.now)) = search (rules, tests) in
    (one.0, one.1 ∙ decoded_nine x.now))
