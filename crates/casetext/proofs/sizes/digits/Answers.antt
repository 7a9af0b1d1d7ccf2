-- `casetext::sizes::digits` meets its contract.
use Rattle.std.proofs.Common.{sym, arith}
use Rattle.casetext.proofs.Measures.{size_one, size_by_log}
use Rattle.casetext.proofs.sizes.digits.Goals as goal

pub returns-then-n-lt10-clause-value : goal.returns-then-n-lt10-clause-value
returns-then-n-lt10-clause-value c = sym (size_one _ (omega arith))

pub returns-clause-value : goal.returns-clause-value
returns-clause-value c =
    let log = c.ilog10.ensures in
    size_by_log c.ilog10.result c.args.n (omega (arith, log.power_le)) (omega (arith, log.next_power_gt))
