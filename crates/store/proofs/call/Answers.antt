-- `call` meets its contract: the entry that the code makes of the call does what the call does.
use Rattle.std.proofs.Common.{◌∙◌, ap}
use Rattle.rules.specs.declared.Turn.{Turn}
use Rattle.store.proofs.Calling.{call_is}
use Rattle.store.proofs.call.Goals as goal

pub returns : goal.returns
returns c =
    let d = call_is c.args.terms c.args.call c.args.rows.now (rw c.judged.ensures at c.admits-entry.ensures) in
    (c.enter.ensures.0 ∙ d.table, ap (λ (r : Turn). r.answer) c.enter.ensures.1 ∙ d.answer)
