-- `drafted` meets its contract where the second line is broken: it is refused, and line 2 is named.
use Rattle.std.proofs.Common.{◌≡◌, ◌∙◌, ap, sym, Err}
use Rattle.std.proofs.lemmas.Result.{err_from_is_err_and}
use borrow.Author.Tests.{le-ltb}
use Rattle.rules.specs.declared.Refusal.TheVariants.{BadLine}
use Rattle.casetext.specs.Reading.{told, reading}
use Rattle.casetext.proofs.reader.drafted.Goals as goal

pub returns-in_err-ceiling-clause-value : goal.returns-in_err-ceiling-clause-value
unfolding reading
returns-in_err-ceiling-clause-value c =
    let p = err_from_is_err_and c.from_residual-in_err-ceiling.result c.from_residual-in_err-ceiling.ensures.1 in
    let found = c.in_err-ceiling.ensures in
    let first = sym c.line.ensures ∙ c.in_ok-claimants.ensures.ok_part in
    let second = rw (c.line-2.ensures, c.to-second.ensures.text, c.to-second.ensures.at) at found.ok_part in
    let fault : c.in_err-ceiling.field-0.0 ≡ c.at-3.result = let e = rw found.ok_part at found.value in cc in
    let said : told (reading c.args.text.now) ≡ Err (record { refusal = BadLine; line = 2 }) =
    rw (le-ltb _ _ c.if-text-gt32768.false, first, second) in
    p.1 ∙ ap (λ f. Err f) (p.2 ∙ fault ∙ c.at-3.ensures) ∙ sym said
