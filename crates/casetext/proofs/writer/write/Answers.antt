-- `casetext::writer::write` meets its contract: each test on the way picks its refusal, and what is written is the text that was counted.
use Rattle.std.proofs.Common.{rules, inl, inr, Ok, ◌≡◌, ◌∙◌, sym, ap, length, arith}
use Rattle.casetext.specs.Written.{schedule_text}
use Rattle.casetext.proofs.Pens.{front_row}
use Rattle.casetext.proofs.Schedules.{schedule_short}
use Rattle.casetext.proofs.Refusals.{refused_as, written_as, refuses_9, refuses_13, refuses_11_long, refuses_11_short, refuses_none}
use Rattle.casetext.proofs.writer.write.Goals as goal

pub returns-then-barred : goal.returns-then-barred
returns-then-barred c = refused_as _ _ _ _ (refuses_9 _ _ _ _ (sym c.if-barred.ensures))

pub returns-then-schedule-gt2048 : goal.returns-then-schedule-gt2048
returns-then-schedule-gt2048 c = refused_as _ _ _ _ (refuses_13 _ _ _ _ (sym c.if-barred.ensures) (omega arith))

pub case-requires-clause-room : goal.case-requires-clause-room
case-requires-clause-room c =
    let a = c.args in
    omega (arith, schedule_short a.claimants a.ceiling a.schedule.now (omega arith) (omega arith))

pub returns-then-bytes-gt32768 : goal.returns-then-bytes-gt32768
returns-then-bytes-gt32768 c =
    let none = sym c.if-barred.ensures in
    elim c.then-bytes-gt32768.either [
      | inl h ↦ refused_as _ _ _ _ (refuses_11_long _ _ _ _ none (omega arith) (omega (arith, c.case.ensures)))
      | inr h ↦ refused_as _ _ _ _ (refuses_11_short _ _ _ _ none (omega arith) (omega (arith, c.case.ensures)))
    ]

pub returns : goal.returns
returns c =
    let a = c.args in
    let size : c.case.new.sink.bytes ≡ length (schedule_text a.claimants a.ceiling a.schedule.now) = omega (arith, c.case.ensures) in
    let nine = sym c.if-barred.ensures in
    let none =
    refuses_none a.claimants a.ceiling a.schedule.now (length a.out.now) nine (omega arith) (omega (arith, size)) (omega (arith, size)) in
    let told = written_as a.claimants a.ceiling a.schedule.now a.out.now none in
    let row = front_row c.case-2.ensures c.new.ensures.at in
    let names = c.case-2.ensures.row ∙ c.new.ensures.same in
    (ap Ok size ∙ told.0, rw (← told.1) (search rules))
