-- `casetext::writer::do_line` meets its contract: its three parts, one after the other.
use Rattle.std.proofs.Common.{refl}
use Rattle.casetext.proofs.writer.do_line.Goals as goal

pub word-requires : goal.word-requires
word-requires g c = g.S.Sink.laws.first _ _ c.requires

pub turn-requires : goal.turn-requires
turn-requires g c =
    let laws = g.S.Sink.laws in
    laws.first _ _ (laws.second _ _ c.word.ensures c.requires)

pub word-requires-2 : goal.word-requires-2
word-requires-2 g c =
    let laws = g.S.Sink.laws in
    laws.second _ _ c.turn.ensures (laws.second _ _ c.word.ensures c.requires)

pub returns : goal.returns
returns g c =
    let laws = g.S.Sink.laws in
    laws.both c.word.ensures (laws.both c.turn.ensures c.word-2.ensures refl) refl
