use Rattle.std.proofs.Common.{◌≡◌, ◌-◌, length}
use Rattle.httparse.specs.Grammar.{HasNoRequest}
use Rattle.kg_wire.specs.Messages.{most_head}
use Rattle.kg_wire.specs.Reading.{Grows}
use Rattle.kg_wire.proofs.reader.fill_head.Given as goal

abbrev pub invariant-loop-held : goal.invariant-loop-held
invariant-loop-held g l = record {
  grows : Grows l.initial.held l.held (g.S.Source.left l.initial.source) (g.S.Source.left l.source);
  none : HasNoRequest l.held;
  kept : g.S.Source.faults l.source ≡ g.S.Source.faults l.initial.source;
  beside : g.S.Source.beside l.source ≡ g.S.Source.beside l.initial.source;
}

abbrev pub decreases-loop-held : goal.decreases-loop-held
decreases-loop-held g l = most_head - length l.held
