use Rattle.std.proofs.Common.{◌≡◌, ◌≤◌, ◌-◌, length}
use Rattle.kg_wire.specs.Reading.{Grows}
use Rattle.kg_wire.proofs.reader.fill_message.Given as goal

abbrev pub invariant-loop-source : goal.invariant-loop-source
invariant-loop-source g l = record {
  grows : Grows l.initial.held l.held (g.S.Source.left l.initial.source) (g.S.Source.left l.source);
  unread : l.start.message_len ≤ length l.initial.held → l.source ≡ l.initial.source;
  kept : g.S.Source.faults l.source ≡ g.S.Source.faults l.initial.source;
  beside : g.S.Source.beside l.source ≡ g.S.Source.beside l.initial.source;
}

abbrev pub decreases-loop-source : goal.decreases-loop-source
decreases-loop-source g l = l.start.message_len - length l.held
