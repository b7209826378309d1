use Rattle.std.proofs.Common.{◌≡◌, ◌-◌, length, take, drop}
use Rattle.kg_outside.specs.Moves.{with_end}
use Rattle.kg_print.proofs.write.write_whole.Given as goal

abbrev pub invariant-loop-rest : goal.invariant-loop-rest
invariant-loop-rest g l = record {
  rest : l.rest ≡ drop (length l.bytes - length l.rest) l.bytes;
  written : g.K.Sink.written l.sink ≡ with_end (g.K.Sink.written l.initial.sink) (take (length l.bytes - length l.rest) l.bytes);
  kept : g.K.Sink.faults l.sink ≡ g.K.Sink.faults l.initial.sink;
  beside : g.K.Sink.beside l.sink ≡ g.K.Sink.beside l.initial.sink;
}

abbrev pub decreases-loop-rest : goal.decreases-loop-rest
decreases-loop-rest g l = length l.rest
