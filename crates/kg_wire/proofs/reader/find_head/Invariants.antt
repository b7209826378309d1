use Rattle.std.proofs.Common.{◌≡◌, ◌-◌, ◌+◌, if◌then◌else◌, length}
use Rattle.std.specs.Prelude.{IsTrue}
use Rattle.kg_wire.specs.Messages.{most_head}
use Rattle.kg_wire.specs.Reading.{Grows, IsEnded}
use Rattle.kg_wire.specs.ReadingSteps.{IsOpen}
use Rattle.kg_wire.proofs.reader.find_head.Given as goal

abbrev pub invariant-loop-spans : goal.invariant-loop-spans
invariant-loop-spans g l = record {
  grows : Grows l.initial.held l.held (g.S.Source.left l.initial.source) (g.S.Source.left l.source);
  at_end : IsTrue l.ended → IsEnded (g.S.Source.left l.source);
  unread : (IsOpen l.initial.held → ⊥) → (l.held ≡ l.initial.held) × (l.source ≡ l.initial.source);
  kept : g.S.Source.faults l.source ≡ g.S.Source.faults l.initial.source;
  beside : g.S.Source.beside l.source ≡ g.S.Source.beside l.initial.source;
}

abbrev pub decreases-loop-spans : goal.decreases-loop-spans
decreases-loop-spans g l = most_head - length l.held + (if l.ended then 0 else 1)
