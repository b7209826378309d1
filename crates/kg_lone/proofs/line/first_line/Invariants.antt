use Rattle.std.proofs.Common.{◌≡◌, ◌-◌, ◌≤◌, length}
use Rattle.std.specs.List.{position_or_len}
use Rattle.kg_outside.specs.Moves.{with_front}
use Rattle.kg_lone.specs.FirstLine.{is_line_feed}
use Rattle.kg_lone.proofs.line.first_line.Given as goal

abbrev pub invariant-loop-line : goal.invariant-loop-line
invariant-loop-line g l = record {
  no_feed : position_or_len is_line_feed l.line.items ≡ length l.line.items;
  moved : g.S.Source.left l.initial.source ≡ with_front l.line.items (g.S.Source.left l.source);
  within : length l.line.items ≤ l.limit;
  kept : g.S.Source.faults l.source ≡ g.S.Source.faults l.initial.source;
}

abbrev pub decreases-loop-line : goal.decreases-loop-line
decreases-loop-line g l = l.limit - length l.line.items
