use Rattle.std.proofs.Common.{◌≡◌, not, filter, length}
use Rattle.kg_tables.specs.References.{refers}
use Rattle.kg_tables.proofs.table.RowTable.remove_of.Given as goal

abbrev pub invariant-loop-own : goal.invariant-loop-own
invariant-loop-own g l =
    filter (λ row. not (refers l.kind l.id (g.T.Row.references row))) l.self ≡ filter (λ row. not (refers l.kind l.id (g.T.Row.references row))) l.initial.self

abbrev pub decreases-loop-own : goal.decreases-loop-own
decreases-loop-own g l = length l.self
