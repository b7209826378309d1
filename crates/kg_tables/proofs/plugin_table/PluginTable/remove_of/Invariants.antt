use Rattle.std.proofs.Common.{◌≡◌, not, filter, length}
use Rattle.kg_tables.specs.References.{refers}
use Rattle.kg_tables.proofs.plugin_table.PluginTable.remove_of.Given as goal

abbrev pub invariant-loop-own : goal.invariant-loop-own
invariant-loop-own l = filter (λ row. not (refers l.kind l.id row.scope)) l.self ≡ filter (λ row. not (refers l.kind l.id row.scope)) l.initial.self

abbrev pub decreases-loop-own : goal.decreases-loop-own
decreases-loop-own l = length l.self
