use Rattle.std.proofs.Common.{◌≡◌, drop, map}
use Rattle.kg_plugin_table.specs.Keys.{rank_of}
use Rattle.kg_plugin_table.specs.Precedence.{chosen_row, first_found, row_with}
use Rattle.kg_plugin_table.proofs.generation.PluginGen.choose_place.Given as goal

-- no row has one of the precedences so far
abbrev pub invariant-loop-parts : goal.invariant-loop-parts
invariant-loop-parts l =
    chosen_row l.self.rows l.name l.scope ≡ first_found (row_with l.self.rows l.name l.scope) (map rank_of (drop l.parts-index l.parts-items))
