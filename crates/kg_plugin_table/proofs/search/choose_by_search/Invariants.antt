use Rattle.std.proofs.Common.{◌≡◌, drop}
use Rattle.kg_plugin_table.specs.Precedence.{chosen_row, first_found, row_with}
use Rattle.kg_plugin_table.proofs.search.choose_by_search.Given as goal

-- no row has one of the precedences so far
abbrev pub invariant-loop-precedence : goal.invariant-loop-precedence
invariant-loop-precedence l =
    chosen_row l.rows l.name l.scope ≡ first_found (row_with l.rows l.name l.scope) (drop l.precedence-index l.precedence-items)
