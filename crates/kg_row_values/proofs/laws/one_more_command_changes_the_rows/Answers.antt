use Rattle.kg_row_types.specs.RowLists.{no_rows}
use Rattle.kg_row_values.proofs.HistoryLemmas.{rows_from-push}
use Rattle.kg_row_values.proofs.laws.one_more_command_changes_the_rows.Goals as goal

pub returns-clause-from : goal.returns-clause-from
returns-clause-from c = rows_from-push

pub returns-clause-after : goal.returns-clause-after
returns-clause-after c = rows_from-push no_rows
