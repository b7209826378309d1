use Rattle.kg_row_values.proofs.HistoryLemmas.{last_changes, last_changes_generation}
use Rattle.kg_row_changes.proofs.laws.last_command_changes_what_differs.Goals as goal

pub returns-clause-keys : goal.returns-clause-keys
returns-clause-keys c = last_changes

pub returns-clause-gens : goal.returns-clause-gens
returns-clause-gens c = last_changes_generation
