use Rattle.kg_row_values.proofs.HistoryLemmas.{changes_stay, generation_changes_stay, generation_stays, value_stays}
use Rattle.kg_row_values.proofs.laws.later_commands_leave_earlier_places.Goals as goal

pub returns-clause-values : goal.returns-clause-values
returns-clause-values c = λ history more n k within. value_stays history more n within k

pub returns-clause-generations : goal.returns-clause-generations
returns-clause-generations c = λ history more n g within. generation_stays history more n within g

pub returns-clause-keys : goal.returns-clause-keys
returns-clause-keys c = λ history more i k within. changes_stay history more i within k

pub returns-clause-gens : goal.returns-clause-gens
returns-clause-gens c = λ history more i g within. generation_changes_stay history more i within g
