use Rattle.kg_plugin_table.proofs.ClosestLemmas.{chosen_is_choice}
use Rattle.kg_plugin_table.proofs.closest.chosen_row_is_the_closest.Goals as goal

pub returns : goal.returns
returns c = chosen_is_choice
