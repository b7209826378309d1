use Rattle.kg_row_values.proofs.GroupLemmas.{contains_texts, ordered_texts}
use Rattle.kg_row_values.proofs.laws.texts_in_byte_order_are_the_texts.Goals as goal

pub returns-clause-order : goal.returns-clause-order
returns-clause-order c = ordered_texts

pub returns-clause-texts : goal.returns-clause-texts
returns-clause-texts c = contains_texts
