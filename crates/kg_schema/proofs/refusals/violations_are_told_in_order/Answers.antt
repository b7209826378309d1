use Rattle.kg_schema.proofs.ToldLemmas.{paths_in_order, rules_in_order}
use Rattle.kg_schema.proofs.refusals.violations_are_told_in_order.Goals as goal

pub returns-clause-order : goal.returns-clause-order
returns-clause-order c = paths_in_order

pub returns-clause-rules : goal.returns-clause-rules
returns-clause-rules c = rules_in_order
