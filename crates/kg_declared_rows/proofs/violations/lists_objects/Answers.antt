use Rattle.std.proofs.Common.{◌∙◌}
use Rattle.kg_declared_rows.proofs.ViolationLemmas.{all_objects}
use Rattle.kg_declared_rows.proofs.violations.lists_objects.Goals as goal

pub returns : goal.returns
returns c = c.are_objects.ensures ∙ all_objects c.args.items.now
