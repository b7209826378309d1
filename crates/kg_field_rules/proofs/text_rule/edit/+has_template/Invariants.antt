use Rattle.std.proofs.Common.{length}
use Rattle.kg_field_rules.proofs.text_rule.edit.+has_template.Given as goal

abbrev pub decreases-has_template : goal.decreases-has_template
decreases-has_template l = length l.text.now
