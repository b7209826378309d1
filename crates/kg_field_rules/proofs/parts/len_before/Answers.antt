use Rattle.std.proofs.Common.{◌==◌, ◌∙◌, unwrap_or, length, ap}
use Rattle.kg_field_rules.proofs.TextLemmas.{position_or_end}
use Rattle.kg_field_rules.proofs.parts.len_before.Goals as goal

pub returns-clause-value : goal.returns-clause-value
returns-clause-value c = c.unwrap_or.ensures ∙ ap (λ place. unwrap_or place (length c.args.text.now)) c.first_of.ensures ∙ position_or_end (λ b. b == c.args.b) c.args.text.now
