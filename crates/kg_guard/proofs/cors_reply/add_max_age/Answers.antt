use Rattle.std.proofs.Common.{◌∙◌}
use Rattle.kg_guard.proofs.cors_reply.add_max_age.Goals as goal

pub returns-in-Some : goal.returns-in-Some
returns-in-Some c = rw c.in-Some.is (rw (c.as_bytes.ensures.value ∙ c.format.ensures.text) at c.add_field.ensures)
