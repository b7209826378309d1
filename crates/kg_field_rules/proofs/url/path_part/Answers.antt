use Rattle.std.proofs.Common.{sym, ◌∙◌}
use Rattle.kg_field_rules.proofs.TextLemmas.{normal_path-IsAscii}
use Rattle.kg_field_rules.proofs.url.path_part.Goals as goal

pub returns-then-is_normal_path-clause-ascii : goal.returns-then-is_normal_path-clause-ascii
returns-then-is_normal_path-clause-ascii c = normal_path-IsAscii c.args.path.now (sym c.is_normal_path.ensures ∙ c.if-is_normal_path.true)
