-- what is its own normal form is a path
use Rattle.std.proofs.Common.{◌∙◌}
use Rattle.std.proofs.lemmas.Bool.{both_ways}
use Rattle.kg_text.proofs.PathLemmas.{parts_of_normal}
use Rattle.kg_text.proofs.path.is_normal.Goals as goal

pub returns-else-is_path : goal.returns-else-is_path
returns-else-is_path c = (
  λ yes. absurd (both_ways _ c.if-is_path.false yes),
  λ same. c.is_path.ensures ∙ (parts_of_normal c.args.path.now same).0,
)
