-- a path is its own normal form just where neither step rewrites it
use Rattle.std.proofs.lemmas.Bool.{both_ways}
use Rattle.kg_text.proofs.PathLemmas.{normal_from_parts, parts_of_normal}
use Rattle.kg_text.proofs.path.is_same_form.Goals as goal

pub returns-else-has_normal_escapes : goal.returns-else-has_normal_escapes
returns-else-has_normal_escapes c = (
  λ yes. absurd (both_ways _ c.if-has_normal_escapes.false yes),
  λ same. c.has_normal_escapes.ensures.1 (parts_of_normal c.args.path.now same).1,
)

pub returns-then-has_normal_escapes : goal.returns-then-has_normal_escapes
returns-then-has_normal_escapes c = (
  λ yes.
      normal_from_parts c.args.path.now c.requires
      (c.has_normal_escapes.ensures.0 c.if-has_normal_escapes.true)
      (c.is_dot_free.ensures.0 yes),
  λ same. c.is_dot_free.ensures.1 (parts_of_normal c.args.path.now same).2,
)
