use Rattle.std.proofs.Common.{sym, subst, ◌∙◌}
use Rattle.kg_course.specs.Walks.{TakesTurn}
use Rattle.kg_course.proofs.WalkLemmas.{goes_on, stops}
use Rattle.kg_course.proofs.walk.go_on.Goals as goal

pub loop-name-preserved : goal.loop-name-preserved
loop-name-preserved c = (
  goes_on c.args.plugins.now.rows c.args.moment c.args.given.now c.args.verdicts.now c.args.walk.now c.loop-name.walk c.take_turn.new.walk c.in-Some.name
      c.loop-name.invariant.0 (sym c.name_at.ensures ∙ c.in-Some.is)
      (subst (λ lacking. TakesTurn c.args.plugins.now.rows c.args.moment c.args.given.now c.args.verdicts.now c.in-Some.name c.loop-name.walk lacking c.take_turn.new.walk) c.in-None.is c.in_ok-lacking.ensures),
  c.in_ok-lacking.ensures.known,
)

pub returns-in-Some-2 : goal.returns-in-Some-2
returns-in-Some-2 c =
    stops c.args.plugins.now.rows c.args.moment c.args.given.now c.args.verdicts.now c.args.walk.now c.loop-name.walk c.take_turn.new.walk c.in-Some.name c.in-Some-2.lacking
    c.loop-name.invariant.0 (sym c.name_at.ensures ∙ c.in-Some.is)
    (subst (λ lacking. TakesTurn c.args.plugins.now.rows c.args.moment c.args.given.now c.args.verdicts.now c.in-Some.name c.loop-name.walk lacking c.take_turn.new.walk) c.in-Some-2.is c.in_ok-lacking.ensures)
