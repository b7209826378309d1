use Rattle.std.proofs.Common.{subst}
use Rattle.std.proofs.lemmas.Result.{IfOk-weaker}
use Rattle.kg_course.specs.Walks.{Goes}
use Rattle.kg_course.proofs.AnswerLemmas.{wants_finished, wants_lacking}
use Rattle.kg_course.proofs.wanted.wanted_on_route.Goals as goal

pub returns-in-Some : goal.returns-in-Some
returns-in-Some c =
    wants_lacking c.args.plugins.now.rows c.args.way.now c.args.moment c.args.given.now c.args.verdicts.now c.args.walk.now c.go_on.new.walk c.in-Some.lacking
    (subst (λ lacking. Goes c.args.plugins.now.rows c.args.moment c.args.given.now c.args.verdicts.now c.args.walk.now lacking c.go_on.new.walk) c.in-Some.is c.in_ok-lacking.ensures)

pub returns-in-None : goal.returns-in-None
returns-in-None c =
    IfOk-weaker c.finished.result _ _
    (λ next replies. wants_finished c.args.plugins.now.rows c.args.way.now c.args.moment c.args.given.now c.args.verdicts.now c.args.walk.now c.go_on.new.walk next
    (subst (λ lacking. Goes c.args.plugins.now.rows c.args.moment c.args.given.now c.args.verdicts.now c.args.walk.now lacking c.go_on.new.walk) c.in-None.is c.in_ok-lacking.ensures)
    replies)
    c.finished.ensures
