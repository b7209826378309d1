use Rattle.std.proofs.Common.{sym}
use Rattle.std.proofs.lemmas.Result.{IfOk-weaker}
use Rattle.kg_course.proofs.TurnLemmas.{ran_going}
use Rattle.kg_course.proofs.walk.run_row.Goals as goal

pub returns : goal.returns
returns c =
    IfOk-weaker c.access.result _ _
    (λ lacking runs. ran_going c.args.row.now c.args.moment c.args.given.now c.args.verdicts.now c.args.walk.now c.access.new.walk lacking (sym c.if-is_some.ensures) runs)
    c.access.ensures
