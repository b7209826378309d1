use Rattle.kg_course.proofs.CourseLemmas.{run_more}
use Rattle.kg_course.proofs.laws.more_answers_keep_the_reply.Goals as goal

pub returns : goal.returns
returns c = λ course some more reply extends is. run_more course some more reply extends is
