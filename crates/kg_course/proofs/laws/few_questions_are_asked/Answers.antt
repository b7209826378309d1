use Rattle.kg_course.proofs.BoundLemmas.{course_le}
use Rattle.kg_course.proofs.laws.few_questions_are_asked.Goals as goal

pub returns : goal.returns
returns c = λ asked told. course_le asked told
