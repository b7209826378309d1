use Rattle.kg_course.proofs.CourseLemmas.{run_lacks}
use Rattle.kg_course.proofs.laws.what_is_lacking_was_not_told.Goals as goal

pub returns : goal.returns
returns c = λ course told lacking is. run_lacks course told lacking is
