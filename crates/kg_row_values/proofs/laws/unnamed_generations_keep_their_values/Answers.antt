use Rattle.std.proofs.Common.{⊎_elim}
use Rattle.kg_row_values.proofs.laws.unnamed_generations_keep_their_values.Goals as goal

pub returns-clause-keeps : goal.returns-clause-keeps
returns-clause-keeps c = λ before after gens g names unnamed. ⊎_elim (λ there. absurd (unnamed there)) (λ same. same) (names.others g)

pub returns-clause-changes : goal.returns-clause-changes
returns-clause-changes c = λ before after gens g names there. (names.each g).0 there
