use Rattle.std.proofs.Common.{⊎_elim}
use Rattle.kg_row_values.proofs.laws.unnamed_keys_keep_their_values.Goals as goal

pub returns-clause-keeps : goal.returns-clause-keeps
returns-clause-keeps c = λ before after keys k names unnamed. ⊎_elim (λ there. absurd (unnamed there)) (λ same. same) (names.others k)

pub returns-clause-changes : goal.returns-clause-changes
returns-clause-changes c = λ before after keys k names there. (names.each k).0 there
