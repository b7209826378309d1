use Rattle.kg_visit.proofs.TraceLemmas.{justifies_refusal}
use Rattle.kg_visit.proofs.laws.what_was_asked_justifies_the_refusal.Goals as goal

pub returns : goal.returns
returns c = λ history trace request worker current in_order fits kind. justifies_refusal history trace request worker current in_order fits kind
