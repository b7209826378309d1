use Rattle.kg_visit.proofs.TraceLemmas.{justifies_reply}
use Rattle.kg_visit.proofs.laws.what_was_asked_justifies_the_reply.Goals as goal

pub returns : goal.returns
returns c = λ history trace request worker reply current in_order fits kind come. justifies_reply history trace request worker reply current in_order fits kind come
