use Rattle.kg_bodies.proofs.AcceptedLemmas.{members_accepted}
use Rattle.kg_bodies.proofs.fields.members_of_an_unbroken_object_are_accepted.Goals as goal

pub returns : goal.returns
returns c = members_accepted
