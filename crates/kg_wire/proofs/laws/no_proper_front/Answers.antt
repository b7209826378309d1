use Rattle.kg_wire.proofs.MessageLemmas.{no_proper_front}
use Rattle.kg_wire.proofs.laws.no_proper_front.Goals as goal

pub returns : goal.returns
returns c = no_proper_front
