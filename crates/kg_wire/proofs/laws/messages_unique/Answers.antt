use Rattle.kg_wire.proofs.MessageLemmas.{reading_front, reading_same, reading_most, reading_unique}
use Rattle.kg_wire.proofs.laws.messages_unique.Goals as goal

pub returns-clause-front : goal.returns-clause-front
returns-clause-front c = reading_front

pub returns-clause-same : goal.returns-clause-same
returns-clause-same c = reading_same

pub returns-clause-most : goal.returns-clause-most
returns-clause-most c = reading_most

pub returns-clause-whole : goal.returns-clause-whole
returns-clause-whole c = reading_unique
