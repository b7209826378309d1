use Rattle.kg_wire.proofs.PrintedLemmas.{printed_is_read}
use Rattle.kg_wire.proofs.laws.printed_is_read.Goals as goal

pub returns : goal.returns
returns c = printed_is_read
