use Rattle.kg_wire.proofs.UnreadLemmas.{no_head_begins_none}
use Rattle.kg_wire.proofs.reader.fill_head.Goals as goal

pub read_more-requires : goal.read_more-requires
read_more-requires g c = no_head_begins_none c.loop-held.held c.loop-held.invariant.none
