use Rattle.kg_row_types.proofs.IdLemmas.{id_of-printed}
use Rattle.kg_row_types.proofs.id.printed_id_is_read_back.Goals as goal

pub returns : goal.returns
returns c = id_of-printed
