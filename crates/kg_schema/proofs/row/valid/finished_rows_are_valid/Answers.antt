use Rattle.kg_schema.proofs.ValidFinished.{finished_ok}
use Rattle.kg_schema.proofs.row.valid.finished_rows_are_valid.Goals as goal

pub returns : goal.returns
returns c = finished_ok
