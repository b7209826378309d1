use Rattle.kg_row_queries.proofs.ValidFound.{found_valid}
use Rattle.kg_row_queries.proofs.collection.selected_in.Goals as goal

-- a row that was found is valid where all are
pub returns-clause-valid : goal.returns-clause-valid
returns-clause-valid c = λ valid. found_valid c.args.rows.now c.args.kind c.args.collection.now c.args.select.now c.among.result c.among.ensures valid
