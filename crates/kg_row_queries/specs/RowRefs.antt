-- Machinery for proofs: the row that a reference stands for.
use Rattle.kg_row_types.specs.declared.entity.Entity.{Entity}
use Rattle.kg_row_types.specs.declared.entity.Entity.TheVariants as row
use Rattle.kg_row_queries.specs.declared.row_ref.RowRef.{RowRef}
use Rattle.kg_row_queries.specs.declared.row_ref.RowRef.TheVariants as at

abbrev pub row_at : RowRef → Entity
row_at (at.Service found) = row.Service found.now
row_at (at.Route found) = row.Route found.now
row_at (at.Consumer found) = row.Consumer found.now
row_at (at.KeyCred found) = row.KeyCred found.now
row_at (at.BasicCred found) = row.BasicCred found.now
row_at (at.Acl found) = row.Acl found.now
row_at (at.Plugin found) = row.Plugin found.now
