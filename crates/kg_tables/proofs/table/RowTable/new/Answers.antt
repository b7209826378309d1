use Rattle.std.proofs.Common.{ℕ, Bool, nat_cmp, sym, ap, subst}
use Rattle.std.specs.BTreeMap.{is_at}
use Rattle.std.specs.Map.{lookup}
use Rattle.kg_tables.proofs.PlaceLemmas.{table_new}
use Rattle.kg_row_types.specs.declared.entity.Kind.{Kind}
use Rattle.kg_tables.specs.PlaceIndexes.{IsTable, listed_in, place_at}
use Rattle.kg_tables.specs.References.{refers}
use Rattle.kg_tables.proofs.table.RowTable.new.Goals as goal

-- nothing has a place
pub invariant_of-result : goal.invariant_of-result
invariant_of-result g c =
    let names : Kind → ℕ → g.row.T.Denot → Bool = λ kind id row. refers kind id (g.T.Row.references row) in
    subst (λ es. IsTable g.T.Row.number names es (place_at c.new-2.result) (listed_in c.new-3.result) 0) (sym c.new.ensures.empty)
    (table_new g.T.Row.number names (place_at c.new-2.result) (listed_in c.new-3.result) 0 (λ id. ap (lookup (is_at (nat_cmp id))) c.new-2.ensures))
