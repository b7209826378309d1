-- Pages of rows: those of a kind, all or those under a parent, in the order of their ids (Kong Admin API,
-- lists; the offset is an id).
use Rattle.std.specs.Prelude.{ℕ, nat_lt, List, map, take, length, Option, option_map}
use Rattle.std.specs.List.{flat_map}
use Rattle.std.specs.Option.{option_to_list}
use Rattle.kg_row_types.specs.RowLists.{RowLists}
use Rattle.kg_row_types.specs.declared.entity.Kind.{Kind}
use Rattle.kg_row_types.specs.declared.entity.Kind.TheVariants as kind
use Rattle.kg_row_queries.specs.Selections.{collection_of, row_with_id, rows_in}
use Rattle.kg_row_queries.specs.declared.pages.Page.{Page}
use Rattle.kg_row_queries.specs.declared.select.Parent.{Parent}
use Rattle.kg_tables.specs.IdOrder.{ids_above as in_order_above}

-- the ids of a kind's rows
abbrev pub ids_of : Kind → RowLists → List ℕ
ids_of kind.Service rows = map (λ row. row.id) rows.services
ids_of kind.Route rows = map (λ row. row.id) rows.routes
ids_of kind.Consumer rows = map (λ row. row.id) rows.consumers
ids_of kind.KeyCred rows = map (λ row. row.id) rows.key_creds
ids_of kind.BasicCred rows = map (λ row. row.id) rows.basic_creds
ids_of kind.Acl rows = map (λ row. row.id) rows.acls
ids_of kind.Plugin rows = map (λ row. row.id) rows.plugins

-- the ids above the offset, if there is one, from the least to the greatest
abbrev pub ids_above : Kind → Option ℕ → RowLists → List ℕ
ids_above kind offset rows = in_order_above offset (ids_of kind rows)

-- the rows of the first ids above the offset, at most so many, and whether more follow
abbrev pub page_in : Kind → Option ℕ → ℕ → RowLists → Page
page_in kind offset size rows = record {
  rows = flat_map (λ id. option_to_list (row_with_id kind id rows)) (take size (ids_above kind offset rows));
  more = nat_lt size (length (ids_above kind offset rows));
}

-- the page among the rows under a parent, or among all: none where the parent is missing
abbrev pub page_of : Kind → Option Parent → Option ℕ → ℕ → RowLists → Option Page
page_of kind parent offset size rows = option_map (λ collection. page_in kind offset size (rows_in collection rows)) (collection_of parent rows)
