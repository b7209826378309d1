use Rattle.std.proofs.Common.{filter, map}
use Rattle.kg_tables.specs.IdOrder.{is_above}
use Rattle.kg_tables.specs.References.{refers}
use Rattle.kg_row_queries.proofs.PageLemmas.{ids_in_order}
use Rattle.kg_row_queries.proofs.pages.ids_below.Goals as goal

-- what was put in one after another stands in order
pub returns : goal.returns
returns g c =
    rw (
      c.in_ok-put_ids.ensures,
      c.new-ids.ensures.empty,
      c.of.ensures,
      ids_in_order (filter (is_above c.args.offset) (map g.T.Row.number (filter (λ row. refers c.args.upper c.args.above (g.T.Row.references row)) c.args.rows.now))),
    ) at c.listed.ensures
