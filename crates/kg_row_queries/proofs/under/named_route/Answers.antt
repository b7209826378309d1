use Rattle.std.proofs.Common.{◌∙◌, sym}
use Rattle.kg_row_types.specs.Lookups.{is_text}
use Rattle.kg_row_queries.specs.Selections.{is_route_under}
use Rattle.kg_row_queries.proofs.BelowLemmas.{first_is_below, none_is_below}
use Rattle.kg_row_queries.proofs.under.named_route.Goals as goal

-- the first of all is the first of those below
pub returns-then-is_below : goal.returns-then-is_below
returns-then-is_below c =
    first_is_below (is_route_under c.args.upper c.args.above) (λ row. is_text c.args.text.now row.name) c.args.rows.now.routes c.in-Some.row.now c.in-Some.ensures (sym c.is_below.ensures ∙ c.if-is_below.true)

pub returns-in-None : goal.returns-in-None
returns-in-None c = none_is_below (is_route_under c.args.upper c.args.above) (λ row. is_text c.args.text.now row.name) c.args.rows.now.routes c.in-None.ensures
