use Rattle.std.proofs.Common.{◌≡◌, All, IfOk, ap, subst, ◌∙◌}
use Rattle.kg_row_types.specs.ValidRows.{IsValidPlugin, IsValidRoute}
use Rattle.kg_router.specs.RouterRows.{HasDistinctRoutes}
use Rattle.kg_lone.specs.InsertedRows.{gateway_rows}
use Rattle.kg_lone.proofs.InsertedLemmas.{holds_of, rows_are}
use Rattle.kg_lone.proofs.rows.gateway_with.Goals as goal

-- the rows are valid, and the routes have distinct ids
pub gateway_over-gateway-requires-clause-routes : goal.gateway_over-gateway-requires-clause-routes
gateway_over-gateway-requires-clause-routes c =
    holds_of (λ lists. All IsValidRoute lists.routes) c.args.commands _ c.requires.inserts.inserts c.in-Ok.ensures c.requires.inserts.valid.routes

pub gateway_over-gateway-requires-clause-distinct : goal.gateway_over-gateway-requires-clause-distinct
gateway_over-gateway-requires-clause-distinct c =
    holds_of (λ lists. HasDistinctRoutes lists.routes) c.args.commands _ c.requires.inserts.inserts c.in-Ok.ensures c.requires.inserts.distinct.ids.routes

pub gateway_over-gateway-requires-clause-plugins : goal.gateway_over-gateway-requires-clause-plugins
gateway_over-gateway-requires-clause-plugins c =
    holds_of (λ lists. All IsValidPlugin lists.plugins) c.args.commands _ c.requires.inserts.inserts c.in-Ok.ensures c.requires.inserts.valid.plugins

-- they are the rows after the commands
pub returns-in-Ok : goal.returns-in-Ok
returns-in-Ok c =
    subst (λ rows. IfOk c.gateway_over-gateway.result (λ gateway. gateway ≡ rows))
    (rows_are c.args.commands c.in-Ok.listing c.args.rows c.len-count.result c.requires.inserts.inserts c.in-Ok.ensures c.requires.rows
    ∙ ap (gateway_rows c.args.rows) c.len-count.ensures) c.gateway_over-gateway.ensures
