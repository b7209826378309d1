use Rattle.std.proofs.Common.{sym, subst}
use Rattle.route_cases.proofs.RouteLemmas.{IsTable, no_routes}
use Rattle.route_cases.proofs.routes.Routes.new.Goals as goal

-- no routes are a table
pub invariant_of-result : goal.invariant_of-result
invariant_of-result c = subst IsTable (sym c.new.ensures) no_routes
