use Rattle.std.proofs.Common.{◌==◌, find, sym, ap, ◌∙◌}
use Rattle.std.specs.Option.{is_some, option_copied}
use Rattle.kg_row_values.proofs.Searches.{found_any}
use Rattle.kg_row_changes.proofs.admit.has_route_to.Goals as goal

pub returns-in-Some : goal.returns-in-Some
returns-in-Some c =
    sym (ap (λ found. is_some (option_copied found)) c.in-Some.is) ∙ ap is_some (c.first_of.ensures ∙ ap (find (λ route. route.service == c.args.service)) c.routes.ensures)
    ∙ found_any (λ route. route.service == c.args.service) c.args.rows.now.routes

pub returns-in-None : goal.returns-in-None
returns-in-None c =
    sym (ap (λ found. is_some (option_copied found)) c.in-None.is) ∙ ap is_some (c.first_of.ensures ∙ ap (find (λ route. route.service == c.args.service)) c.routes.ensures)
    ∙ found_any (λ route. route.service == c.args.service) c.args.rows.now.routes
