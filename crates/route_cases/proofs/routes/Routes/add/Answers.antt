use Rattle.std.proofs.Common.{nat_eq, ap, ◌∙◌}
use Rattle.std.specs.List.{list_any}
use Rattle.route_cases.proofs.RouteLemmas.{pushed}
use Rattle.route_cases.proofs.routes.Routes.add.Goals as goal

-- no route has the id of the one that is added
pub invariant_of-self : goal.invariant_of-self
invariant_of-self c =
    let new = ap (list_any (λ other. nat_eq c.args.route.id other.id)) c.self.view_is ∙ c.requires.new in
    pushed c.push.result c.args.route c.self.inside.list c.push.new.self c.self.invariant c.requires.valid new c.push.ensures.ok c.push.ensures.err
