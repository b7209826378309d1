use Rattle.std.proofs.Common.{◌≡◌, ◌↔◌, IsTrue, not, sym, ap, subst, ◌∙◌}
use Rattle.kg_row_types.specs.declared.key.GenKey.TheVariants.{Router}
use Rattle.kg_row_values.specs.Rows.{changed, deleted}
use Rattle.kg_row_values.specs.Values.{generation_of}
use Rattle.kg_row_values.proofs.GenerationLemmas.{services_gone, routes_gone}
use Rattle.kg_row_values.proofs.generations.keeps_router.Goals as goal

pub returns-in-Service-kind : goal.returns-in-Service-kind
returns-in-Service-kind c =
    subst (λ after. IsTrue (not c.contains.result) ↔ (generation_of c.args.rows.now Router ≡ generation_of after Router))
    (sym (ap (λ command. changed command c.args.rows.now) c.in-Delete.is ∙ ap (λ kind. deleted kind c.in-Delete.id c.args.rows.now) c.in-Service-kind.is))
    (services_gone c.args.rows.now c.in-Delete.id c.contains.result c.contains.ensures)

pub returns-in-Route-kind : goal.returns-in-Route-kind
returns-in-Route-kind c =
    subst (λ after. IsTrue (not c.contains-in-Route-kind.result) ↔ (generation_of c.args.rows.now Router ≡ generation_of after Router))
    (sym (ap (λ command. changed command c.args.rows.now) c.in-Delete.is ∙ ap (λ kind. deleted kind c.in-Delete.id c.args.rows.now) c.in-Route-kind.is))
    (routes_gone c.args.rows.now c.in-Delete.id c.contains-in-Route-kind.result c.contains-in-Route-kind.ensures)
