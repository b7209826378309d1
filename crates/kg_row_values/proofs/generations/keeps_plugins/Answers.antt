use Rattle.std.proofs.Common.{◌≡◌, ◌↔◌, ◌==◌, IsTrue, not, sym, ap, subst, ◌∙◌}
use Rattle.kg_row_types.specs.declared.key.GenKey.TheVariants.{Plugins}
use Rattle.kg_row_values.specs.Rows.{changed, deleted}
use Rattle.kg_row_values.specs.Values.{generation_of}
use Rattle.kg_row_types.specs.RowChanges.{names_row}
use Rattle.kg_row_types.specs.declared.entity.Kind.TheVariants as kind
use Rattle.kg_row_values.proofs.GenerationLemmas.{plugins_gone}
use Rattle.kg_row_values.proofs.generations.keeps_plugins.Goals as goal

pub returns-in-Service-kind : goal.returns-in-Service-kind
returns-in-Service-kind c =
    subst (λ after. IsTrue (not c.names_one.result) ↔ (generation_of c.args.rows.now Plugins ≡ generation_of after Plugins))
    (sym (ap (λ command. changed command c.args.rows.now) c.in-Delete.is ∙ ap (λ kind. deleted kind c.in-Delete.id c.args.rows.now) c.in-Service-kind.is))
    (plugins_gone c.args.rows.now c.in-Delete.id c.names_one.result (names_row kind.Service c.in-Delete.id) c.names_one.ensures)

pub returns-in-Route-kind : goal.returns-in-Route-kind
returns-in-Route-kind c =
    subst (λ after. IsTrue (not c.names_one-in-Route-kind.result) ↔ (generation_of c.args.rows.now Plugins ≡ generation_of after Plugins))
    (sym (ap (λ command. changed command c.args.rows.now) c.in-Delete.is ∙ ap (λ kind. deleted kind c.in-Delete.id c.args.rows.now) c.in-Route-kind.is))
    (plugins_gone c.args.rows.now c.in-Delete.id c.names_one-in-Route-kind.result (names_row kind.Route c.in-Delete.id) c.names_one-in-Route-kind.ensures)

pub returns-in-Consumer-kind : goal.returns-in-Consumer-kind
returns-in-Consumer-kind c =
    subst (λ after. IsTrue (not c.names_one-in-Consumer-kind.result) ↔ (generation_of c.args.rows.now Plugins ≡ generation_of after Plugins))
    (sym (ap (λ command. changed command c.args.rows.now) c.in-Delete.is ∙ ap (λ kind. deleted kind c.in-Delete.id c.args.rows.now) c.in-Consumer-kind.is))
    (plugins_gone c.args.rows.now c.in-Delete.id c.names_one-in-Consumer-kind.result (names_row kind.Consumer c.in-Delete.id) c.names_one-in-Consumer-kind.ensures)

pub returns-in-Plugin-kind : goal.returns-in-Plugin-kind
returns-in-Plugin-kind c =
    subst (λ after. IsTrue (not c.contains.result) ↔ (generation_of c.args.rows.now Plugins ≡ generation_of after Plugins))
    (sym (ap (λ command. changed command c.args.rows.now) c.in-Delete.is ∙ ap (λ kind. deleted kind c.in-Delete.id c.args.rows.now) c.in-Plugin-kind.is))
    (plugins_gone c.args.rows.now c.in-Delete.id c.contains.result (λ row. row.id == c.in-Delete.id) c.contains.ensures)
