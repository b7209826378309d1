use Rattle.std.proofs.Common.{◌==◌, find, sym, ap, ◌∙◌}
use Rattle.std.specs.Option.{option_copied}
use Rattle.kg_row_values.proofs.GenerationLemmas.{replaced_keeps, none_replaced}
use Rattle.kg_row_values.proofs.generations.keeps_route.Goals as goal

-- the row of its id is the same
pub returns-in-Some : goal.returns-in-Some
returns-in-Some c =
    replaced_keeps (λ row. row.id == c.args.new.now.id) c.in-Some.old.now c.args.new.now c.args.rows.now.routes c.is_same_route.result
    (ap (find (λ row. row.id == c.args.new.now.id)) (sym c.routes.ensures) ∙ sym c.get.ensures.first ∙ ap option_copied c.in-Some.is) c.is_same_route.ensures

-- there is no row of its id
pub returns-in-None : goal.returns-in-None
returns-in-None c =
    none_replaced (λ row. row.id == c.args.new.now.id) c.args.new.now c.args.rows.now.routes
    (ap (find (λ row. row.id == c.args.new.now.id)) (sym c.routes.ensures) ∙ sym c.get.ensures.first ∙ ap option_copied c.in-None.is)
