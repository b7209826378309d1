use Rattle.std.proofs.Common.{◌==◌, find, sym, ap, ◌∙◌}
use Rattle.std.specs.Option.{option_copied}
use Rattle.kg_row_values.proofs.GenerationLemmas.{replaced_keeps, none_replaced}
use Rattle.kg_row_values.proofs.generations.keeps_service.Goals as goal

-- the row of its id is the same
pub returns-in-Some : goal.returns-in-Some
returns-in-Some c =
    replaced_keeps (λ row. row.id == c.args.new.now.id) c.in-Some.old.now c.args.new.now c.args.rows.now.services c.is_same_service.result
    (ap (find (λ row. row.id == c.args.new.now.id)) (sym c.services.ensures) ∙ sym c.get.ensures.first ∙ ap option_copied c.in-Some.is) c.is_same_service.ensures

-- there is no row of its id
pub returns-in-None : goal.returns-in-None
returns-in-None c =
    none_replaced (λ row. row.id == c.args.new.now.id) c.args.new.now c.args.rows.now.services
    (ap (find (λ row. row.id == c.args.new.now.id)) (sym c.services.ensures) ∙ sym c.get.ensures.first ∙ ap option_copied c.in-None.is)
