use Rattle.std.proofs.Common.{find, filter, nat_eq, option_to_list, option_copied, sym, ap, ◌∙◌}
use Rattle.std.specs.Map.{values_of}
use Rattle.kg_tables.proofs.PlaceLemmas.{at_place, no_place}
use Rattle.kg_tables.proofs.TableLemmas.{only_one}
use Rattle.kg_tables.proofs.table.RowTable.get.Goals as goal

-- no row has the id
pub returns-in_err-get-clause-first : goal.returns-in_err-get-clause-first
returns-in_err-get-clause-first g c =
    ap option_copied c.from_residual.ensures
    ∙ sym (no_place g.T.Row.number _ _ _ _ _ c.self.invariant c.args.id (sym c.get.ensures.value ∙ ap option_copied c.in_err-get.was))
    ∙ ap (find (λ row. nat_eq (g.T.Row.number row) c.args.id)) c.self.view_is

pub returns-in_err-get-clause-only : goal.returns-in_err-get-clause-only
returns-in_err-get-clause-only g c =
    ap option_to_list (ap option_copied c.from_residual.ensures
    ∙ sym (no_place g.T.Row.number _ _ _ _ _ c.self.invariant c.args.id (sym c.get.ensures.value ∙ ap option_copied c.in_err-get.was)))
    ∙ only_one g.T.Row.number c.args.id (values_of c.self.inside.rows.entries) c.self.invariant.ids
    ∙ ap (filter (λ row. nat_eq (g.T.Row.number row) c.args.id)) c.self.view_is

-- the row at the place of the id is the first with it
pub returns-clause-first : goal.returns-clause-first
returns-clause-first g c =
    c.get-2.ensures.value
    ∙ at_place g.T.Row.number _ _ _ _ _ c.self.invariant c.args.id c.in_ok-get.field-0.now (sym c.get.ensures.value ∙ ap option_copied c.in_ok-get.was)
    ∙ ap (find (λ row. nat_eq (g.T.Row.number row) c.args.id)) c.self.view_is

pub returns-clause-only : goal.returns-clause-only
returns-clause-only g c =
    ap option_to_list (c.get-2.ensures.value
    ∙ at_place g.T.Row.number _ _ _ _ _ c.self.invariant c.args.id c.in_ok-get.field-0.now (sym c.get.ensures.value ∙ ap option_copied c.in_ok-get.was))
    ∙ only_one g.T.Row.number c.args.id (values_of c.self.inside.rows.entries) c.self.invariant.ids
    ∙ ap (filter (λ row. nat_eq (g.T.Row.number row) c.args.id)) c.self.view_is
