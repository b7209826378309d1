use Rattle.std.proofs.Common.{nat_eq, ap, ◌∙◌}
use Rattle.std.specs.List.{list_any}
use Rattle.kg_tables.proofs.PlaceLemmas.{is_there}
use Rattle.kg_tables.proofs.table.RowTable.contains.Goals as goal

-- an id has a place exactly where a row has it
pub returns : goal.returns
returns g c =
    c.contains_key.ensures
    ∙ is_there g.T.Row.number _ _ _ _ _ c.self.invariant c.args.id
    ∙ ap (list_any (λ row. nat_eq (g.T.Row.number row) c.args.id)) c.self.view_is
