use Rattle.std.proofs.Common.{nat_eq, map, ap, subst}
use Rattle.std.specs.List.{IsDistinct}
use Rattle.kg_tables.proofs.table.RowTable.ids_differ.Goals as goal

pub returns : goal.returns
returns g c = subst (IsDistinct nat_eq) (ap (map g.T.Row.number) c.self.view_is) c.self.invariant.ids
