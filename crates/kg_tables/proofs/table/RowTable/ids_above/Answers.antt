use Rattle.std.proofs.Common.{◌≡◌, IfOk, Ok, Err, map, nat_cmp, take, ap, ◌∙◌}
use Rattle.std.specs.BTreeMap.Range.{entries_between}
use Rattle.std.specs.Map.{keys_of}
use Rattle.std.specs.declared.ops.Bound.TheVariants.{Unbounded}
use Rattle.kg_tables.proofs.IdLemmas.{ids_are}
use Rattle.kg_tables.specs.IdOrder.{ids_above}
use Rattle.kg_tables.specs.PlaceIndexes.{place_at}
use Rattle.kg_tables.proofs.table.RowTable.ids_above.Goals as goal

-- the ids that have a place are those of the rows
pub returns : goal.returns
returns g c =
    let places = c.in_order.result.now.entries in
    (elim c.first_ids.result as (λ r. IfOk r (λ ids. ids ≡ keys_of (take c.args.most (entries_between nat_cmp c.start_of.result Unbounded places)))
    → IfOk r (λ ids. ids ≡ take c.args.most (ids_above c.args.offset (map g.T.Row.number c.args.self.now)))) [
      | Ok ids ↦ λ is. is
          ∙ ap (λ start. keys_of (take c.args.most (entries_between nat_cmp start Unbounded places))) c.start_of.ensures
          ∙ ids_are g.T.Row.number c.args.offset c.args.most c.self.inside.rows.entries places c.first_ids.ensures.order
          (λ id. ap (λ entries. place_at entries id) c.in_order.ensures ∙ c.self.invariant.found id)
          ∙ ap (λ rows. take c.args.most (ids_above c.args.offset (map g.T.Row.number rows))) c.self.view_is
      | Err _ ↦ λ none. none
    ]) c.first_ids.ensures.ids
