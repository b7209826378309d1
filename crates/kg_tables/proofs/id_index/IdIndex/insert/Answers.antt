use Rattle.std.proofs.Common.{Some, nat_eq, ap, ◌∙◌}
use Rattle.std.specs.Map.{lookup}
use Rattle.indexmap.specs.IndexMap.{get}
use Rattle.kg_tables.specs.PlaceIndexes.{place_at}
use Rattle.kg_tables.proofs.IdIndexLemmas.{both_put}
use Rattle.kg_tables.proofs.id_index.IdIndex.insert.Goals as goal

pub invariant_of-self-2 : goal.invariant_of-self-2
invariant_of-self-2 c =
    both_put c.args.id (Some c.args.place) (get nat_eq c.reserve.new.self) (get nat_eq c.insert-2.new.self)
    (place_at c.self.inside.ordered.entries) (place_at c.insert.new.self.entries)
    (λ id. ap (lookup (nat_eq id)) c.reserve.ensures.entries ∙ c.self.invariant id)
    c.in-Ok.ensures.updates.0 c.in_ok-insert.ensures.updates.0
