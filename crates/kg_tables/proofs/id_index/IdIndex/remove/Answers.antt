use Rattle.std.proofs.Common.{None, nat_eq}
use Rattle.indexmap.specs.IndexMap.{get}
use Rattle.kg_tables.specs.PlaceIndexes.{place_at}
use Rattle.kg_tables.proofs.IdIndexLemmas.{both_put}
use Rattle.kg_tables.proofs.id_index.IdIndex.remove.Goals as goal

pub invariant_of-self : goal.invariant_of-self
invariant_of-self c =
    both_put c.args.id.now None (get nat_eq c.self.inside.hashed) (get nat_eq c.swap_remove.new.self)
    (place_at c.self.inside.ordered.entries) (place_at c.remove.new.self.entries)
    c.self.invariant c.swap_remove.ensures.updates.0 c.remove.ensures.updates.0
