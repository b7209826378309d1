use Rattle.kg_tables.proofs.PairLemmas.{has_places}
use Rattle.kg_tables.proofs.listing.PlaceIndex.of.Goals as goal

-- the range has the pairs of the id
pub returns : goal.returns
returns c = has_places c.args.id c.args.end c.args.self.now c.range.result (c.range.ensures.between tt) c.range.ensures.ordered
