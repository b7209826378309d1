use Rattle.indexmap.proofs.CallerLemmas.{updates-with_value_at}
use Rattle.kg_limit.proofs.CountLemmas.{key_laws}
use Rattle.kg_limit.proofs.count_table.CountTable.set.Goals as goal

pub returns : goal.returns
returns c = λ key stands. (updates-with_value_at c.args.self.now.entries c.args.index c.args.counts key_laws c.pair_mut-kept.ensures.unique key stands.0 stands.1).0
