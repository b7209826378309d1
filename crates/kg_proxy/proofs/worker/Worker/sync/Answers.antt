use Rattle.kg_proxy.proofs.WorkerLemmas.{both_synced}
use Rattle.kg_proxy.proofs.worker.Worker.sync.Goals as goal

pub invariant_of-self : goal.invariant_of-self
invariant_of-self c =
    let w = c.self.inside in
    both_synced w.number w.keys w.gens c.self.invariant c.args.from c.args.to c.args.events.now c.in-Since.keys c.in-Since.gens c.sync.new.self c.sync-in-Since.new.self
    c.requires.all c.in-Since.is c.sync.ensures c.sync-in-Since.ensures
