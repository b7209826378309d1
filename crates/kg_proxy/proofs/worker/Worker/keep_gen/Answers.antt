use Rattle.std.specs.Arc.{arc_value}
use Rattle.kg_proxy.specs.Workers.{IsWorker}
use Rattle.kg_proxy.proofs.WorkerLemmas.{after_call, gens_put}
use Rattle.kg_proxy.proofs.worker.Worker.keep_gen.Goals as goal

pub invariant_of-self : goal.invariant_of-self
invariant_of-self c =
    let w = c.self.inside in
    after_call (λ gens. IsWorker (record { number = w.number; keys = w.keys; gens = gens })) c.put.result w.gens _ c.put.new.self c.put.ensures.ok c.put.ensures.err
    c.self.invariant (gens_put w.number w.keys w.gens c.self.invariant c.args.which (record { val = arc_value c.args.built; stamp = c.args.at; expires = 0 }) c.requires.kind)
