use Rattle.std.proofs.lemmas.Result.{IfOk-weaker}
use Rattle.kg_level1.specs.Reading.{live_entry}
use Rattle.kg_proxy.specs.Workers.{IsWorker, kind_eq}
use Rattle.kg_proxy.proofs.WorkerLemmas.{after_call, gens_asked, held_kind}
use Rattle.kg_proxy.proofs.worker.Worker.held.Goals as goal

pub invariant_of-self : goal.invariant_of-self
invariant_of-self c =
    let w = c.self.inside in
    after_call (λ gens. IsWorker (record { number = w.number; keys = w.keys; gens = gens })) c.get.result w.gens _ c.get.new.self c.get.ensures.after c.get.ensures.same
    c.self.invariant (gens_asked w.number w.keys w.gens c.self.invariant c.args.which (live_entry kind_eq w.gens c.args.which c.args.now))

pub returns-clause-kind : goal.returns-clause-kind
returns-clause-kind c =
    let w = c.self.inside in
    IfOk-weaker c.get.result _ _ (held_kind w.number w.keys w.gens c.self.invariant c.args.which c.args.now) c.get.ensures.found
