use Rattle.std.proofs.Common.{ap, sym}
use Rattle.std.specs.Arc.{arc_value}
use Rattle.kg_visit.specs.Told.{Use}
use Rattle.kg_proxy.specs.Workers.{IsWorker}
use Rattle.kg_proxy.proofs.WorkerLemmas.{after_call, copy_fits, keys_put}
use Rattle.kg_proxy.proofs.worker.Worker.keep.Goals as goal

pub invariant_of-self : goal.invariant_of-self
invariant_of-self c =
    let w = c.self.inside in
    after_call (λ keys. IsWorker (record { number = w.number; keys = keys; gens = w.gens })) c.put.result w.keys _ c.put.new.self c.put.ensures.ok c.put.ensures.err
    c.self.invariant (keys_put w.number w.keys w.gens c.self.invariant c.in_ok-key.key (record { val = arc_value c.in_ok-val.val; stamp = c.used.inside.at; expires = c.args.expires })
    (copy_fits c.args.used.now c.in_ok-key.key c.used.inside.key (arc_value c.in_ok-val.val) (arc_value c.used.inside.value) c.in_ok-key.ensures c.in_ok-val.ensures
    (ap (λ (used : Use). used.key) (sym c.used.view_is)) (ap (λ (used : Use). used.value) (sym c.used.view_is)) c.requires.fits))
