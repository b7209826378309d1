use Rattle.std.proofs.Common.{Some, ap, subst}
use Rattle.kg_level1.specs.Entries.{Level}
use Rattle.kg_level1.specs.Reading.{live_entry}
use Rattle.kg_row_types.specs.declared.key.Key.{Key}
use Rattle.kg_row_types.specs.declared.value.Value.{Value}
use Rattle.kg_proxy.specs.Advancing.{OwnUse}
use Rattle.kg_proxy.specs.Workers.{HasSameHolding, Holding, IsWorker, key_eq}
use Rattle.kg_proxy.proofs.AdvanceLemmas.{same_holding}
use Rattle.kg_proxy.proofs.WorkerLemmas.{after_call, asked_same, keys_asked, own_fits, own_is}
use Rattle.kg_proxy.proofs.worker.Worker.own_use.Goals as goal

pub invariant_of-self-2 : goal.invariant_of-self-2
invariant_of-self-2 c =
    let w = c.self.inside in
    after_call (λ keys. IsWorker (record { number = w.number; keys = keys; gens = w.gens })) c.get.result w.keys _ c.get.new.self c.get.ensures.after c.get.ensures.same
    c.self.invariant (keys_asked w.number w.keys w.gens c.self.invariant c.in-Entity.key (live_entry key_eq w.keys c.in-Entity.key c.args.now))

pub returns-clause-same : goal.returns-clause-same
returns-clause-same c =
    let w = c.self.inside in
    subst (λ first. HasSameHolding first (record { number = w.number; keys = c.get.new.self; gens = w.gens })) c.self.view_is
    (after_call (λ keys. HasSameHolding (record { number = w.number; keys = w.keys; gens = w.gens }) (record { number = w.number; keys = keys; gens = w.gens })) c.get.result w.keys _ c.get.new.self
    c.get.ensures.after c.get.ensures.same (same_holding _) (asked_same w.number w.keys w.gens c.in-Entity.key (live_entry key_eq w.keys c.in-Entity.key c.args.now)))

pub returns-clause-used : goal.returns-clause-used
returns-clause-used c =
    subst (λ (l : Level Key Value). OwnUse l c.args.now c.args.want.now (Some c.in_ok-own_value.field-0)) (ap (λ (w : Holding). w.keys) c.self.view_is)
    (own_is c.self.inside.keys c.args.now c.args.want.now c.in-Entity.key c.in_ok-held.field-0 c.in-Some.held c.in_ok-own_value.field-0 c.in-Entity.is
    c.in_ok-held.ensures.found c.in-Some.is c.in_ok-own_value.ensures)

pub returns-clause-fits : goal.returns-clause-fits
returns-clause-fits c =
    let w = c.self.inside in
    own_fits w.number w.keys w.gens c.self.invariant c.in-Entity.key c.args.now c.in_ok-held.field-0 c.in-Some.held c.in_ok-own_value.field-0
    c.in_ok-held.ensures.found c.in-Some.is c.in_ok-own_value.ensures

-- the same where the key can't be copied
pub invariant_of-self-in_err-own_value : goal.invariant_of-self-in_err-own_value
invariant_of-self-in_err-own_value c =
    let w = c.self.inside in
    after_call (λ keys. IsWorker (record { number = w.number; keys = keys; gens = w.gens })) c.get.result w.keys _ c.get.new.self c.get.ensures.after c.get.ensures.same
    c.self.invariant (keys_asked w.number w.keys w.gens c.self.invariant c.in-Entity.key (live_entry key_eq w.keys c.in-Entity.key c.args.now))

pub returns-in_err-own_value-clause-same : goal.returns-in_err-own_value-clause-same
returns-in_err-own_value-clause-same c =
    let w = c.self.inside in
    subst (λ first. HasSameHolding first (record { number = w.number; keys = c.get.new.self; gens = w.gens })) c.self.view_is
    (after_call (λ keys. HasSameHolding (record { number = w.number; keys = w.keys; gens = w.gens }) (record { number = w.number; keys = keys; gens = w.gens })) c.get.result w.keys _ c.get.new.self
    c.get.ensures.after c.get.ensures.same (same_holding _) (asked_same w.number w.keys w.gens c.in-Entity.key (live_entry key_eq w.keys c.in-Entity.key c.args.now)))
