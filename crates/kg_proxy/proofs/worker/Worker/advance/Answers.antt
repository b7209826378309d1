use Rattle.std.proofs.Common.{◌-◌, ◌<◌, ap, subst, sym, ◌∙◌}
use Rattle.kg_visit.specs.Told.{Told, want_after}
use Rattle.kg_proxy.specs.Advancing.{Advances, Stays}
use Rattle.kg_proxy.proofs.AdvanceLemmas.{advances_more, fewer_left, own_of, passed_by_now, same_holding, same_holding_then, wanted_use}
use Rattle.kg_proxy.proofs.worker.Worker.advance.Goals as goal

pub loop-used-init : goal.loop-used-init
loop-used-init c = (same_holding c.args.self.now, Stays, c.requires.whole)

-- a question less is left
pub loop-used-smaller : goal.loop-used-smaller
loop-used-smaller c =
    let told = c.loop-used.visit in
    let own = own_of c.loop-used.self.keys c.args.now c.want.result.now (want_after told) c.in_ok-used.field-0 c.in-Some.used (c.want.ensures c.loop-used.invariant.2) c.in-Some.is c.in_ok-used.ensures.used in
    subst (λ (next : Told). 9 - passed_by_now next < 9 - passed_by_now told) (sym c.in_ok-give_entity.ensures)
    (fewer_left told c.in-Some.used (wanted_use c.loop-used.self c.args.now told c.in-Some.used own))

-- and one more is answered, by what the level held at first
pub loop-used-preserved : goal.loop-used-preserved
loop-used-preserved c =
    let told = c.loop-used.visit in
    let own = own_of c.loop-used.self.keys c.args.now c.want.result.now (want_after told) c.in_ok-used.field-0 c.in-Some.used (c.want.ensures c.loop-used.invariant.2) c.in-Some.is c.in_ok-used.ensures.used in (
      same_holding_then c.args.self.now c.loop-used.self c.own_use.new.self c.loop-used.invariant.0 c.in_ok-used.ensures.same,
      subst (Advances c.args.self.now.keys c.args.now c.args.visit.now) (sym c.in_ok-give_entity.ensures)
          (advances_more c.args.self.now c.loop-used.self c.args.now c.args.visit.now told c.in-Some.used c.loop-used.invariant.0 c.loop-used.invariant.1 own),
      ap (λ (next : Told). next.lost) c.in_ok-give_entity.ensures ∙ c.loop-used.invariant.2,
    )
