use Rattle.std.proofs.Common.{ap, ◌∙◌}
use Rattle.std.specs.Arc.{arc_value}
use Rattle.kg_visit.specs.Told.{want_after}
use Rattle.kg_visit.proofs.GiveLemmas.{not_lost, upstream_told}
use Rattle.kg_visit.proofs.visit.Visit.give_upstream.Goals as goal

pub invariant_of-self-2 : goal.invariant_of-self-2
invariant_of-self-2 c =
    let v = c.self.inside in
    let fits = not_lost (arc_value v.router) (arc_value v.plugins) v.stage v.moment v.uses v.verdicts v.upstream v.given v.want v.lost (ap (λ told. told.lost) c.self.view_is ∙ c.requires.whole) c.self.invariant in
    λ whole.
    upstream_told (arc_value v.router) (arc_value v.plugins) c.deref.result.now v.moment v.uses v.verdicts v.upstream c.replace.new.self v.given v.stage v.want c.replace-2.new.dest
    c.requires.wanted.0 c.args.upstream c.in_ok-reply.field-0 c.deref.ensures c.replace.ensures.after c.replace-2.ensures.after fits (ap want_after c.self.view_is ∙ c.requires.wanted.1) c.in_ok-reply.ensures
