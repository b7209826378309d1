use Rattle.std.proofs.Common.{ap, ◌∙◌}
use Rattle.std.specs.Arc.{arc_value}
use Rattle.kg_course.specs.declared.want.Want.TheVariants as want
use Rattle.kg_visit.specs.Told.{want_after}
use Rattle.kg_visit.proofs.GiveLemmas.{asker_is_known, not_lost, verdict_told}
use Rattle.kg_visit.proofs.visit.Visit.give_verdict.Goals as goal

pub invariant_of-self-2 : goal.invariant_of-self-2
invariant_of-self-2 c =
    let v = c.self.inside in
    let fits = not_lost (arc_value v.router) (arc_value v.plugins) v.stage v.moment v.uses v.verdicts v.upstream v.given v.want v.lost (ap (λ told. told.lost) c.self.view_is ∙ c.requires.whole) c.self.invariant in
    λ whole.
    verdict_told (arc_value v.router) (arc_value v.plugins) c.deref.result.now v.moment v.uses v.verdicts c.push.new.self v.upstream v.given v.stage c.renew_want.new.stage v.want c.renew_want.new.want
    c.requires.wanted.0 c.args.verdict c.deref.ensures c.in_ok-push.ensures.ok fits (ap want_after c.self.view_is ∙ c.requires.wanted.1) c.in_ok-renew_want.ensures

-- the row that asked is known
pub renew_want-requires : goal.renew_want-requires
renew_want-requires c =
    let v = c.self.inside in
    let fits = not_lost (arc_value v.router) (arc_value v.plugins) v.stage v.moment v.uses v.verdicts v.upstream v.given v.want v.lost (ap (λ told. told.lost) c.self.view_is ∙ c.requires.whole) c.self.invariant in
    record {
      known =
          asker_is_known (arc_value v.router) (arc_value v.plugins) c.deref.result.now v.moment v.uses v.verdicts v.upstream v.given v.stage v.want (want.Count c.requires.wanted.0)
          c.deref.ensures fits (fits.current ∙ ap want_after c.self.view_is ∙ c.requires.wanted.1) tt;
    }
