use Rattle.std.proofs.Common.{ap, ◌∙◌}
use Rattle.std.specs.Arc.{arc_value}
use Rattle.kg_course.specs.declared.want.Want.TheVariants as want
use Rattle.kg_visit.specs.Told.{want_after}
use Rattle.kg_visit.proofs.GiveLemmas.{asker_is_known, not_given, not_lost, taken_is, use_told}
use Rattle.kg_visit.proofs.visit.Visit.give_entity.Goals as goal

pub take_key-key-requires : goal.take_key-key-requires
take_key-key-requires c =
    let v = c.self.inside in
    let fits = not_lost (arc_value v.router) (arc_value v.plugins) v.stage v.moment v.uses v.verdicts v.upstream v.given v.want v.lost (ap (λ told. told.lost) c.self.view_is ∙ c.requires.whole) c.self.invariant in
    (c.args.used.key, fits.current ∙ ap want_after c.self.view_is ∙ c.requires.wanted)

pub keep-requires-clause-same : goal.keep-requires-clause-same
keep-requires-clause-same c =
    let v = c.self.inside in
    let fits = not_lost (arc_value v.router) (arc_value v.plugins) v.stage v.moment v.uses v.verdicts v.upstream v.given v.want v.lost (ap (λ told. told.lost) c.self.view_is ∙ c.requires.whole) c.self.invariant in
    taken_is (arc_value v.router) (arc_value v.plugins) v.moment v.uses v.verdicts v.upstream v.given v.stage v.want c.take_key-key.result c.args.used.key fits
    c.take_key-key.ensures (ap want_after c.self.view_is ∙ c.requires.wanted)

pub keep-requires-clause-new : goal.keep-requires-clause-new
keep-requires-clause-new c =
    let v = c.self.inside in
    let fits = not_lost (arc_value v.router) (arc_value v.plugins) v.stage v.moment v.uses v.verdicts v.upstream v.given v.want v.lost (ap (λ told. told.lost) c.self.view_is ∙ c.requires.whole) c.self.invariant in
    not_given (arc_value v.router) (arc_value v.plugins) v.moment v.uses v.verdicts v.upstream v.given v.stage v.want c.args.used.key fits
    (ap want_after c.self.view_is ∙ c.requires.wanted)

pub invariant_of-self-2 : goal.invariant_of-self-2
invariant_of-self-2 c =
    let v = c.self.inside in
    let fits = not_lost (arc_value v.router) (arc_value v.plugins) v.stage v.moment v.uses v.verdicts v.upstream v.given v.want v.lost (ap (λ told. told.lost) c.self.view_is ∙ c.requires.whole) c.self.invariant in
    λ whole.
    use_told (arc_value v.router) (arc_value v.plugins) c.deref.result.now v.moment v.uses c.keep.new.uses v.verdicts v.upstream v.given c.keep.new.given v.stage c.renew_want.new.stage v.want c.renew_want.new.want
    c.args.used c.deref.ensures c.in_ok-keep.ensures.uses c.in_ok-keep.ensures.given fits (ap want_after c.self.view_is ∙ c.requires.wanted) c.in_ok-renew_want.ensures

-- the row that asked is known
pub renew_want-requires : goal.renew_want-requires
renew_want-requires c =
    let v = c.self.inside in
    let fits = not_lost (arc_value v.router) (arc_value v.plugins) v.stage v.moment v.uses v.verdicts v.upstream v.given v.want v.lost (ap (λ told. told.lost) c.self.view_is ∙ c.requires.whole) c.self.invariant in
    record {
      known =
          asker_is_known (arc_value v.router) (arc_value v.plugins) c.deref.result.now v.moment v.uses v.verdicts v.upstream v.given v.stage v.want (want.Entity c.args.used.key)
          c.deref.ensures fits (fits.current ∙ ap want_after c.self.view_is ∙ c.requires.wanted) tt;
    }
