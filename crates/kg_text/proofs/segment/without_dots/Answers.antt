-- the segments come as `split` gives them, and are read as they come
use Rattle.std.proofs.Common.{eqb, refl, ap, ◌∙◌}
use Rattle.std.proofs.lemmas.List.{length_push}
use Rattle.std.proofs.lemmas.Iterator.Consumers.{YieldsList-turn, YieldsList-end}
use Rattle.kg_text.specs.Paths.{slash}
use Rattle.kg_text.proofs.SegmentLemmas.{segments_come, IsSpelled-more, IsSpelled-whole}
use Rattle.kg_text.proofs.segment.without_dots.Goals as goal

pub loop-segment-init : goal.loop-segment-init
loop-segment-init c = record { spells = c.in_ok-out.ensures.items; ends = refl }

pub loop-segment-preserved : goal.loop-segment-preserved
loop-segment-preserved c =
    let path = c.args.path.now in
    let split = c.split-segment-items.ensures in
    let come = segments_come _ path c.into_iter-segment-iterator.ensures.into_iter_gives split.rest split.done split.closure (λ x b q k. (refl, k.called.met ∙ ap (λ y. eqb y slash) k.shows)) in
    let here = YieldsList-turn come c.loop-segment.yielded _ c.loop-segment.yielded_by _ _ c.in-Some.segment c.in-Some.is c.next.ensures.steps in
    let taken = c.in_ok-ends_open.ensures in
    rw (length_push c.loop-segment.yielded c.in-Some.segment)
    (IsSpelled-more path _ _ _ _ _ _ here c.loop-segment.invariant taken.ok taken.dropped)

pub returns : goal.returns
returns c =
    let path = c.args.path.now in
    let split = c.split-segment-items.ensures in
    let come = segments_come _ path c.into_iter-segment-iterator.ensures.into_iter_gives split.rest split.done split.closure (λ x b q k. (refl, k.called.met ∙ ap (λ y. eqb y slash) k.shows)) in
    let all_came = (YieldsList-end come c.loop-segment.yielded _ c.loop-segment.yielded_by _ _ c.in-None.is c.next.ensures.steps).1 in
    c.in_ok-close.ensures ∙ IsSpelled-whole path _ _ _ all_came c.loop-segment.invariant
