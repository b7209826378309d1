-- the segments come as `split` gives them, and what is left decides
use Rattle.std.proofs.Common.{eqb, false, true, length, refl, sym, ap, ◌∙◌, arith}
use Rattle.std.proofs.lemmas.Bool.{and_parts, or_left, or_right}
use Rattle.std.proofs.lemmas.List.{length_push, drop_all}
use Rattle.std.proofs.lemmas.Iterator.Consumers.{YieldsList-turn, YieldsList-end}
use Rattle.kg_text.specs.Paths.{slash, segments}
use Rattle.kg_text.proofs.SegmentLemmas.{segments_come}
use Rattle.kg_text.proofs.DotLemmas.{is_plain, dot_free_is, plain_stops, plain_goes_on}
use Rattle.kg_text.proofs.segment.is_dot_free.Goals as goal
use Rattle.kg_text.proofs.segment.is_dot_free.Goals.{then-ended-via-then-ended, then-ended-via-else-ended+then-is_dots}

pub returns-then-ended : goal.returns-then-ended
returns-then-ended c =
    let path = c.args.path.now in
    let split = c.split-segment-items.ensures in
    let come = segments_come _ path c.into_iter-segment-iterator.ensures.into_iter_gives split.rest split.done split.closure (λ x b q k. (refl, k.called.met ∙ ap (λ y. eqb y slash) k.shows)) in
    let here = YieldsList-turn come c.loop-segment.yielded _ c.loop-segment.yielded_by _ _ c.in-Some.segment c.in-Some.is c.next.ensures.steps in
    let first = (and_parts _ _ c.requires).0 in
    elim c.then-ended.branch [
      | then-ended-via-then-ended w ↦
          dot_free_is path first false (c.loop-segment.invariant ∙ plain_stops (segments path) _ _ _ here (or_left _ _ w.if-ended.true))
      | then-ended-via-else-ended+then-is_dots w ↦
          dot_free_is path first false (c.loop-segment.invariant ∙ plain_stops (segments path) _ _ _ here (or_right _ _ (sym w.is_dots.ensures ∙ w.if-is_dots.true)))
    ]

pub loop-segment-preserved : goal.loop-segment-preserved
loop-segment-preserved c =
    let path = c.args.path.now in
    let split = c.split-segment-items.ensures in
    let come = segments_come _ path c.into_iter-segment-iterator.ensures.into_iter_gives split.rest split.done split.closure (λ x b q k. (refl, k.called.met ∙ ap (λ y. eqb y slash) k.shows)) in
    let here = YieldsList-turn come c.loop-segment.yielded _ c.loop-segment.yielded_by _ _ c.in-Some.segment c.in-Some.is c.next.ensures.steps in
    rw (length_push c.loop-segment.yielded c.in-Some.segment, c.is_empty-ended.ensures)
    (c.loop-segment.invariant ∙ plain_goes_on (segments path) _ _ _ here c.if-ended.false (sym c.is_dots.ensures ∙ c.if-is_dots.false))

pub returns : goal.returns
returns c =
    let path = c.args.path.now in
    let split = c.split-segment-items.ensures in
    let come = segments_come _ path c.into_iter-segment-iterator.ensures.into_iter_gives split.rest split.done split.closure (λ x b q k. (refl, k.called.met ∙ ap (λ y. eqb y slash) k.shows)) in
    let all_came = (YieldsList-end come c.loop-segment.yielded _ c.loop-segment.yielded_by _ _ c.in-None.is c.next.ensures.steps).1 in
    dot_free_is path (and_parts _ _ c.requires).0 true
    (c.loop-segment.invariant ∙ ap (λ left. is_plain c.loop-segment.ended left) (drop_all (length c.loop-segment.yielded) (segments path) (omega (arith, all_came))))
