use Rattle.std.proofs.Common.{ap, ◌∙◌, arith, slice_index_or, slice_set}
use Rattle.std.proofs.lemmas.List.{get_or_default}
use Rattle.std.proofs.lemmas.List.Edits.{map_over_more}
use Rattle.kg_limit.specs.Counting.{left_after}
use Rattle.kg_limit.specs.Judging.{left_of}
use Rattle.kg_limit.specs.declared.window.Window.TheVariants.{Second}
use Rattle.kg_limit.proofs.limits.count_down.Goals as goal

pub loop-limit-preserved : goal.loop-limit-preserved
loop-limit-preserved c =
    let items = c.loop-limit.limit-items in
    let at = c.loop-limit.limit-index in
    let limit = slice_index_or items at (Second, 0) in
    ap (λ left. slice_set items at (limit.0, left)) (c.left_of-limit.ensures ∙ ap (λ used. left_of c.args.let_through used limit.1) c.used.ensures)
    ∙ map_over_more (left_after c.args.counts.now c.args.time c.args.let_through) c.args.limits.now items at limit
    c.loop-limit-test.true
    c.loop-limit.invariant
    (get_or_default items at (Second, 0) limit (omega (arith, c.loop-limit.auto.limit-items, c.loop-limit-test.true)))
