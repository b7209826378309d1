use Rattle.std.proofs.Common.{◌<◌, arith, length, slice_index_or, subst}
use Rattle.std.proofs.lemmas.List.{get_or_default}
use Rattle.std.proofs.lemmas.List.Edits.{map_over_more}
use Rattle.kg_level2.specs.Claims.{touched_by_jump}
use Rattle.kg_level2.proofs.notes.touch_each.Goals as goal

pub loop-claim-preserved : goal.loop-claim-preserved
loop-claim-preserved g c =
    let items = c.loop-claim.claim-items in
    let at = c.loop-claim.claim-index in
    let claim = slice_index_or items at c.claim-item.result in
    map_over_more (touched_by_jump c.args.to) c.args.out.now.items items at claim
    (subst (λ claims. at < length claims) c.deref_mut-claim-items.ensures.value c.loop-claim-test.true)
    c.loop-claim.invariant
    (get_or_default items at c.claim-item.result claim (omega (arith, c.loop-claim.auto.claim-items, c.loop-claim-test.true)))
