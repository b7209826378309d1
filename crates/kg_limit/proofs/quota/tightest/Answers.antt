use Rattle.std.proofs.Common.{rules, ◌∷◌, [], length, take, map, zip, Some, None, ap, sym, ◌∙◌}
use Rattle.std.proofs.lemmas.List.{length_push}
use Rattle.std.proofs.lemmas.List.Sums.{fold-append}
use Rattle.std.proofs.lemmas.Slice.Zip.{zip_turn, zip_end}
use Rattle.kg_limit.specs.LimitHeaders.{quota_of, tighter, tightest}
use Rattle.kg_limit.proofs.ZipLemmas.{zip_more, zip_all}
use Rattle.kg_limit.proofs.quota.tightest.Goals as goal

pub loop-limit-preserved : goal.loop-limit-preserved
loop-limit-preserved c =
    let limits = c.args.limits.now in
    let left = c.args.left.now in
    let so_far = c.loop-limit.yielded in
    let quotas = map quota_of (zip limits left) in
    let quota = quota_of (c.in-Some.limit.now, c.in-Some.left.now) in
    let t = zip_turn limits left so_far c.into_iter-limit-iterator.result c.loop-limit.limit-iterator c.next.new.self c.next.result (search rules) (search rules) c.loop-limit.yielded_by _ c.in-Some.is c.next.ensures.steps in
    ap Some (c.tighter.ensures ∙ ap (tighter c.loop-limit.found) c.of.ensures)
    ∙ ap (λ found. Some (tighter found quota)) c.loop-limit.invariant
    ∙ sym (fold-append (λ found one. Some (tighter found one)) None (take (length so_far) quotas) (quota ∷ []))
    ∙ ap tightest (sym (zip_more quota_of limits left (length so_far) _ _ t.0 t.1 t.2 t.3))
    ∙ ap (λ n. tightest (take n quotas)) (sym (length_push so_far (c.in-Some.limit, c.in-Some.left)))

pub returns : goal.returns
returns c =
    let limits = c.args.limits.now in
    let left = c.args.left.now in
    let so_far = c.loop-limit.yielded in
    c.loop-limit.invariant
    ∙ ap tightest (zip_all quota_of limits left (length so_far) (zip_end limits left so_far c.into_iter-limit-iterator.result c.loop-limit.limit-iterator c.next.new.self c.next.result (search rules) (search rules) c.loop-limit.yielded_by c.in-None.is c.next.ensures.steps))
