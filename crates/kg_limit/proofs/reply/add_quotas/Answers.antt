use Rattle.std.proofs.Common.{rules, ◌++◌, flat_map, length, take, map, zip, ap, sym, ◌∙◌}
use Rattle.std.proofs.lemmas.List.{flat_map_more, length_push}
use Rattle.std.proofs.lemmas.Slice.Zip.{zip_turn, zip_end}
use Rattle.kg_limit.specs.LimitHeaders.{quota_fields, quota_of}
use Rattle.kg_limit.proofs.ZipLemmas.{zip_more, zip_all}
use Rattle.kg_limit.proofs.reply.add_quotas.Goals as goal

pub loop-limit-preserved : goal.loop-limit-preserved
loop-limit-preserved c =
    let old = c.args.headers.now in
    let limits = c.args.limits.now in
    let left = c.args.left.now in
    let so_far = c.loop-limit.yielded in
    let quotas = map quota_of (zip limits left) in
    let quota = quota_of (c.in-Some.limit.now, c.in-Some.left.now) in
    let t = zip_turn limits left so_far c.into_iter-limit-iterator.result c.loop-limit.limit-iterator c.next.new.self c.next.result (search rules) (search rules) c.loop-limit.yielded_by _ c.in-Some.is c.next.ensures.steps in
    c.in_ok-add_quota.ensures
    ∙ ap (λ one. c.loop-limit.headers ++ quota_fields one) c.of.ensures
    ∙ ap (λ l. l ++ quota_fields quota) c.loop-limit.invariant
    ∙ flat_map_more quota_fields old (take (length so_far) quotas) quota
    ∙ ap (λ l. old ++ flat_map quota_fields l) (sym (zip_more quota_of limits left (length so_far) _ _ t.0 t.1 t.2 t.3))
    ∙ ap (λ n. old ++ flat_map quota_fields (take n quotas)) (sym (length_push so_far (c.in-Some.limit, c.in-Some.left)))

pub returns : goal.returns
returns c =
    let limits = c.args.limits.now in
    let left = c.args.left.now in
    let so_far = c.loop-limit.yielded in
    c.loop-limit.invariant
    ∙ ap (λ l. c.args.headers.now ++ flat_map quota_fields l) (zip_all quota_of limits left (length so_far) (zip_end limits left so_far c.into_iter-limit-iterator.result c.loop-limit.limit-iterator c.next.new.self c.next.result (search rules) (search rules) c.loop-limit.yielded_by c.in-None.is c.next.ensures.steps))
