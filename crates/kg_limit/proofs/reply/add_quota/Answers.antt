use Rattle.std.proofs.Common.{◌≡◌, [], ◌∷◌, ◌++◌, ap, subst, ◌∙◌, codes, decimal}
use Rattle.std.specs.Prelude.{OnOk}
use Rattle.std.specs.Str.{str_to_ascii_lowercase}
use Rattle.kg_context.specs.Fields.{field}
use Rattle.kg_limit.specs.WindowTimes.{window_name}
use Rattle.kg_limit.proofs.FieldLemmas.{two_added}
use Rattle.kg_limit.proofs.reply.add_quota.Goals as goal

pub returns : goal.returns
returns c =
    let old = c.args.headers.now in
    let quota = c.args.quota.now in
    let limit = field (codes "x-ratelimit-limit-" ++ window_name quota.window) (decimal quota.limit) in
    let left = field (codes "x-ratelimit-remaining-" ++ window_name quota.window) (decimal quota.left) in
    let with_limit = c.in_ok-add_number.ensures ∙ ap (λ name. old ++ field name (decimal quota.limit) ∷ []) (c.limit_name.ensures.lower ∙ c.limit_name.ensures.name) in
    let whole =
    ap (λ l. l ++ field (str_to_ascii_lowercase c.remaining_name.result.now) (decimal quota.left) ∷ []) with_limit
    ∙ ap (λ name. (old ++ limit ∷ []) ++ field name (decimal quota.left) ∷ []) (c.remaining_name.ensures.lower ∙ c.remaining_name.ensures.name)
    ∙ two_added old limit left in
    subst (λ l. OnOk c.add_number-2.result (c.add_number-2.new.headers ≡ l)) whole c.add_number-2.ensures
