use Rattle.std.proofs.Common.{◌≡◌, ℕ, [], ◌∷◌, ◌++◌, ap, subst, ◌∙◌, codes, decimal}
use Rattle.std.specs.Prelude.{OnOk}
use Rattle.kg_context.specs.Fields.{field}
use Rattle.kg_limit.specs.LimitHeaders.{retry_fields}
use Rattle.kg_limit.proofs.FieldLemmas.{all_added}
use Rattle.kg_limit.proofs.reply.add_tightest.Goals as goal

pub returns : goal.returns
returns c =
    let old = c.args.headers.now in
    let quota = c.args.quota.now in
    let let_through = c.args.verdict.now.let_through in
    let limit = field (codes "ratelimit-limit") (decimal quota.limit) in
    let left = field (codes "ratelimit-remaining") (decimal quota.left) in
    let reset = λ (seconds : ℕ). field (codes "ratelimit-reset") (decimal seconds) in
    let seconds = c.seconds_left-seconds.result in
    let with_left = c.in_ok-add_number-2.ensures ∙ ap (λ l. l ++ left ∷ []) c.in_ok-add_number.ensures in
    let with_reset = c.in_ok-add_number-3.ensures ∙ ap (λ l. l ++ reset seconds ∷ []) with_left in
    let whole =
    ap (λ l. l ++ retry_fields let_through seconds) with_reset
    ∙ all_added old limit left (reset seconds) (retry_fields let_through seconds)
    ∙ ap (λ n. old ++ (limit ∷ left ∷ reset n ∷ retry_fields let_through n)) c.seconds_left-seconds.ensures in
    subst (λ l. OnOk c.add_retry.result (c.add_retry.new.headers ≡ l)) whole c.add_retry.ensures
