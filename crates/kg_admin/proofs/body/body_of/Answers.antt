use Rattle.std.proofs.Common.{◌∙◌, sym, true≢false}
use Rattle.serde_json.specs.View.{view}
use Rattle.kg_admin.proofs.AskLemmas.{refused_type}
use Rattle.kg_admin.proofs.body.body_of.Goals as goal

pub returns-then-not-has_json : goal.returns-then-not-has_json
returns-then-not-has_json c =
    refused_type view c.refusal.result c.args.request.now c.refusal.ensures
    (λ empty. true≢false (sym (c.is_empty.ensures.1 empty) ∙ c.if-is_empty.false)) (sym c.has_json.ensures ∙ c.if-not-has_json.true)
