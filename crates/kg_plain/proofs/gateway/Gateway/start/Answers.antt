use Rattle.std.proofs.Common.{ap, ◌∙◌}
use Rattle.kg_plain.specs.DryReply.{GatewayRows}
use Rattle.kg_plain.proofs.StraightLemmas.{found_none, found_untouched}
use Rattle.kg_plain.proofs.gateway.Gateway.start.Goals as goal

-- no plugin touches it
pub returns-in_ok-message-in-Some : goal.returns-in_ok-message-in-Some
returns-in_ok-message-in-Some c =
    found_untouched c.args.self.now c.args.request.now c.deref.result.now c.deref-in-Some.result.now c.in_ok-choice.field-0 c.in-Some.choice _ _
    (c.deref.ensures ∙ ap (λ (rows : GatewayRows). rows.router) c.self.view_is)
    (c.deref-in-Some.ensures ∙ ap (λ (rows : GatewayRows). rows.plugins) c.self.view_is)
    c.in_ok-choice.ensures.found c.in-Some.is c.is_touched.ensures c.if-is_touched.false c.in_ok-message-in-Some.ensures

-- no route takes it
pub returns-in_ok-no_route-in-None : goal.returns-in_ok-no_route-in-None
returns-in_ok-no_route-in-None c =
    found_none c.args.self.now c.args.request.now c.deref.result.now c.in_ok-choice.field-0 _
    (c.deref.ensures ∙ ap (λ (rows : GatewayRows). rows.router) c.self.view_is)
    c.in_ok-choice.ensures.found c.in-None.is c.in_ok-no_route-in-None.ensures
