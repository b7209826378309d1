use Rattle.std.proofs.Common.{sym, ap, ◌∙◌}
use Rattle.std.proofs.lemmas.Result.{IfOk-weaker}
use Rattle.std.specs.Arc.{arc_value}
use Rattle.kg_context.specs.Echo.{echo_of}
use Rattle.kg_context.specs.declared.upstream.Upstream.TheVariants.{Answered}
use Rattle.kg_visit.specs.Told.{want_after, with_upstream}
use Rattle.kg_visit.proofs.GiveLemmas.{echo_told, not_lost}
use Rattle.kg_visit.proofs.visit.Visit.finish_by_echo.Goals as goal

pub returns : goal.returns
returns c =
    let v = c.self.inside in
    let fits = not_lost (arc_value v.router) (arc_value v.plugins) v.stage v.moment v.uses v.verdicts v.upstream v.given v.want v.lost (ap (λ told. told.lost) c.self.view_is ∙ c.requires.whole) c.self.invariant in
    IfOk-weaker c.echo_at-reply.result _ _
    (λ reply replies message is.
    ap (λ told. want_after (with_upstream (Answered (echo_of message.bytes)) told)) (sym c.self.view_is)
    ∙ echo_told (arc_value v.router) (arc_value v.plugins) c.deref.result.now v.moment v.uses v.verdicts v.upstream v.given v.stage v.want
    c.in-Upstream.message message reply c.deref.ensures fits c.in-Upstream.is (ap want_after c.self.view_is ∙ is) replies)
    c.echo_at-reply.ensures
