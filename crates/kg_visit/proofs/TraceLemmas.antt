-- What a trace justifies.
use Rattle.std.proofs.Common.{◌≡◌, ℕ, List, sym, ap, subst, ◌∙◌}
use Rattle.kg_message.specs.declared.request.Request.{Request}
use Rattle.kg_message.specs.declared.response.Response.{Response}
use Rattle.kg_row_values.specs.declared.command.Command.{Command}
use Rattle.kg_course.specs.Wants.{IsReply}
use Rattle.kg_course.specs.declared.want.Want.TheVariants as want
use Rattle.kg_visit.specs.Told.{IsAsked}
use Rattle.kg_visit.specs.Traces.{IsCurrent, Justifies, VerdictsFit, asked_by, come_to, reply_in, reply_of, reply_of_kind, unexpected_error}
use Rattle.kg_visit.specs.declared.trace.ReplyKind.TheVariants.{Plain, KeeperFault}
use Rattle.kg_visit.specs.declared.trace.Trace.{Trace}

pub justifies_reply : (history : List Command) (trace : Trace) (request : Request) (worker : ℕ) (reply : Response)
    → IsCurrent history trace
    → IsAsked (asked_by history trace request worker) trace.uses trace.verdicts trace.upstream
    → VerdictsFit (asked_by history trace request worker) trace.uses trace.verdicts
    → trace.kind ≡ Plain → come_to history trace request worker ≡ want.Done reply
    → Justifies history trace request worker × (reply_of history trace request worker ≡ reply)
justifies_reply history trace request worker reply current in_order fits kind come = (
  record { current = current; in_order = in_order; fits = fits; answered = λ plain. subst IsReply (sym come) tt },
  ap (λ one. reply_of_kind one (come_to history trace request worker)) kind ∙ ap reply_in come,
)

pub justifies_refusal : (history : List Command) (trace : Trace) (request : Request) (worker : ℕ)
    → IsCurrent history trace
    → IsAsked (asked_by history trace request worker) trace.uses trace.verdicts trace.upstream
    → VerdictsFit (asked_by history trace request worker) trace.uses trace.verdicts
    → trace.kind ≡ KeeperFault
    → Justifies history trace request worker × (reply_of history trace request worker ≡ unexpected_error)
justifies_refusal history trace request worker current in_order fits kind = (
  record { current = current; in_order = in_order; fits = fits; answered = λ plain. absurd (other (sym plain ∙ kind)) },
  ap (λ one. reply_of_kind one (come_to history trace request worker)) kind,
)
  where
    other : Plain ≡ KeeperFault → ⊥
    other same = absurd (cc)
