-- A request that is told the upstream's answer wants it.
use Rattle.std.proofs.Common.{◌≡◌, true, Option, Some, is_some, refl, sym, ap, ◌∙◌}
use Rattle.kg_context.specs.declared.upstream.UpRequest.{UpRequest}
use Rattle.kg_context.specs.declared.upstream.Upstream.{Upstream}
use Rattle.kg_visit.specs.Told.{Told, want_after}
use Rattle.kg_course.specs.declared.want.Want.{Want}
use Rattle.kg_course.specs.declared.want.Want.TheVariants as want
use Rattle.visit_cases.specs.Wanted.{wants_upstream}

message_of : (next : Want) → wants_upstream next ≡ true → (message : UpRequest) × (next ≡ want.Upstream message)
message_of (want.Upstream message) is = (message, refl)
message_of (want.Entity key) is = absurd (cc)
message_of (want.Count hit) is = absurd (cc)
message_of (want.Done reply) is = absurd (cc)

pub wanted : (told : Told) (next : Want) (given : Option Upstream) (answer : Upstream) → next ≡ want_after told → is_some given ≡ wants_upstream next
    → given ≡ Some answer → (message : UpRequest) × (want_after told ≡ want.Upstream message)
wanted told next given answer wants says is = message_of (want_after told) (ap wants_upstream (sym wants) ∙ sym says ∙ ap is_some is)
