-- Whether a request waits for its upstream.
use Rattle.std.specs.Prelude.{Bool, true, false}
use Rattle.kg_course.specs.declared.want.Want.{Want}
use Rattle.kg_course.specs.declared.want.Want.TheVariants as want

abbrev pub wants_upstream : Want → Bool
wants_upstream (want.Upstream message) = true
wants_upstream _ = false
