-- Which wants there are.
use Rattle.std.specs.Prelude.{Bool, true, false}
use Rattle.kg_course.specs.declared.want.Want.{Want}
use Rattle.kg_course.specs.declared.want.Want.TheVariants as want

-- it is the reply, and so nothing is lacking
abbrev pub IsReply : Want → Type 0
IsReply (want.Done reply) = Unit {0}
IsReply _ = ⊥

-- something is lacking
abbrev pub Asks : Want → Type 0
Asks (want.Done reply) = ⊥
Asks _ = Unit {0}

abbrev pub is_reply : Want → Bool
is_reply (want.Done reply) = true
is_reply _ = false
