-- How the answers to a course grow, and how far they lead.
use Rattle.std.specs.Prelude.{◌≡◌, ℕ, ◌+◌, Option, Some, None, IsSome}
use Rattle.kg_row_types.specs.declared.key.Key.{Key}
use Rattle.kg_row_types.specs.declared.value.Value.{Value}
use Rattle.kg_context.specs.declared.upstream.Upstream.{Upstream}
use Rattle.kg_limit.specs.declared.hit.Verdict.{Verdict}
use Rattle.kg_course.specs.Course.{Answers, Course, Leaves, AsksEntity, AsksVerdict, AsksUpstream}
use Rattle.kg_course.specs.declared.want.Want.{Want}
use Rattle.kg_course.specs.declared.want.Want.TheVariants.{Entity, Count, Upstream as Message, Done}

-- what is answered stays answered so
pub record Extends (some more : Answers) : Type 0 where
  pub entity : (key : Key) (value : Value) → some.entity key ≡ Some value → more.entity key ≡ Some value
  pub verdict : (verdict : Verdict) → some.verdict ≡ Some verdict → more.verdict ≡ Some verdict
  pub upstream : (answer : Upstream) → some.upstream ≡ Some answer → more.upstream ≡ Some answer

-- it hasn't been answered; nothing is lacking where the reply is there
abbrev pub Lacking : Answers → Want → Type 0
Lacking told (Entity key) = told.entity key ≡ None
Lacking told (Count hit) = told.verdict ≡ None
Lacking told (Message message) = told.upstream ≡ None
Lacking told (Done reply) = ⊥

-- it has been answered
abbrev pub IsTold : Answers → Want → Type 0
IsTold told (Entity key) = IsSome (told.entity key)
IsTold told (Count hit) = IsSome told.verdict
IsTold told (Message message) = IsSome told.upstream
IsTold told (Done reply) = ⊥

-- ---- how many questions are passed

-- one more than behind it, if there is an answer
abbrev pub passed_by : {X : Type 0} → Option X → (X → ℕ) → ℕ
passed_by None behind = 0
passed_by (Some answer) behind = behind answer + 1

-- how many questions of a course these answers lead past
abbrev pub passed : {A : Type 0} → Course A → Answers → ℕ
passed (Leaves a) told = 0
passed (AsksEntity key next) told = passed_by (told.entity key) (λ value. passed (next value) told)
passed (AsksVerdict hit next) told = passed_by told.verdict (λ verdict. passed (next verdict) told)
passed (AsksUpstream message next) told = passed_by told.upstream (λ answer. passed (next answer) told)
