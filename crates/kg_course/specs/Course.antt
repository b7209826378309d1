-- The course of a request as a tree of questions: it has come to something, or it asks for the value of a key, for
-- the verdict on a hit, or for the answer to an upstream message, and goes on with what it is told.
use Rattle.std.specs.Prelude.{Option, Some, None, Result, Ok, Err}
use Rattle.kg_row_types.specs.declared.key.Key.{Key}
use Rattle.kg_row_types.specs.declared.value.Value.{Value}
use Rattle.kg_context.specs.Rule.{Rule, Leaves as rule_leaves, Asks as rule_asks}
use Rattle.kg_context.specs.declared.context.ReqCtx.{ReqCtx}
use Rattle.kg_context.specs.declared.upstream.UpRequest.{UpRequest}
use Rattle.kg_context.specs.declared.upstream.Upstream.{Upstream}
use Rattle.kg_limit.specs.declared.hit.Hit.{Hit}
use Rattle.kg_limit.specs.declared.hit.Verdict.{Verdict}
use Rattle.kg_course.specs.declared.want.Want.{Want}
use Rattle.kg_course.specs.declared.want.Want.TheVariants as want

pub data Course (A : Type 0) : Type 0 where
  Leaves : A → Course A
  AsksEntity : Key → (Value → Course A) → Course A
  AsksVerdict : Hit → (Verdict → Course A) → Course A
  AsksUpstream : UpRequest → (Upstream → Course A) → Course A

-- one course, and then another from where the first has come to
abbrev pub through : {A B : Type 0} → Course A → (A → Course B) → Course B
through (Leaves a) on = on a
through (AsksEntity key next) on = AsksEntity key (λ value. through (next value) on)
through (AsksVerdict hit next) on = AsksVerdict hit (λ verdict. through (next verdict) on)
through (AsksUpstream message next) on = AsksUpstream message (λ answer. through (next answer) on)

-- the course of a plugin's rule
abbrev pub of_rule : Rule → Course ReqCtx
of_rule (rule_leaves ctx) = Leaves ctx
of_rule (rule_asks key next) = AsksEntity key (λ value. of_rule (next value))

-- ---- a course with answers

-- what has been told: the values of keys, a verdict, the upstream's answer
pub record Answers : Type 0 where
  pub entity : Key → Option Value
  pub verdict : Option Verdict
  pub upstream : Option Upstream

-- it goes on with an answer, or lacks it
abbrev pub with_answer : {X A : Type 0} → Option X → Want → (X → Result A Want) → Result A Want
with_answer None lacking on = Err lacking
with_answer (Some answer) lacking on = on answer

-- what the course comes to with these answers, or the first that it lacks
abbrev pub run : {A : Type 0} → Course A → Answers → Result A Want
run (Leaves a) answers = Ok a
run (AsksEntity key next) answers = with_answer (answers.entity key) (want.Entity key) (λ value. run (next value) answers)
run (AsksVerdict hit next) answers = with_answer answers.verdict (want.Count hit) (λ verdict. run (next verdict) answers)
run (AsksUpstream message next) answers = with_answer answers.upstream (want.Upstream message) (λ answer. run (next answer) answers)
