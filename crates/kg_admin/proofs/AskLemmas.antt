-- What is asked of the rows, or why nothing is: each refusal is the first.
use Rattle.std.proofs.Common.{◌≡◌, ◌≢◌, ◌==◌, ℕ, false, List, [], ◌∷◌, length, codes, Result, Err, refl, arith}
use Rattle.std.proofs.lemmas.Bool.Decides.{nat_tests}
use Rattle.serde_json.specs.Data.{Data}
use Rattle.kg_admin.specs.AdminRequests.{body_of, has_json, unless_broken, unless_refused}
use Rattle.kg_admin.specs.Asking.{Reads, RefusesWith}
use Rattle.kg_admin.specs.declared.asked.AskError.{AskError}
use Rattle.kg_admin.specs.declared.asked.AskError.TheVariants.{NoMemory, Refused}
use Rattle.kg_declare.specs.RefusalBody.{violation_response}
use Rattle.kg_field_rules.specs.Rules.{BrokenRule, in_order, listed}
use Rattle.kg_field_rules.specs.declared.violations.Broken.{Broken}
use Rattle.kg_message.specs.GatewayMessage.{gateway_message}
use Rattle.kg_message.specs.declared.request.Request.{Request}
use Rattle.kg_message.specs.declared.response.Response.{Response}

-- what is refused first is refused
pub refused_first : {A B C D : Type 0} (read : A → B) (value : C → D) (e : AskError) (first : Result B Response) (next : B → Result D Response)
    → Reads read (Err e) first → Reads value (Err e) (unless_refused next first)
refused_first read value (Refused response) first next is = rw is refl
refused_first read value NoMemory first next is = tt

-- a body that breaks rules of its fields is refused with them
pub refused_broken : {A : Type 0} (value : A → Data) (e : AskError) (broken : List Broken) (violations : List BrokenRule) (body : Data)
    → RefusesWith e (violation_response broken) → broken ≡ listed (in_order violations) → violations ≢ []
    → Reads value (Err e) (unless_broken violations body)
refused_broken value (Refused response) broken [] body is same some = absurd (some refl)
refused_broken value (Refused response) broken (violation ∷ more) body is same some = rw (is, same) refl
refused_broken value NoMemory broken violations body is same some = tt

-- what isn't empty has a length
some_length : (bytes : List ℕ) → bytes ≢ [] → (length bytes == 0) ≡ false
some_length [] some = absurd (some refl)
some_length (byte ∷ more) some = grind (arith, nat_tests)

-- a body of another type is refused
pub refused_type : {A : Type 0} (value : A → Data) (e : AskError) (request : Request)
    → RefusesWith e (gateway_message 400 (codes "Only JSON bodies are read")) → request.body ≢ [] → has_json request ≡ false
    → Reads value (Err e) (body_of request)
refused_type value (Refused response) request is some other = rw (is, some_length request.body some, other) refl
refused_type value NoMemory request is some other = tt
