-- Machinery for proofs: a visit that is told what a gateway answers by, up to its reply.
use Rattle.std.specs.Prelude.{◌≡◌, ◌⊎◌, ℕ, Bool, true, false, List, [], ◌∷◌, ◌++◌, Option, Some, None}
use Rattle.kg_row_types.specs.declared.key.Key.{Key}
use Rattle.kg_row_types.specs.declared.value.Value.{Value}
use Rattle.kg_row_values.specs.Values.{value_of}
use Rattle.kg_message.specs.declared.request.Request.{Request}
use Rattle.kg_message.specs.declared.response.Response.{Response}
use Rattle.kg_context.specs.Echo.{echo_of}
use Rattle.kg_context.specs.declared.upstream.Upstream.TheVariants.{Answered}
use Rattle.kg_level.specs.declared.level.Level.TheVariants.{Loaded}
use Rattle.kg_limit.specs.Judging.{verdict_after}
use Rattle.kg_limit.specs.Representing.{Represents}
use Rattle.kg_limit.specs.declared.hit.Hit.{Hit}
use Rattle.kg_limit.specs.declared.hit.Verdict.{Verdict}
use Rattle.kg_limit.specs.declared.windows.Windows.{Windows}
use Rattle.kg_course.specs.Plain.{Asked, plain}
use Rattle.kg_course.specs.declared.want.Want.{Want}
use Rattle.kg_course.specs.declared.want.Want.TheVariants as want
use Rattle.kg_visit.specs.Told.{Told, Use, entities, want_after, with_upstream, with_use, with_verdict}
use Rattle.kg_plain.specs.DryReply.{GatewayRows, counted, dry_reply, every}

-- ---- one question

-- it is one that the gateway answers by itself: a key or a hit
abbrev pub is_own : Want → Bool
is_own (want.Entity key) = true
is_own (want.Count hit) = true
is_own (want.Upstream message) = false
is_own (want.Done reply) = false

-- what is told of a key: its value at the declared rows, which count all commands
abbrev pub use_of : GatewayRows → Key → Use
use_of rows key = record { key = key; value = value_of rows.declared key; at = rows.commands; level = Loaded }

-- a key has its value at the rows, and a hit is judged after those before it, and is counted then
abbrev pub AnswersOwn : GatewayRows → Want → Told → Windows → Told → Windows → Type 0
AnswersOwn rows (want.Entity key) before windows now then = (now ≡ with_use (use_of rows key) before) × (then ≡ windows)
AnswersOwn rows (want.Count hit) before windows now then =
    (verdict : Verdict) × (now ≡ with_verdict verdict before)
    × ((hits : List Hit) → Represents windows hits → (verdict ≡ verdict_after hits hit) × Represents then (hits ++ hit ∷ []))
AnswersOwn rows _ before windows now then = ⊥

-- the reply is there, or becomes what it is by the echo's answer
abbrev pub RepliesLast : Told → Want → Response → Type 0
RepliesLast told (want.Upstream message) response = want_after (with_upstream (Answered (echo_of message.bytes)) told) ≡ want.Done response
RepliesLast told (want.Done reply) response = response ≡ reply
RepliesLast told _ response = ⊥

-- ---- all questions

-- a visit at its begin
pub record Begins (told : Told) : Type 0 where
  pub whole : told.lost ≡ false
  pub uses : told.uses ≡ []
  pub verdicts : told.verdicts ≡ []
  pub upstream : told.upstream ≡ None

-- no hit was judged yet, or the first that is wanted, after those before the request
abbrev pub IsJudged : Asked → (Key → Option Value) → List Hit → List Verdict → Windows → Type 0
IsJudged asked entity hits verdicts windows =
    ((verdicts ≡ []) × Represents windows hits)
    ⊎ ((hit : Hit) × (plain asked entity [] None ≡ want.Count hit) × (verdicts ≡ verdict_after hits hit ∷ []) × Represents windows (hits ++ hit ∷ []))

-- a visit was told so far what is answered after these hits
pub record IsDriven (rows : GatewayRows) (hits : List Hit) (told : Told) (windows : Windows) : Type 0 where
  pub uses : (key : Key) (value : Value) → entities told.uses key ≡ Some value → every rows.declared key ≡ Some value
  pub judged : IsJudged told.asked (every rows.declared) hits told.verdicts windows

-- it goes on from its begin: the upstream hasn't answered yet
pub record GoesOn (rows : GatewayRows) (before : Told) (windows : Windows) (now : Told) (then : Windows) : Type 0 where
  pub whole : now.lost ≡ false
  pub asked : now.asked ≡ before.asked
  pub upstream : now.upstream ≡ None
  pub driven : (hits : List Hit) → Represents windows hits → IsDriven rows hits now then

-- the response to what is asked, whose hit was counted
pub record Responds (rows : GatewayRows) (hits : List Hit) (time : ℕ) (request : Request) (response : Response) (windows : Windows) : Type 0 where
  pub is : response ≡ dry_reply rows hits time request
  pub counts : Represents windows (hits ++ counted rows time request)
