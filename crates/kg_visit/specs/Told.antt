-- What a visit has been told, and what it wants then.
use Rattle.std.specs.Prelude.{◌≡◌, ℕ, Bool, false, List, [], ◌∷◌, ◌++◌, map, Option, Some, None}
use Rattle.kg_row_types.specs.declared.key.Key.{Key}
use Rattle.kg_row_types.specs.declared.value.Value.{Value}
use Rattle.kg_message.specs.declared.request.Request.{Request}
use Rattle.kg_router.specs.RouterRows.{RouterRows}
use Rattle.kg_plugin_table.specs.PluginRows.{PluginRows}
use Rattle.kg_context.specs.Given.{Answer, value_in}
use Rattle.kg_context.specs.declared.upstream.UpRequest.{UpRequest}
use Rattle.kg_context.specs.declared.upstream.Upstream.{Upstream}
use Rattle.kg_level.specs.declared.level.Level.{Level}
use Rattle.kg_limit.specs.declared.hit.Hit.{Hit}
use Rattle.kg_limit.specs.declared.hit.Verdict.{Verdict}
use Rattle.kg_course.specs.Plain.{Asked, plain}
use Rattle.kg_course.specs.declared.moment.Moment.{Moment}
use Rattle.kg_course.specs.declared.want.Want.{Want}
use Rattle.kg_course.specs.declared.want.Want.TheVariants as want

-- a key's value, at which place of the history it was read, and where it was found
pub record Use : Type 0 where
  pub key : Key
  pub value : Value
  pub at : ℕ
  pub level : Level

abbrev pub answer_of : Use → Answer
answer_of used = record { key = used.key; value = used.value }

-- the values of keys that these uses tell
abbrev pub entities : List Use → Key → Option Value
entities uses = value_in (map answer_of uses)

-- what a visit has been told; `lost` once it was out of memory
pub record Told : Type 0 where
  pub asked : Asked
  pub uses : List Use
  pub verdicts : List Verdict
  pub upstream : Option Upstream
  pub lost : Bool

-- what it wants
abbrev pub want_after : Told → Want
want_after told = plain told.asked (entities told.uses) told.verdicts told.upstream

-- a visit that begins has been told nothing
abbrev pub begun : RouterRows → PluginRows → Request → Moment → Told
begun router plugins request moment = record {
  asked = record { router = router; plugins = plugins; request = request; moment = moment };
  uses = [];
  verdicts = [];
  upstream = None;
  lost = false;
}

abbrev pub with_use : Use → Told → Told
with_use used told = record told { uses = told.uses ++ used ∷ [] }

abbrev pub with_verdict : Verdict → Told → Told
with_verdict verdict told = record told { verdicts = told.verdicts ++ verdict ∷ [] }

abbrev pub with_upstream : Upstream → Told → Told
with_upstream answer told = record told { upstream = Some answer }

-- ---- what was told is what was asked, in the order asked
pub data IsAsked (asked : Asked) : List Use → List Verdict → Option Upstream → Type 0 where
  Begins : IsAsked asked [] [] None
  AsksUse : (uses : List Use) (verdicts : List Verdict) (answer : Option Upstream) (used : Use)
      → IsAsked asked uses verdicts answer → plain asked (entities uses) verdicts answer ≡ want.Entity used.key
      → IsAsked asked (uses ++ used ∷ []) verdicts answer
  AsksVerdict : (uses : List Use) (verdicts : List Verdict) (answer : Option Upstream) (hit : Hit) (verdict : Verdict)
      → IsAsked asked uses verdicts answer → plain asked (entities uses) verdicts answer ≡ want.Count hit
      → IsAsked asked uses (verdicts ++ verdict ∷ []) answer
  AsksUpstream : (uses : List Use) (verdicts : List Verdict) (message : UpRequest) (answer : Upstream)
      → IsAsked asked uses verdicts None → plain asked (entities uses) verdicts None ≡ want.Upstream message
      → IsAsked asked uses verdicts (Some answer)
