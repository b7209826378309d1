-- A plugin's rule in access: what it asks of the rows, and how each value lets it go on.
use Rattle.std.specs.Prelude.{◌≡◌, Option, Some, None, Result, Ok, Err}
use Rattle.kg_row_types.specs.declared.key.Key.{Key}
use Rattle.kg_row_types.specs.declared.value.Value.{Value}
use Rattle.kg_context.specs.Context.{ended}
use Rattle.kg_context.specs.declared.context.ReqCtx.{ReqCtx}
use Rattle.kg_context.specs.declared.step.AccessStep.{AccessStep}
use Rattle.kg_context.specs.declared.step.AccessStep.TheVariants.{Ask, Pass, End}

-- the rule leaves the request so, or it asks a key and goes on with the value
pub data Rule : Type 0 where
  Leaves : ReqCtx → Rule
  Asks : Key → (Value → Rule) → Rule

-- the rule goes on with a value, or lacks that of the key
abbrev pub with_value : Key → (Value → Result ReqCtx Key) → Option Value → Result ReqCtx Key
with_value key on None = Err key
with_value key on (Some value) = on value

-- how the rule leaves the request when keys have these values, or the first key that it lacks
abbrev pub access : Rule → (Key → Option Value) → Result ReqCtx Key
access (Leaves ctx) values = Ok ctx
access (Asks key next) values = with_value key (λ value. access (next value) values) (values key)

-- what a step says of the context that it left: a key is asked, the request goes on, or it is ended
abbrev pub after_step : AccessStep → ReqCtx → Result ReqCtx Key
after_step (Ask key) ctx = Err key
after_step Pass ctx = Ok ctx
after_step (End reply) ctx = Ok (ended reply ctx)

-- a step that asks leaves the context as it was
abbrev pub KeepsWhereAsked : ReqCtx → AccessStep → ReqCtx → Type 0
KeepsWhereAsked before (Ask key) now = now ≡ before
KeepsWhereAsked before _ now = Unit {0}
