-- Machinery for proofs: what a plugin that asks for keys leaves of a request.
use Rattle.std.specs.Prelude.{◌≡◌, List, Option, Some, None, Result, Ok, Err}
use Rattle.kg_row_types.specs.declared.key.Key.{Key}
use Rattle.kg_context.specs.Context.{ended}
use Rattle.kg_context.specs.Given.{Answer, value_in}
use Rattle.kg_context.specs.Rule.{Rule, access}
use Rattle.kg_context.specs.declared.context.ReqCtx.{ReqCtx}
use Rattle.kg_context.specs.declared.step.AccessStep.{AccessStep}
use Rattle.kg_context.specs.declared.step.AccessStep.TheVariants.{Ask, Pass, End}
use Rattle.kg_course.specs.declared.want.Want.{Want}
use Rattle.kg_course.specs.declared.want.Want.TheVariants as want

-- what has come of a question: nothing is lacking, or this
abbrev pub outcome : {A : Type 0} → Option Want → A → Result A Want
outcome None a = Ok a
outcome (Some lacking) a = Err lacking

-- what a rule comes to, as a course does
abbrev pub wanted : Result ReqCtx Key → Result ReqCtx Want
wanted (Ok ctx) = Ok ctx
wanted (Err key) = Err (want.Entity key)

-- what a plugin's step lacks, and the request that it leaves
abbrev pub settled : AccessStep → ReqCtx → Option Want × ReqCtx
settled (Ask key) ctx = (Some (want.Entity key), ctx)
settled Pass ctx = (None, ctx)
settled (End reply) ctx = (None, ended reply ctx)

-- a request for which something is lacking is as before
abbrev pub KeepsRequest : ReqCtx → Option Want → ReqCtx → Type 0
KeepsRequest before (Some lacking) now = now ≡ before
KeepsRequest before None now = Unit {0}

-- a plugin's rule was followed with the values given
pub record RunsRule (rule : ReqCtx → Rule) (given : List Answer) (before : ReqCtx) (lacking : Option Want) (now : ReqCtx) : Type 0 where
  pub leads : wanted (access (rule before) (value_in given)) ≡ outcome lacking now
  pub kept : KeepsRequest before lacking now
  pub request : now.request ≡ before.request
