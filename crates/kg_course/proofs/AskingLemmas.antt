-- Plugins that ask: what they leave of a walk.
use Rattle.std.proofs.Common.{◌≡◌, List, Option, Some, None, refl, sym, ap, subst, ◌∙◌}
use Rattle.kg_row_types.specs.declared.config.Config.{Config}
use Rattle.kg_row_types.specs.declared.plugin.PluginRow.{PluginRow}
use Rattle.kg_context.specs.Given.{Answer, value_in}
use Rattle.kg_context.specs.Rule.{KeepsWhereAsked, Rule, access as rule_access, after_step}
use Rattle.kg_context.specs.declared.context.ReqCtx.{ReqCtx}
use Rattle.kg_context.specs.declared.step.AccessStep.{AccessStep}
use Rattle.kg_context.specs.declared.step.AccessStep.TheVariants.{Ask, Pass, End}
use Rattle.kg_limit.specs.declared.hit.Verdict.{Verdict}
use Rattle.kg_course.specs.Course.{Course, Leaves, of_rule, run}
use Rattle.kg_course.specs.Phases.{Under, access, access_of, changed, ruled}
use Rattle.kg_course.specs.Plain.{answers}
use Rattle.kg_course.specs.Steps.{KeepsRequest, RunsRule, outcome, settled, wanted}
use Rattle.kg_course.specs.Walks.{KeepsWalk, Runs, in_walk}
use Rattle.kg_course.specs.declared.moment.Moment.{Moment}
use Rattle.kg_course.specs.declared.walk.Walk.{Walk}
use Rattle.kg_course.specs.declared.want.Want.{Want}
use Rattle.kg_course.proofs.CourseLemmas.{onward, run_rule, run_through}

-- a step that was settled has followed the rule
pub step_settled : (rule : ReqCtx → Rule) (given : List Answer) (before stepped now : ReqCtx) (step : AccessStep) (lacking : Option Want)
    → rule_access (rule before) (value_in given) ≡ after_step step stepped → KeepsWhereAsked before step stepped → stepped.request ≡ before.request
    → settled step stepped ≡ (lacking, now) → RunsRule rule given before lacking now
step_settled rule given before stepped now step lacking led kept same settles =
    subst (λ both. RunsRule rule given before both.0 both.1) settles (by_step step led kept)
  where
    by_step : (step : AccessStep) → rule_access (rule before) (value_in given) ≡ after_step step stepped → KeepsWhereAsked before step stepped
        → RunsRule rule given before (settled step stepped).0 (settled step stepped).1
    by_step (Ask key) led kept = record { leads = ap wanted led; kept = kept; request = same }
    by_step Pass led kept = record { leads = ap wanted led; kept = tt; request = same }
    by_step (End reply) led kept = record { leads = ap wanted led; kept = tt; request = same }

-- the walk with another request
abbrev pub at_request : Walk → ReqCtx → Walk
at_request walk ctx = record walk { ctx = ctx }

-- what lacks keeps the walk
keeps_walk : (before : Walk) (lacking : Option Want) (now : ReqCtx) → KeepsRequest before.ctx lacking now → KeepsWalk before lacking (at_request before now)
keeps_walk before (Some lacking) now same = ap (λ ctx. at_request before ctx) same
keeps_walk before None now same = tt

-- a rule that was followed is a row that ran
pub rule_runs : (rule : ReqCtx → Rule) (given : List Answer) (verdicts : List Verdict) (before : Walk) (lacking : Option Want) (now : ReqCtx)
    → RunsRule rule given before.ctx lacking now → Runs (λ under. ruled (rule under.ctx) under) given verdicts before lacking (at_request before now)
rule_runs rule given verdicts before lacking now runs = record {
  leads = λ chosen upstream.
      let told = answers (value_in given) verdicts upstream in
      let here = in_walk chosen verdicts before in
      let leaves : ReqCtx → Course Under = λ ctx. Leaves (changed here ctx) in
      run_through (of_rule (rule before.ctx)) leaves told
      ∙ ap (λ came. onward came (λ ctx. run (leaves ctx) told)) (run_rule (rule before.ctx) told ∙ runs.leads)
      ∙ came_to (λ ctx. in_walk chosen verdicts (at_request before ctx)) told lacking;
  kept = keeps_walk before lacking now runs.kept;
  turns = refl;
  taken = refl;
  request = runs.request;
  counted = λ uncounted none. uncounted none;
}
  where
    came_to : (at : ReqCtx → Under) (told : _) (lacking : Option Want) → onward (outcome lacking now) (λ ctx. run (Leaves (at ctx)) told) ≡ outcome lacking (at now)
    came_to at told None = refl
    came_to at told (Some lacking) = refl

-- a row of this config
pub of_config : (row : PluginRow) (config : Config) (moment : Moment) (given : List Answer) (verdicts : List Verdict) (before now : Walk) (lacking : Option Want)
    → row.config ≡ config → Runs (access_of config moment row.id) given verdicts before lacking now → Runs (access moment row) given verdicts before lacking now
of_config row config moment given verdicts before now lacking is runs =
    subst (λ one. Runs (access_of one moment row.id) given verdicts before lacking now) (sym is) runs
