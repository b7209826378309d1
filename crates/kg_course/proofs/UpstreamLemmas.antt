-- The upstream is asked behind the plugins, and nothing is asked behind it.
use Rattle.std.proofs.Common.{◌≡◌, ◌≢◌, ℕ, Bool, true, false, cond, List, [], ◌∷◌, inl, inr, Option, Some, None, is_some, Result, Ok, Err, refl, sym, ap, subst, ◌∙◌}
use Rattle.kg_row_types.specs.PluginNames.{plugins_in_order}
use Rattle.kg_row_types.specs.declared.config.Config.{Config}
use Rattle.kg_row_types.specs.declared.config.Config.TheVariants as of_config
use Rattle.kg_row_types.specs.declared.key.Key.{Key}
use Rattle.kg_row_types.specs.declared.plugin.PluginName.{PluginName}
use Rattle.kg_row_types.specs.declared.plugin.PluginRow.{PluginRow}
use Rattle.kg_row_types.specs.declared.value.Value.{Value}
use Rattle.kg_message.specs.declared.response.Response.{Response}
use Rattle.kg_router.specs.Best.{Choice, best_choice}
use Rattle.kg_plugin_table.specs.Precedence.{chosen_row}
use Rattle.kg_context.specs.Rule.{Rule, Leaves as rule_leaves, Asks as rule_asks}
use Rattle.kg_context.specs.declared.upstream.UpRequest.{UpRequest}
use Rattle.kg_context.specs.declared.upstream.Upstream.{Upstream}
use Rattle.kg_auth.specs.AclRule.{acl}
use Rattle.kg_auth.specs.KeyAuth.{key_auth}
use Rattle.kg_basic.specs.BasicAuth.{basic_auth}
use Rattle.kg_limit.specs.declared.hit.Verdict.{Verdict}
use Rattle.kg_course.specs.Course.{Answers, Course, Leaves, AsksEntity, AsksVerdict, AsksUpstream, of_rule, run, through}
use Rattle.kg_course.specs.Phases.{Under, access_of, changed, ruled}
use Rattle.kg_course.specs.Plain.{Asked, answered, answers, chose, filtered, finished, plain, ran, routed, scope_of, start, turn, walk, want_of}
use Rattle.kg_course.specs.Wants.{IsReply}
use Rattle.kg_course.specs.declared.moment.Moment.{Moment}
use Rattle.kg_course.specs.declared.want.Want.{Want}
use Rattle.kg_course.specs.declared.want.Want.TheVariants as want
use Rattle.kg_upstream.specs.UpstreamMessage.{way_of}
use Rattle.kg_upstream.specs.declared.way.Way.{Way}
use Rattle.kg_course.proofs.AnswerLemmas.{extends_upstream}
use Rattle.kg_course.proofs.CourseLemmas.{answer_err, onward, run_more, run_through}

-- ---- courses that don't ask for the upstream

abbrev AsksNoUpstream : {A : Type 0} → Course A → Type 0
AsksNoUpstream (Leaves a) = Unit {0}
AsksNoUpstream (AsksEntity key next) = (value : Value) → AsksNoUpstream (next value)
AsksNoUpstream (AsksVerdict hit next) = (verdict : Verdict) → AsksNoUpstream (next verdict)
AsksNoUpstream (AsksUpstream message next) = ⊥

-- lack no message
lacks_no_message : {A : Type 0} (course : Course A) (told : Answers) (message : UpRequest) → AsksNoUpstream course → run course told ≢ Err (want.Upstream message)
lacks_no_message (Leaves a) told message none is = absurd (cc)
lacks_no_message (AsksEntity key next) told message none is =
    elim (answer_err (told.entity key) (want.Entity key) (λ v. run (next v) told) (want.Upstream message) is) [
      | inl (lacks, same) ↦ absurd (cc)
      | inr (v, some, later) ↦ lacks_no_message (next v) told message (none v) later
    ]
lacks_no_message (AsksVerdict hit next) told message none is =
    elim (answer_err told.verdict (want.Count hit) (λ v. run (next v) told) (want.Upstream message) is) [
      | inl (lacks, same) ↦ absurd (cc)
      | inr (v, some, later) ↦ lacks_no_message (next v) told message (none v) later
    ]
lacks_no_message (AsksUpstream other next) told message none is = absurd none

no_through : {A B : Type 0} (first : Course A) (on : A → Course B) → AsksNoUpstream first → ((a : A) → AsksNoUpstream (on a)) → AsksNoUpstream (through first on)
no_through (Leaves a) on this later = later a
no_through (AsksEntity key next) on this later = λ value. no_through (next value) on (this value) later
no_through (AsksVerdict hit next) on this later = λ verdict. no_through (next verdict) on (this verdict) later
no_through (AsksUpstream message next) on this later = absurd this

-- ---- so do the plugins

no_rule : (rule : Rule) → AsksNoUpstream (of_rule rule)
no_rule (rule_leaves ctx) = tt
no_rule (rule_asks key next) = λ value. no_rule (next value)

no_ruled : (rule : Rule) (under : Under) → AsksNoUpstream (ruled rule under)
no_ruled rule under = no_through (of_rule rule) (λ ctx. Leaves (changed under ctx)) (no_rule rule) (λ ctx. tt)

no_access : (config : Config) (moment : Moment) (id : ℕ) (under : Under) → AsksNoUpstream (access_of config moment id under)
no_access (of_config.Cors config) moment id under = tt
no_access (of_config.KeyAuth config) moment id under = no_ruled (key_auth config under.ctx) under
no_access (of_config.BasicAuth config) moment id under = no_ruled (basic_auth config under.ctx) under
no_access (of_config.IpRestriction config) moment id under = tt
no_access (of_config.RequestSizeLimiting config) moment id under = tt
no_access (of_config.Acl config) moment id under = no_ruled (acl config under.ctx) under
no_access (of_config.RateLimiting config) moment id under = λ verdict. tt
no_access (of_config.RequestTransformer config) moment id under = tt
no_access (of_config.ResponseTransformer config) moment id under = tt
no_access (of_config.RequestTermination config) moment id under = tt

no_ran : (moment : Moment) (row : Option PluginRow) (under : Under) → AsksNoUpstream (ran moment row under)
no_ran moment None under = tt
no_ran moment (Some row) under = by_end (is_some under.ctx.end)
  where
    by_end : (ended : Bool) → AsksNoUpstream (cond ended (Leaves under) (access_of row.config moment row.id under))
    by_end true = tt
    by_end false = no_access row.config moment row.id under

no_walk : (rows : List PluginRow) (moment : Moment) (names : List PluginName) (under : Under) → AsksNoUpstream (walk rows moment names under)
no_walk rows moment [] under = tt
no_walk rows moment (name ∷ later) under =
    let row = chosen_row rows name (scope_of under.ctx) in
    no_through (turn rows moment name under) (walk rows moment later) (no_ran moment row (chose row under)) (λ now. no_walk rows moment later now)

-- ---- behind the upstream

-- with its answer there is a reply
replies_with_answer : (way : Way) (under : Under) (end : Option Response) (entity : Key → Option Value) (verdicts : List Verdict) (answer : Upstream)
    → IsReply (want_of (run (through (answered way under.ctx end) (λ reply. Leaves (filtered under reply))) (answers entity verdicts (Some answer))))
replies_with_answer way under None entity verdicts answer = tt
replies_with_answer way under (Some reply) entity verdicts answer = tt

pub asked_last : (asked : Asked) (entity : Key → Option Value) (verdicts : List Verdict) (message : UpRequest) (answer : Upstream)
    → plain asked entity verdicts None ≡ want.Upstream message → IsReply (plain asked entity verdicts (Some answer))
asked_last asked entity verdicts message answer is = by_choice (best_choice asked.router.services asked.router.routes asked.request) is
  where
    before : Answers
    before = answers entity verdicts None

    after : Answers
    after = answers entity verdicts (Some answer)

    by_choice : (found : Option Choice) → want_of (run (routed asked found) before) ≡ want.Upstream message → IsReply (want_of (run (routed asked found) after))
    by_choice None same = tt
    by_choice (Some choice) same =
        by_walk (run turns before) refl (ap want_of (sym (run_through turns last before)) ∙ same)
      where
        turns : Course Under
        turns = walk asked.plugins.rows asked.moment plugins_in_order (start choice asked.request)

        last : Under → Course Response
        last = finished (way_of choice asked.request)

        by_walk : (came : Result Under Want) → run turns before ≡ came → want_of (onward came (λ under. run (last under) before)) ≡ want.Upstream message
            → IsReply (want_of (run (through turns last) after))
        by_walk (Ok now) at wants =
            let there : run (through turns last) after ≡ run (last now) after =
            run_through turns last after
            ∙ ap (λ came. onward came (λ under. run (last under) after)) (run_more turns before after now (extends_upstream entity verdicts None answer refl) at) in
            subst (λ came. IsReply (want_of came)) (sym there) (replies_with_answer (way_of choice asked.request) now now.ctx.end entity verdicts answer)
        by_walk (Err lacking) at wants =
            let err : Want → Result Under Want = λ one. Err one in
            absurd (lacks_no_message turns before message (no_walk asked.plugins.rows asked.moment plugins_in_order (start choice asked.request)) (at ∙ ap err wants))
