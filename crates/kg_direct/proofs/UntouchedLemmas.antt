-- A walk over plugins of which none has a row that runs.
use Rattle.std.proofs.Common.{◌≡◌, ℕ, Bool, true, false, ◌&&◌, ◌||◌, cond, List, [], ◌∷◌, ◌++◌, Option, Some, None, is_some, refl, ap, ap₂, ◌∙◌}
use Rattle.std.proofs.lemmas.List.{append-nil}
use Rattle.std.specs.Cmp.Lexicographic.{nat_list_eq_equiv}
use Rattle.std.specs.List.{list_any}
use Rattle.std.specs.Str.{bytes_eq}
use Rattle.kg_text.specs.declared.pair.Pair.{Pair}
use Rattle.kg_row_types.specs.PluginNames.{plugins_in_order}
use Rattle.kg_row_types.specs.declared.key.Key.{Key}
use Rattle.kg_row_types.specs.declared.plugin.PluginName.{PluginName}
use Rattle.kg_row_types.specs.declared.plugin.PluginRow.{PluginRow}
use Rattle.kg_row_types.specs.declared.value.Value.{Value}
use Rattle.kg_message.specs.declared.request.Request.{Request}
use Rattle.kg_router.specs.Best.{Choice, best_choice}
use Rattle.kg_plugin_table.specs.Precedence.{chosen_row}
use Rattle.kg_context.specs.Context.{pairs_of, started}
use Rattle.kg_context.specs.declared.upstream.UpRequest.{UpRequest}
use Rattle.kg_context.specs.declared.upstream.Upstream.{Upstream}
use Rattle.kg_limit.specs.declared.hit.Verdict.{Verdict}
use Rattle.kg_print.specs.UpstreamText.{upstream_text}
use Rattle.kg_context.specs.UpstreamFields.{upstream_fields}
use Rattle.kg_upstream.specs.UpstreamPath.{host_for, path_for}
use Rattle.kg_upstream.specs.UpstreamMessage.{as_it_came, is_head, reply_of, same_pair, same_pairs, up_request, upstream_query, way_of, written}
use Rattle.kg_course.specs.Course.{Leaves, run, through}
use Rattle.kg_course.specs.Phases.{Under}
use Rattle.kg_course.specs.Plain.{Asked, answers, chose, finished, plain, ran, routed, scope_of, start, walk, want_of}
use Rattle.kg_course.specs.declared.moment.Moment.{Moment}
use Rattle.kg_course.specs.declared.want.Want.TheVariants as want
use Rattle.kg_direct.specs.Untouched.{is_touched, straight_request}

-- ---- the walk

none_in : {X : Type 0} (found : Option X) → is_some found ≡ false → found ≡ None
none_in None is = refl
none_in (Some x) is = absurd (cc)

either_not : (a b : Bool) → (a || b) ≡ false → (a ≡ false) × (b ≡ false)
either_not true b is = absurd (cc)
either_not false b is = (refl, is)

-- it leaves the request as it is
pub walks_over : (rows : List PluginRow) (moment : Moment) (names : List PluginName) (under : Under)
    → list_any (λ name. is_some (chosen_row rows name (scope_of under.ctx))) names ≡ false
    → walk rows moment names under ≡ Leaves under
walks_over rows moment [] under none = refl
walks_over rows moment (name ∷ later) under none =
    let parts = either_not (is_some (chosen_row rows name (scope_of under.ctx))) (list_any (λ name. is_some (chosen_row rows name (scope_of under.ctx))) later) none in
    ap (λ row. through (ran moment row (chose row under)) (walk rows moment later)) (none_in (chosen_row rows name (scope_of under.ctx)) parts.0)
    ∙ ap (λ list. walk rows moment later (record { ctx = under.ctx; chosen = list; limit = under.limit })) (append-nil under.chosen)
    ∙ walks_over rows moment later under parts.1

-- ---- the query

same_text : (text : List ℕ) → bytes_eq text text ≡ true
same_text text = nat_list_eq_equiv.refl text

and_true : (a b : Bool) → a ≡ true → b ≡ true → (a && b) ≡ true
and_true a b a_is b_is = ap₂ (λ x y. x && y) a_is b_is

pairs_same : (pairs : List Pair) → same_pairs pairs pairs ≡ true
pairs_same [] = refl
pairs_same (p ∷ ps) =
    and_true (same_pair p p) (same_pairs ps ps) (and_true (bytes_eq p.name p.name) (bytes_eq p.value p.value) (same_text p.name) (same_text p.value)) (pairs_same ps)

query_as_it_came : (query : Option (List ℕ)) → upstream_query query (pairs_of query) ≡ as_it_came query
query_as_it_came query = ap (λ same. cond same (as_it_came query) (written (pairs_of query))) (pairs_same (pairs_of query))

-- ---- the course

message_is : (choice : Choice) (request : Request)
    → up_request (way_of choice request) (started choice.service.id choice.route.id request) ≡ straight_request choice request
unfolding up_request
message_is choice request =
    let message : List ℕ → UpRequest = λ query. record {
      target = record { host = choice.service.host; port = choice.service.port };
      retries = choice.service.retries;
      bytes = upstream_text request.method (path_for choice request ++ query) (host_for choice request) request (upstream_fields request.headers);
      head_only = is_head request;
    } in
    ap message (query_as_it_came request.query)

pub straight : (asked : Asked) (choice : Choice) (entity : Key → Option Value) (verdicts : List Verdict) (upstream : Option Upstream)
    → best_choice asked.router.services asked.router.routes asked.request ≡ Some choice → is_touched asked.plugins.rows choice ≡ false
    → plain asked entity verdicts upstream ≡ want_of (run (finished (way_of choice asked.request) (start choice asked.request)) (answers entity verdicts upstream))
straight asked choice entity verdicts upstream best none =
    ap (λ found. want_of (run (routed asked found) (answers entity verdicts upstream))) best
    ∙ ap (λ course. want_of (run (through course (finished (way_of choice asked.request))) (answers entity verdicts upstream)))
    (walks_over asked.plugins.rows asked.moment plugins_in_order (start choice asked.request) none)

pub wants_upstream : (asked : Asked) (choice : Choice) (entity : Key → Option Value) (verdicts : List Verdict)
    → best_choice asked.router.services asked.router.routes asked.request ≡ Some choice → is_touched asked.plugins.rows choice ≡ false
    → plain asked entity verdicts None ≡ want.Upstream (straight_request choice asked.request)
wants_upstream asked choice entity verdicts best none =
    straight asked choice entity verdicts None best none ∙ ap (λ message. want.Upstream message) (message_is choice asked.request)

pub replies : (asked : Asked) (choice : Choice) (entity : Key → Option Value) (verdicts : List Verdict) (answer : Upstream)
    → best_choice asked.router.services asked.router.routes asked.request ≡ Some choice → is_touched asked.plugins.rows choice ≡ false
    → plain asked entity verdicts (Some answer) ≡ want.Done (reply_of answer)
replies asked choice entity verdicts answer best none = straight asked choice entity verdicts (Some answer) best none

-- without rows nothing is touched
pub no_rows_touch : (rows : List PluginRow) (choice : Choice) → rows ≡ [] → is_touched rows choice ≡ false
no_rows_touch rows choice none = ap (λ list. is_touched list choice) none
