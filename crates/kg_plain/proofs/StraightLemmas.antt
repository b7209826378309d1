-- Requests that are answered as soon as the router has found their route.
use Rattle.std.proofs.Common.{◌≡◌, ℕ, Bool, false, List, [], ◌++◌, map, option_map, Option, Some, None, refl, sym, ap, subst, ◌∙◌}
use Rattle.std.proofs.lemmas.List.{append-nil}
use Rattle.kg_row_types.specs.declared.key.Key.{Key}
use Rattle.kg_row_types.specs.declared.value.Value.{Value}
use Rattle.kg_message.specs.declared.request.Request.{Request}
use Rattle.kg_message.specs.declared.response.Response.{Response}
use Rattle.kg_context.specs.Echo.{echo_of}
use Rattle.kg_context.specs.declared.upstream.Upstream.{Upstream}
use Rattle.kg_context.specs.declared.upstream.Upstream.TheVariants.{Answered}
use Rattle.kg_router.specs.Best.{Choice, best_choice}
use Rattle.kg_router.specs.Found.{choice_at}
use Rattle.kg_router.specs.RouterRows.{RouterRows}
use Rattle.kg_plugin_table.specs.PluginRows.{PluginRows}
use Rattle.kg_router.specs.declared.generation.Choice.{Choice as Found}
use Rattle.kg_limit.specs.Judging.{verdict_after}
use Rattle.kg_limit.specs.Representing.{Represents}
use Rattle.kg_limit.specs.declared.hit.Hit.{Hit}
use Rattle.kg_limit.specs.declared.hit.Verdict.{Verdict}
use Rattle.kg_limit.specs.declared.windows.Windows.{Windows}
use Rattle.kg_upstream.specs.UpstreamMessage.{reply_of}
use Rattle.kg_course.specs.Course.{run}
use Rattle.kg_course.specs.Plain.{Asked, answers, no_route, plain, routed, want_of}
use Rattle.kg_course.specs.declared.want.Want.{Want}
use Rattle.kg_course.specs.declared.want.Want.TheVariants as want
use Rattle.kg_direct.specs.Untouched.{is_touched, straight_message, straight_request}
use Rattle.kg_direct.proofs.UntouchedLemmas.{replies, wants_upstream}
use Rattle.kg_plain.specs.Driving.{Responds}
use Rattle.kg_plain.specs.DryReply.{GatewayRows, after_echo, asked_of, counted, every, hits_in, response_in}
use Rattle.kg_plain.specs.Starts.{StartsSo, response_of}
use Rattle.kg_plain.specs.declared.gateway.Answer.{Answer}
use Rattle.kg_plain.specs.declared.gateway.Answer.TheVariants.{Echo, Reply}
use Rattle.kg_plain.specs.declared.gateway.Start.TheVariants.{Straight}

-- what is wanted first is no hit
counts_none : (rows : GatewayRows) (time : ℕ) (request : Request) (next : Want) → plain (asked_of rows time request) (every rows.declared) [] None ≡ next
    → hits_in next ≡ [] → counted rows time request ≡ []
unfolding counted
counts_none rows time request next is none = ap hits_in is ∙ none

-- no plugin touches it
untouched_starts : (rows : GatewayRows) (request : Request) (choice : Choice) (message : List ℕ)
    → best_choice rows.router.services rows.router.routes request ≡ Some choice → is_touched rows.plugins.rows choice ≡ false
    → message ≡ straight_message choice request → StartsSo rows request (Straight (Echo message))
untouched_starts rows request choice message best untouched is = λ hits time.
    let asked : Asked = asked_of rows time request in
    let entity : Key → Option Value = every rows.declared in
    let verdicts : List Verdict = map (verdict_after hits) (counted rows time request) in
    let answer : Upstream = Answered (echo_of (straight_message choice request)) in (
      ap (λ bytes. reply_of (Answered (echo_of bytes))) is
          ∙ ap response_in (sym (replies asked choice entity verdicts answer best untouched))
          ∙ ap (λ next. response_in (after_echo asked entity verdicts next)) (sym (wants_upstream asked choice entity verdicts best untouched)),
      counts_none rows time request (want.Upstream (straight_request choice request)) (wants_upstream asked choice entity [] best untouched) refl,
    )

-- no route takes it
unrouted_starts : (rows : GatewayRows) (request : Request) (response : Response)
    → best_choice rows.router.services rows.router.routes request ≡ None → response ≡ no_route → StartsSo rows request (Straight (Reply response))
unrouted_starts rows request response none is = λ hits time.
    let asked : Asked = asked_of rows time request in
    let entity : Key → Option Value = every rows.declared in
    let verdicts : List Verdict = map (verdict_after hits) (counted rows time request) in
    let wants : (vs : List Verdict) → plain asked entity vs None ≡ want.Done no_route =
    λ vs. ap (λ found. want_of (run (routed asked found) (answers entity vs None))) none in (
      is ∙ ap (λ next. response_in (after_echo asked entity verdicts next)) (sym (wants verdicts)),
      counts_none rows time request (want.Done no_route) (wants []) refl,
    )

-- ---- as the code finds it

-- its route, whose plugins don't touch it
pub found_untouched : (rows : GatewayRows) (request : Request) (router : RouterRows) (plugins : PluginRows) (found : Option Found) (choice : Found) (touched : Bool)
    (message : List ℕ)
    → router ≡ rows.router → plugins ≡ rows.plugins → option_map choice_at found ≡ best_choice router.services router.routes request → found ≡ Some choice
    → touched ≡ is_touched plugins.rows (choice_at choice) → touched ≡ false → message ≡ straight_message (choice_at choice) request
    → StartsSo rows request (Straight (Echo message))
found_untouched rows request router plugins found choice touched message same_router same_plugins best is tests none text =
    untouched_starts rows request (choice_at choice) message
    (ap (λ (r : RouterRows). best_choice r.services r.routes request) (sym same_router) ∙ sym best ∙ ap (option_map choice_at) is)
    (ap (λ (p : PluginRows). is_touched p.rows (choice_at choice)) (sym same_plugins) ∙ sym tests ∙ none)
    text

-- none
pub found_none : (rows : GatewayRows) (request : Request) (router : RouterRows) (found : Option Found) (response : Response)
    → router ≡ rows.router → option_map choice_at found ≡ best_choice router.services router.routes request → found ≡ None
    → response ≡ no_route → StartsSo rows request (Straight (Reply response))
found_none rows request router found response same_router best is none =
    unrouted_starts rows request response
    (ap (λ (r : RouterRows). best_choice r.services r.routes request) (sym same_router) ∙ sym best ∙ ap (option_map choice_at) is) none

-- so the response is there, and nothing was counted
pub straight_responds : (rows : GatewayRows) (hits : List Hit) (time : ℕ) (request : Request) (answer : Answer) (windows : Windows)
    → StartsSo rows request (Straight answer) → Represents windows hits → Responds rows hits time request (response_of answer) windows
straight_responds rows hits time request answer windows starts stands =
    let is = starts hits time in
    record {
      is = is.0;
      counts = subst (Represents windows) (sym (append-nil hits) ∙ ap (λ more. hits ++ more) (sym is.1)) stands;
    }
