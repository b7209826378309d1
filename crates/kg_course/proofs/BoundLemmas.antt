-- How many questions answers lead past.
use Rattle.std.proofs.Common.{◌≡◌, ℕ, ◌+◌, ◌<◌, ◌≤◌, ◌&&◌, Bool, true, false, cond, List, [], ◌∷◌, find, inl, inr, IsSome, Option, Some, None, is_some, option_map, unwrap_or, codes, Err, refl, sym, ap, subst, ◌∙◌, arith}
use Rattle.std.proofs.Math.Nat.{le_trans}
use Rattle.std.specs.Option.{option_eq, option_or}
use Rattle.std.specs.Str.{bytes_eq, is_utf8}
use Rattle.kg_text.specs.SameBytes.{same_bytes}
use Rattle.kg_row_types.specs.PluginNames.{plugin_named, plugin_of, plugin_text, plugins_in_order, same_plugin}
use Rattle.kg_row_types.specs.StoredPassword.{stored_password}
use Rattle.kg_row_types.specs.declared.config.Acl.{Acl}
use Rattle.kg_row_types.specs.declared.config.BasicAuth.{BasicAuth}
use Rattle.kg_row_types.specs.declared.config.Config.{Config}
use Rattle.kg_row_types.specs.declared.config.Config.TheVariants as of_config
use Rattle.kg_row_types.specs.declared.config.KeyAuth.{KeyAuth}
use Rattle.kg_row_types.specs.declared.consumer.BasicCred.{BasicCred}
use Rattle.kg_row_types.specs.declared.consumer.Consumer.{Consumer}
use Rattle.kg_row_types.specs.declared.consumer.KeyCred.{KeyCred}
use Rattle.kg_row_types.specs.declared.key.Key.TheVariants as key
use Rattle.kg_row_types.specs.declared.plugin.PluginName.{PluginName}
use Rattle.kg_row_types.specs.declared.plugin.PluginName.TheVariants as of_name
use Rattle.kg_row_types.specs.declared.plugin.PluginRow.{PluginRow}
use Rattle.kg_row_types.specs.declared.plugin.Scope.{Scope}
use Rattle.kg_row_types.specs.declared.value.Value.{Value}
use Rattle.kg_message.specs.declared.response.Response.{Response}
use Rattle.kg_router.specs.Best.{Choice, best_choice}
use Rattle.kg_plugin_table.specs.Precedence.{chosen_row, first_found, precedences, precedence_of, row_with, runs_with}
use Rattle.kg_context.specs.Rule.{Rule, Leaves as rule_leaves, Asks as rule_asks}
use Rattle.kg_context.specs.declared.context.Credential.{Credential}
use Rattle.kg_context.specs.declared.context.Credential.TheVariants.{Key, Basic}
use Rattle.kg_context.specs.declared.context.ReqCtx.{ReqCtx}
use Rattle.kg_auth.specs.AclRule.{acl, groups_in, judged, of_consumer}
use Rattle.kg_auth.specs.Authentication.{authenticated, basic_cred_in, consumer_in, failed, key_cred_in, owned, owner_of, stood_for}
use Rattle.kg_auth.specs.KeyAuth as by_key
use Rattle.kg_auth.specs.KeyPlaces.{key_place, values_at}
use Rattle.kg_auth.specs.Single.{single}
use Rattle.kg_basic.specs.BasicAuth as by_password
use Rattle.kg_basic.specs.Logins.{login_of}
use Rattle.kg_basic.specs.declared.login.Login.{Login}
use Rattle.kg_course.specs.Course.{Answers, Course, Leaves, AsksEntity, AsksVerdict, AsksUpstream, of_rule, run, through}
use Rattle.kg_course.specs.CourseLaws.{Extends, IsTold, passed, passed_by}
use Rattle.kg_course.specs.Phases.{Under, access_of, changed, ruled}
use Rattle.kg_course.specs.Plain.{Asked, answered, chose, course, filtered, finished, ran, routed, scope_of, start, turn, walk}
use Rattle.kg_course.specs.declared.moment.Moment.{Moment}
use Rattle.kg_course.specs.declared.want.Want.{Want}
use Rattle.kg_course.specs.declared.want.Want.TheVariants as want
use Rattle.kg_upstream.specs.UpstreamMessage.{way_of}
use Rattle.kg_upstream.specs.declared.way.Way.{Way}
use Rattle.kg_course.proofs.CourseLemmas.{answer_err}

-- ---- an answer leads further

-- it answers the first question
first_passed : {X : Type 0} (before after : Option X) (behind further : X → ℕ) → before ≡ None → IsSome after → passed_by before behind < passed_by after further
first_passed None (Some x) behind further none some = omega arith
first_passed None None behind further none some = absurd (cc)
first_passed (Some x) after behind further none some = absurd (cc)

-- or a later one
later_passed : {X : Type 0} (before after : Option X) (behind further : X → ℕ) (x : X) → before ≡ Some x → after ≡ Some x → behind x < further x → passed_by before behind < passed_by after further
later_passed before after behind further x was is more =
    subst (λ o. passed_by o behind < passed_by after further) (sym was) (subst (λ o. behind x + 1 < passed_by o further) (sym is) (omega (arith, more)))

pub passed_grows : {A : Type 0} (course : Course A) (some more : Answers) (lacking : Want)
    → Extends some more → IsTold more lacking → run course some ≡ Err lacking → passed course some < passed course more
passed_grows (Leaves a) some more lacking extends told is = absurd (cc)
passed_grows (AsksEntity key next) some more lacking extends told is =
    elim (answer_err (some.entity key) (want.Entity key) (λ v. run (next v) some) lacking is) [
      | inl (none, same) ↦ first_passed (some.entity key) (more.entity key) (λ v. passed (next v) some) (λ v. passed (next v) more) none (subst (IsTold more) same told)
      | inr (v, was, later) ↦
          later_passed (some.entity key) (more.entity key) (λ v. passed (next v) some) (λ v. passed (next v) more) v was (extends.entity key v was)
          (passed_grows (next v) some more lacking extends told later)
    ]
passed_grows (AsksVerdict hit next) some more lacking extends told is =
    elim (answer_err some.verdict (want.Count hit) (λ v. run (next v) some) lacking is) [
      | inl (none, same) ↦ first_passed some.verdict more.verdict (λ v. passed (next v) some) (λ v. passed (next v) more) none (subst (IsTold more) same told)
      | inr (v, was, later) ↦
          later_passed some.verdict more.verdict (λ v. passed (next v) some) (λ v. passed (next v) more) v was (extends.verdict v was)
          (passed_grows (next v) some more lacking extends told later)
    ]
passed_grows (AsksUpstream message next) some more lacking extends told is =
    elim (answer_err some.upstream (want.Upstream message) (λ v. run (next v) some) lacking is) [
      | inl (none, same) ↦ first_passed some.upstream more.upstream (λ v. passed (next v) some) (λ v. passed (next v) more) none (subst (IsTold more) same told)
      | inr (v, was, later) ↦
          later_passed some.upstream more.upstream (λ v. passed (next v) some) (λ v. passed (next v) more) v was (extends.upstream v was)
          (passed_grows (next v) some more lacking extends told later)
    ]

-- ---- courses one after another

-- one question more
asks_le : {X : Type 0} (told : Option X) (behind : X → ℕ) (most : ℕ) → ((x : X) → behind x ≤ most) → passed_by told behind ≤ most + 1
asks_le None behind most each = omega arith
asks_le (Some x) behind most each = omega (arith, each x)

-- a bound behind a question
asks_through : {X : Type 0} (told : Option X) (behind first : X → ℕ) (most : ℕ) → ((x : X) → behind x ≤ first x + most) → passed_by told behind ≤ passed_by told first + most
asks_through None behind first most each = omega arith
asks_through (Some x) behind first most each = omega (arith, each x)

through_le : {A B : Type 0} (first : Course A) (on : A → Course B) (told : Answers) (most : ℕ) → ((a : A) → passed (on a) told ≤ most)
    → passed (through first on) told ≤ passed first told + most
through_le (Leaves a) on told most each = omega (arith, each a)
through_le (AsksEntity key next) on told most each =
    asks_through (told.entity key) (λ v. passed (through (next v) on) told) (λ v. passed (next v) told) most (λ v. through_le (next v) on told most each)
through_le (AsksVerdict hit next) on told most each =
    asks_through told.verdict (λ v. passed (through (next v) on) told) (λ v. passed (next v) told) most (λ v. through_le (next v) on told most each)
through_le (AsksUpstream message next) on told most each =
    asks_through told.upstream (λ v. passed (through (next v) on) told) (λ v. passed (next v) told) most (λ v. through_le (next v) on told most each)

-- ---- rules

-- a rule asks at most so many keys
abbrev AsksUpTo : ℕ → Rule → Type 0
AsksUpTo most rule = (told : Answers) → passed (of_rule rule) told ≤ most

one_of : (test : Bool) (first second : Rule) (most : ℕ) → AsksUpTo most first → AsksUpTo most second → AsksUpTo most (cond test first second)
one_of true first second most this other = this
one_of false first second most this other = other

asks_one : (key : _) (next : Value → Rule) (most : ℕ) → ((value : Value) → AsksUpTo most (next value)) → AsksUpTo (most + 1) (rule_asks key next)
asks_one key next most each = λ told. asks_le (told.entity key) (λ value. passed (of_rule (next value)) told) most (λ value. each value told)

more_asked : (rule : Rule) (less most : ℕ) → less ≤ most → AsksUpTo less rule → AsksUpTo most rule
more_asked rule less most within asks = λ told. le_trans (asks told) within

failed_le : (anonymous : Option (List ℕ)) (reason challenge : List ℕ) (ctx : ReqCtx) → AsksUpTo 1 (failed anonymous reason challenge ctx)
failed_le None reason challenge ctx = λ told. omega arith
failed_le (Some name) reason challenge ctx = asks_one (key.Named name) (λ value. rule_leaves (stood_for (consumer_in value) challenge ctx)) 0 (λ value told. omega arith)

owned_le : (anonymous : Option (List ℕ)) (credential : Credential) (consumer : Option Consumer) (challenge : List ℕ) (ctx : ReqCtx)
    → AsksUpTo 1 (owned anonymous credential consumer challenge ctx)
owned_le anonymous credential None challenge ctx = failed_le anonymous _ challenge ctx
owned_le anonymous credential (Some consumer) challenge ctx = λ told. omega arith

authenticated_le : (anonymous : Option (List ℕ)) (credential : Credential) (challenge : List ℕ) (ctx : ReqCtx) → AsksUpTo 2 (authenticated anonymous credential challenge ctx)
authenticated_le anonymous credential challenge ctx =
    asks_one (key.Consumer (owner_of credential)) (λ value. owned anonymous credential (consumer_in value) challenge ctx) 1
    (λ value. owned_le anonymous credential (consumer_in value) challenge ctx)

-- ---- key-auth

of_key_cred_le : (anonymous : Option (List ℕ)) (found : Option KeyCred) (challenge : List ℕ) (ctx : ReqCtx) → AsksUpTo 2 (by_key.of_credential anonymous found challenge ctx)
of_key_cred_le anonymous None challenge ctx = more_asked _ 1 2 (omega arith) (failed_le anonymous _ challenge ctx)
of_key_cred_le anonymous (Some credential) challenge ctx = authenticated_le anonymous (Key credential) challenge ctx

fails_le : (anonymous : Option (List ℕ)) (reason challenge : List ℕ) (ctx : ReqCtx) → AsksUpTo 3 (failed anonymous reason challenge ctx)
fails_le anonymous reason challenge ctx = more_asked _ 1 3 (omega arith) (failed_le anonymous reason challenge ctx)

of_key_le : (anonymous : Option (List ℕ)) (text challenge : List ℕ) (ctx : ReqCtx) → AsksUpTo 3 (by_key.of_key anonymous text challenge ctx)
of_key_le anonymous text challenge ctx =
    one_of _ _ _ 3 (fails_le anonymous _ challenge ctx)
    (one_of (is_utf8 text) _ _ 3
    (asks_one (key.Cred text) (λ value. by_key.of_credential anonymous (key_cred_in value) challenge ctx) 2 (λ value. of_key_cred_le anonymous (key_cred_in value) challenge ctx))
    (fails_le anonymous _ challenge ctx))

of_value_le : (anonymous value : Option (List ℕ)) (challenge : List ℕ) (ctx : ReqCtx) → AsksUpTo 3 (by_key.of_value anonymous value challenge ctx)
of_value_le anonymous None challenge ctx = fails_le anonymous _ challenge ctx
of_value_le anonymous (Some text) challenge ctx = of_key_le anonymous text challenge ctx

of_values_le : (anonymous : Option (List ℕ)) (values : Option (List (List ℕ))) (challenge : List ℕ) (ctx : ReqCtx) → AsksUpTo 3 (by_key.of_values anonymous values challenge ctx)
of_values_le anonymous None challenge ctx = fails_le anonymous _ challenge ctx
of_values_le anonymous (Some values) challenge ctx = of_value_le anonymous (single values) challenge ctx

key_auth_le : (config : KeyAuth) (ctx : ReqCtx) → AsksUpTo 3 (by_key.key_auth config ctx)
key_auth_le config ctx =
    let place = key_place config ctx in
    one_of (is_some config.anonymous && is_some ctx.credential) _ _ 3 (λ told. omega arith)
    (of_values_le config.anonymous (option_map (values_at ctx) place) _ (by_key.hidden config place ctx))

-- ---- basic-auth

of_basic_cred_le : (anonymous : Option (List ℕ)) (password : List ℕ) (found : Option BasicCred) (challenge : List ℕ) (ctx : ReqCtx)
    → AsksUpTo 2 (by_password.of_credential anonymous password found challenge ctx)
of_basic_cred_le anonymous password None challenge ctx = more_asked _ 1 2 (omega arith) (failed_le anonymous _ challenge ctx)
of_basic_cred_le anonymous password (Some credential) challenge ctx =
    let fails = failed anonymous (codes "Unauthorized") challenge ctx in
    one_of (bytes_eq credential.hash (stored_password credential.consumer password)) (authenticated anonymous (Basic credential) challenge ctx) fails 2
    (authenticated_le anonymous (Basic credential) challenge ctx) (more_asked fails 1 2 (omega arith) (failed_le anonymous (codes "Unauthorized") challenge ctx))

of_login_le : (anonymous : Option (List ℕ)) (login : Option Login) (challenge : List ℕ) (ctx : ReqCtx) → AsksUpTo 3 (by_password.of_login anonymous login challenge ctx)
of_login_le anonymous None challenge ctx = fails_le anonymous _ challenge ctx
of_login_le anonymous (Some login) challenge ctx =
    asks_one (key.Basic login.username) (λ value. by_password.of_credential anonymous login.password (basic_cred_in value) challenge ctx) 2
    (λ value. of_basic_cred_le anonymous login.password (basic_cred_in value) challenge ctx)

basic_auth_le : (config : BasicAuth) (ctx : ReqCtx) → AsksUpTo 3 (by_password.basic_auth config ctx)
basic_auth_le config ctx =
    one_of (is_some config.anonymous && is_some ctx.credential) _ _ 3 (λ told. omega arith)
    (of_login_le config.anonymous (login_of ctx.request.headers) _ (by_password.hidden config ctx))

-- ---- acl

of_consumer_le : (config : Acl) (consumer : Option Consumer) (ctx : ReqCtx) → AsksUpTo 1 (of_consumer config consumer ctx)
of_consumer_le config None ctx = λ told. omega arith
of_consumer_le config (Some consumer) ctx = asks_one (key.Acls consumer.id) (λ value. rule_leaves (judged config (groups_in value) ctx)) 0 (λ value told. omega arith)

-- ---- a row

-- how many questions a plugin asks at most
abbrev most : PluginName → ℕ
most of_name.KeyAuth = 3
most of_name.BasicAuth = 3
most of_name.Acl = 1
most of_name.RateLimiting = 1
most _ = 0

ruled_le : (rule : Rule) (under : Under) (told : Answers) (bound : ℕ) → AsksUpTo bound rule → passed (ruled rule under) told ≤ bound
ruled_le rule under told bound asks =
    omega (arith, through_le (of_rule rule) (λ ctx. Leaves (changed under ctx)) told 0 (λ ctx. omega arith), asks told)

access_le : (config : Config) (moment : Moment) (id : ℕ) (under : Under) (told : Answers) → passed (access_of config moment id under) told ≤ most (plugin_of config)
access_le (of_config.Cors config) moment id under told = omega arith
access_le (of_config.KeyAuth config) moment id under told = ruled_le (by_key.key_auth config under.ctx) under told 3 (key_auth_le config under.ctx)
access_le (of_config.BasicAuth config) moment id under told = ruled_le (by_password.basic_auth config under.ctx) under told 3 (basic_auth_le config under.ctx)
access_le (of_config.IpRestriction config) moment id under told = omega arith
access_le (of_config.RequestSizeLimiting config) moment id under told = omega arith
access_le (of_config.Acl config) moment id under told = ruled_le (acl config under.ctx) under told 1 (of_consumer_le config under.ctx.consumer under.ctx)
access_le (of_config.RateLimiting config) moment id under told = asks_le told.verdict (λ verdict. 0) 0 (λ verdict. omega arith)
access_le (of_config.RequestTransformer config) moment id under told = omega arith
access_le (of_config.ResponseTransformer config) moment id under told = omega arith
access_le (of_config.RequestTermination config) moment id under told = omega arith

-- ---- which row is chosen

-- what is found passes the test
find_passes : {A : Type 0} (test : A → Bool) (xs : List A) (found : A) → find test xs ≡ Some found → test found ≡ true
find_passes test [] found is = absurd (cc)
find_passes test (x ∷ xs) found is = by_test (find_passes test xs found) (test x) refl is
  where
    by_test : (find test xs ≡ Some found → test found ≡ true) → (passes : Bool) → test x ≡ passes → cond passes (Some x) (find test xs) ≡ Some found → test found ≡ true
    by_test later true at same = ap (λ one. test (unwrap_or one x)) (sym same) ∙ at
    by_test later false at same = later same

-- what is found first has what each has that a search finds
first_found_has : {X Y : Type 0} (P : Y → Type 0) (search : X → Option Y) → ((x : X) (y : Y) → search x ≡ Some y → P y)
    → (xs : List X) (found : Y) → first_found search xs ≡ Some found → P found
first_found_has P search each [] found is = absurd (cc)
first_found_has P search each (x ∷ xs) found is = by_first (first_found_has P search each xs found) (search x) refl is
  where
    by_first : (first_found search xs ≡ Some found → P found) → (one : _) → search x ≡ one → option_or one (first_found search xs) ≡ Some found → P found
    by_first later None at same = later same
    by_first later (Some y) at same = each x found (at ∙ same)

middle : (a b c : Bool) → (a && b && c) ≡ true → b ≡ true
middle true true c all = refl
middle true false c all = all
middle false b c all = absurd (cc)

-- the row that is chosen is one of the plugin
chosen_is_named : (rows : List PluginRow) (name : PluginName) (request : Scope) (row : PluginRow) → chosen_row rows name request ≡ Some row
    → same_plugin (plugin_of row.config) name ≡ true
chosen_is_named rows name request row is =
    first_found_has (λ found. same_plugin (plugin_of found.config) name ≡ true) (row_with rows name request)
    (λ precedence found at.
    middle found.enabled (same_plugin (plugin_of found.config) name) (option_eq _ (precedence_of found.scope request) (Some precedence))
    (find_passes (runs_with name request precedence) rows found at))
    precedences row is

by_text : (a : PluginName) → plugin_named (plugin_text a) ≡ Some a
by_text of_name.Cors = refl
by_text of_name.KeyAuth = refl
by_text of_name.BasicAuth = refl
by_text of_name.IpRestriction = refl
by_text of_name.RequestSizeLimiting = refl
by_text of_name.Acl = refl
by_text of_name.RateLimiting = refl
by_text of_name.RequestTransformer = refl
by_text of_name.ResponseTransformer = refl
by_text of_name.RequestTermination = refl

same_most : (a b : PluginName) → same_plugin a b ≡ true → most a ≡ most b
same_most a b same =
    ap (λ found. most (unwrap_or found a)) (sym (by_text a) ∙ ap plugin_named (same_bytes (plugin_text a) (plugin_text b) same) ∙ by_text b)

-- ---- all turns

ran_le : (moment : Moment) (name : PluginName) (row : Option PluginRow) (under : Under) (told : Answers)
    → ((found : PluginRow) → row ≡ Some found → most (plugin_of found.config) ≡ most name) → passed (ran moment row under) told ≤ most name
ran_le moment name None under told named = omega arith
ran_le moment name (Some row) under told named = by_end (is_some under.ctx.end)
  where
    by_end : (ended : Bool) → passed (cond ended (Leaves under) (access_of row.config moment row.id under)) told ≤ most name
    by_end true = omega arith
    by_end false = subst (λ bound. passed (access_of row.config moment row.id under) told ≤ bound) (named row refl) (access_le row.config moment row.id under told)

turn_le : (rows : List PluginRow) (moment : Moment) (name : PluginName) (under : Under) (told : Answers) → passed (turn rows moment name under) told ≤ most name
turn_le rows moment name under told =
    let row = chosen_row rows name (scope_of under.ctx) in
    ran_le moment name row (chose row under) told
    (λ found is. same_most (plugin_of found.config) name (chosen_is_named rows name (scope_of under.ctx) found is))

-- the questions of these plugins together
abbrev most_of : List PluginName → ℕ
most_of [] = 0
most_of (name ∷ later) = most name + most_of later

walk_le : (rows : List PluginRow) (moment : Moment) (names : List PluginName) (under : Under) (told : Answers) → passed (walk rows moment names under) told ≤ most_of names
walk_le rows moment [] under told = omega arith
walk_le rows moment (name ∷ later) under told =
    omega (arith, through_le (turn rows moment name under) (walk rows moment later) told (most_of later) (λ now. walk_le rows moment later now told), turn_le rows moment name under told)

-- ---- the whole course

answered_le : (way : Way) (ctx : ReqCtx) (end : Option Response) (told : Answers) → passed (answered way ctx end) told ≤ 1
answered_le way ctx None told = asks_le told.upstream (λ answer. 0) 0 (λ answer. omega arith)
answered_le way ctx (Some reply) told = omega arith

finished_le : (way : Way) (under : Under) (told : Answers) → passed (finished way under) told ≤ 1
finished_le way under told =
    omega (arith, through_le (answered way under.ctx under.ctx.end) (λ reply. Leaves (filtered under reply)) told 0 (λ reply. omega arith), answered_le way under.ctx under.ctx.end told)

pub course_le : (asked : Asked) (told : Answers) → passed (course asked) told ≤ 9
course_le asked told = by_choice (best_choice asked.router.services asked.router.routes asked.request)
  where
    by_choice : (found : Option Choice) → passed (routed asked found) told ≤ 9
    by_choice None = omega arith
    by_choice (Some choice) =
        let begin = start choice asked.request in
        omega (
          arith,
          through_le (walk asked.plugins.rows asked.moment plugins_in_order begin) (finished (way_of choice asked.request)) told 1 (λ now. finished_le (way_of choice asked.request) now told),
          walk_le asked.plugins.rows asked.moment plugins_in_order begin told,
        )
