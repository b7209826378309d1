-- Kong's plugin key-auth (Kong Gateway manual, "Key Authentication"). The texts of the refusals and the challenge
-- `Key` are this project's own.
use Rattle.std.specs.Prelude.{ℕ, ◌==◌, ◌&&◌, List, length, Option, Some, None, option_map, is_some, codes, if◌then◌else◌}
use Rattle.std.specs.Str.{is_utf8}
use Rattle.kg_row_types.specs.declared.config.KeyAuth.{KeyAuth}
use Rattle.kg_row_types.specs.declared.consumer.KeyCred.{KeyCred}
use Rattle.kg_row_types.specs.declared.key.Key.TheVariants as key
use Rattle.kg_context.specs.Rule.{Rule, Leaves, Asks}
use Rattle.kg_context.specs.declared.context.Credential.TheVariants.{Key}
use Rattle.kg_context.specs.declared.context.ReqCtx.{ReqCtx}
use Rattle.kg_auth.specs.Authentication.{authenticated, failed, key_cred_in}
use Rattle.kg_auth.specs.KeyPlaces.{KeyPlace, key_place, values_at, without_values}
use Rattle.kg_auth.specs.Single.{single}

-- the credential with the key, where there is one
abbrev pub of_credential : Option (List ℕ) → Option KeyCred → List ℕ → ReqCtx → Rule
of_credential anonymous None challenge ctx = failed anonymous (codes "Unauthorized") challenge ctx
of_credential anonymous (Some credential) challenge ctx = authenticated anonymous (Key credential) challenge ctx

abbrev pub of_text : Option (List ℕ) → List ℕ → List ℕ → ReqCtx → Rule
of_text anonymous text challenge ctx =
    Asks (key.Cred text) (λ value. of_credential anonymous (key_cred_in value) challenge ctx)

-- a key: the empty one counts as none, and one that isn't text is nobody's
abbrev pub of_key : Option (List ℕ) → List ℕ → List ℕ → ReqCtx → Rule
of_key anonymous text challenge ctx =
    if length text == 0 then failed anonymous (codes "No API key found in request") challenge ctx
    else if is_utf8 text then of_text anonymous text challenge ctx
    else failed anonymous (codes "Unauthorized") challenge ctx

-- the one value that stands at the key's place, if it is one
abbrev pub of_value : Option (List ℕ) → Option (List ℕ) → List ℕ → ReqCtx → Rule
of_value anonymous None challenge ctx = failed anonymous (codes "Duplicate API key found") challenge ctx
of_value anonymous (Some text) challenge ctx = of_key anonymous text challenge ctx

-- the values at the key's place, if there is one
abbrev pub of_values : Option (List ℕ) → Option (List (List ℕ)) → List ℕ → ReqCtx → Rule
of_values anonymous None challenge ctx = failed anonymous (codes "No API key found in request") challenge ctx
of_values anonymous (Some values) challenge ctx = of_value anonymous (single values) challenge ctx

-- what stands there is hidden from the upstream, whatever becomes of the request, where the plugin is told so
abbrev pub hidden : KeyAuth → Option KeyPlace → ReqCtx → ReqCtx
hidden config None ctx = ctx
hidden config (Some place) ctx = if config.hide_credentials then without_values place ctx else ctx

-- with an anonymous consumer, a request whose credential is known already passes
abbrev pub key_auth : KeyAuth → ReqCtx → Rule
key_auth config ctx =
    if is_some config.anonymous && is_some ctx.credential then Leaves ctx
    else
    let place = key_place config ctx in
    of_values config.anonymous (option_map (values_at ctx) place) (codes "Key") (hidden config place ctx)
