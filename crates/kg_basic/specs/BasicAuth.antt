-- Kong's plugin basic-auth (Kong Gateway manual, "Basic Authentication"). The one text for all
-- failures and the challenge are this project's own.
use Rattle.std.specs.Prelude.{ℕ, ◌&&◌, List, Option, Some, None, is_some, if◌then◌else◌, codes}
use Rattle.std.specs.Str.{bytes_eq}
use Rattle.kg_row_types.specs.StoredPassword.{stored_password}
use Rattle.kg_row_types.specs.declared.config.BasicAuth.{BasicAuth}
use Rattle.kg_row_types.specs.declared.consumer.BasicCred.{BasicCred}
use Rattle.kg_row_types.specs.declared.key.Key.TheVariants as key
use Rattle.kg_message.specs.HeaderLists.{removed}
use Rattle.kg_context.specs.Rule.{Rule, Leaves, Asks}
use Rattle.kg_context.specs.declared.context.Credential.TheVariants.{Basic}
use Rattle.kg_context.specs.declared.context.ReqCtx.{ReqCtx}
use Rattle.kg_auth.specs.Authentication.{authenticated, basic_cred_in, failed}
use Rattle.kg_basic.specs.Logins.{login_of}
use Rattle.kg_basic.specs.declared.login.Login.{Login}

-- the credential with the name, where there is one: it is the sender's if the password is
abbrev pub of_credential : Option (List ℕ) → List ℕ → Option BasicCred → List ℕ → ReqCtx → Rule
of_credential anonymous password None challenge ctx = failed anonymous (codes "Unauthorized") challenge ctx
of_credential anonymous password (Some credential) challenge ctx =
    if bytes_eq credential.hash (stored_password credential.consumer password)
    then authenticated anonymous (Basic credential) challenge ctx
    else failed anonymous (codes "Unauthorized") challenge ctx

abbrev pub of_username : Option (List ℕ) → Login → List ℕ → ReqCtx → Rule
of_username anonymous login challenge ctx =
    Asks (key.Basic login.username) (λ value. of_credential anonymous login.password (basic_cred_in value) challenge ctx)

abbrev pub of_login : Option (List ℕ) → Option Login → List ℕ → ReqCtx → Rule
of_login anonymous None challenge ctx = failed anonymous (codes "Unauthorized") challenge ctx
of_login anonymous (Some login) challenge ctx = of_username anonymous login challenge ctx

-- the fields Authorization are hidden from the upstream, whatever becomes of the request, where the plugin is told so
abbrev pub hidden : BasicAuth → ReqCtx → ReqCtx
hidden config ctx =
    if config.hide_credentials then record ctx { headers = removed (codes "authorization") ctx.headers } else ctx

-- with an anonymous consumer, a request whose credential is known already passes
abbrev pub basic_auth : BasicAuth → ReqCtx → Rule
basic_auth config ctx =
    if is_some config.anonymous && is_some ctx.credential then Leaves ctx
    else
    of_login config.anonymous (login_of ctx.request.headers) (codes "Basic realm=\"service\"") (hidden config ctx)
