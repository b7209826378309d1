-- Kong's plugin cors in header_filter (Kong Gateway manual, "CORS"; the Fetch standard, section 3.2.3; which
-- origin is told, and Vary, are this project's own).
use Rattle.std.specs.Prelude.{ℕ, Bool, not, ◌&&◌, ◌||◌, List, [], ◌∷◌, ◌++◌, Option, Some, None, codes, decimal, option_map, if◌then◌else◌}
use Rattle.std.specs.List.{list_any}
use Rattle.std.specs.Option.{option_or}
use Rattle.std.specs.Str.{bytes_eq}
use Rattle.kg_row_types.specs.TextForms.{is_set}
use Rattle.kg_row_types.specs.declared.config.Cors.{Cors}
use Rattle.kg_message.specs.HeaderLists.{first_value}
use Rattle.kg_message.specs.declared.header.Header.{Header}
use Rattle.kg_message.specs.declared.request.Request.{Request}
use Rattle.kg_message.specs.declared.response.Response.{Response}
use Rattle.kg_context.specs.Fields.{field, joined, set_field}
use Rattle.kg_context.specs.declared.context.ReqCtx.{ReqCtx}
use Rattle.kg_guard.specs.declared.cors_reply.Allowed.{Allowed as Found}
use Rattle.kg_guard.specs.declared.cors_reply.Allowed.TheVariants as found

-- ---- who may read the reply

-- every origin, one, or none
pub data Allowed : Type 0 where
  Everyone : Allowed
  Only : List ℕ → Allowed
  Nobody : Allowed

-- the origins have `*`: so they do where none are set
abbrev pub has_any : Cors → Bool
has_any config = not (is_set config.origins) || list_any (bytes_eq (codes "*")) config.origins

-- the request's origin, where the origins have it or `*`
abbrev pub own_origin : Cors → Option (List ℕ) → Allowed
own_origin config None = Nobody
own_origin config (Some origin) =
    if has_any config || list_any (bytes_eq origin) config.origins then Only origin else Nobody

-- the one origin that there is, whatever the request's; else the request's
abbrev pub one_origin : Cors → Request → List (List ℕ) → Allowed
one_origin config request (origin ∷ []) =
    if bytes_eq origin (codes "*") then own_origin config (first_value (codes "origin") request.headers) else Only origin
one_origin config request _ = own_origin config (first_value (codes "origin") request.headers)

-- every origin, where the reply may be read without credentials alone
abbrev pub allowed_origin : Cors → Request → Allowed
allowed_origin config request =
    if has_any config && not config.credentials then Everyone else one_origin config request config.origins

-- ---- the fields

-- who may read the reply; where that hangs on the request, caches are told so
abbrev pub origin_fields : Allowed → List Header
origin_fields Everyone = field (codes "access-control-allow-origin") (codes "*") ∷ []
origin_fields (Only origin) = field (codes "access-control-allow-origin") origin ∷ field (codes "vary") (codes "Origin") ∷ []
origin_fields Nobody = []

abbrev pub credentials_fields : Bool → List Header
credentials_fields credentials =
    if credentials then field (codes "access-control-allow-credentials") (codes "true") ∷ [] else []

-- the texts joined by commas, if some are set
abbrev pub comma_list : List (List ℕ) → Option (List ℕ)
comma_list texts = if is_set texts then Some (joined (codes ",") texts) else None

-- what a preflight is told: the methods, the headers, and for how many seconds
abbrev pub preflight_fields : Cors → Request → List Header
preflight_fields config request =
    field (codes "access-control-allow-methods") (joined (codes ",") config.methods)
    ∷ set_field (codes "access-control-allow-headers")
    (option_or (comma_list config.headers) (first_value (codes "access-control-request-headers") request.headers))
    ++ set_field (codes "access-control-max-age") (option_map decimal config.max_age)

-- what every other request is told
abbrev pub exposed_fields : Cors → List Header
exposed_fields config = set_field (codes "access-control-expose-headers") (comma_list config.exposed_headers)

-- all further fields
abbrev pub further_fields : Cors → ReqCtx → List Header
further_fields config ctx =
    credentials_fields config.credentials
    ++ (if ctx.preflight then preflight_fields config ctx.request else exposed_fields config)

-- nothing at all, where nobody may read the reply
abbrev pub fields_for : Cors → ReqCtx → Allowed → List Header
fields_for config ctx Nobody = []
fields_for config ctx allowed = origin_fields allowed ++ further_fields config ctx

abbrev pub cors_fields : Cors → ReqCtx → List Header
cors_fields config ctx = fields_for config ctx (allowed_origin config ctx.request)

-- the reply with the fields behind its own
abbrev pub cors_headers : Cors → ReqCtx → Response → Response
cors_headers config ctx response = record response { headers = response.headers ++ cors_fields config ctx }

-- ---- machinery: what a search hands out

-- the origin behind its reference
abbrev pub allowed_at : Found → Allowed
allowed_at found.Everyone = Everyone
allowed_at (found.Only origin) = Only origin.now
allowed_at found.Nobody = Nobody
