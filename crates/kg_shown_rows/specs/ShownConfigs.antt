-- The configs of plugins as objects of JSON (Kong's page of each plugin). What isn't set is null, and so
-- is a transformer's step in which nothing is set.
use Rattle.std.specs.Prelude.{ℕ, ◌==◌, ◌&&◌, List, [], ◌∷◌, length, codes, if◌then◌else◌}
use Rattle.kg_row_types.specs.declared.config.Acl.{Acl}
use Rattle.kg_row_types.specs.declared.config.BasicAuth.{BasicAuth}
use Rattle.kg_row_types.specs.declared.config.Config.{Config}
use Rattle.kg_row_types.specs.declared.config.Config.TheVariants as config_of
use Rattle.kg_row_types.specs.declared.config.Cors.{Cors}
use Rattle.kg_row_types.specs.declared.config.Edits.{Edits}
use Rattle.kg_row_types.specs.declared.config.IpRestriction.{IpRestriction}
use Rattle.kg_row_types.specs.declared.config.KeyAuth.{KeyAuth}
use Rattle.kg_row_types.specs.declared.config.LimitBy.{LimitBy}
use Rattle.kg_row_types.specs.declared.config.LimitBy.TheVariants as limit
use Rattle.kg_row_types.specs.declared.config.RateLimiting.{RateLimiting}
use Rattle.kg_row_types.specs.declared.config.RequestTransformer.{RequestTransformer}
use Rattle.kg_row_types.specs.declared.config.ResponseTransformer.{ResponseTransformer}
use Rattle.kg_row_types.specs.declared.config.SizeLimit.{SizeLimit}
use Rattle.kg_row_types.specs.declared.config.SizeUnit.{SizeUnit}
use Rattle.kg_row_types.specs.declared.config.SizeUnit.TheVariants as unit
use Rattle.kg_row_types.specs.declared.config.Termination.{Termination}
use Rattle.serde_json.specs.Data.{Data, null, boolean, string}
use Rattle.kg_shown_rows.specs.ShownParts.{Named, object_of, shown_number, shown_option, shown_text, shown_texts}

abbrev pub limit_text : LimitBy → List ℕ
limit_text limit.Consumer = codes "consumer"
limit_text limit.Ip = codes "ip"
limit_text limit.Service = codes "service"

abbrev pub unit_text : SizeUnit → List ℕ
unit_text unit.Megabytes = codes "megabytes"
unit_text unit.Kilobytes = codes "kilobytes"
unit_text unit.Bytes = codes "bytes"

abbrev pub cors_members : Cors → Named
cors_members config =
    (codes "credentials", boolean config.credentials)
    ∷ (codes "exposed_headers", shown_texts config.exposed_headers)
    ∷ (codes "headers", shown_texts config.headers)
    ∷ (codes "max_age", shown_option config.max_age)
    ∷ (codes "methods", shown_texts config.methods)
    ∷ (codes "origins", shown_texts config.origins)
    ∷ (codes "preflight_continue", boolean config.preflight_continue)
    ∷ []

abbrev pub key_auth_members : KeyAuth → Named
key_auth_members config =
    (codes "anonymous", shown_text config.anonymous)
    ∷ (codes "hide_credentials", boolean config.hide_credentials)
    ∷ (codes "key_in_header", boolean config.key_in_header)
    ∷ (codes "key_in_query", boolean config.key_in_query)
    ∷ (codes "key_names", shown_texts config.key_names)
    ∷ []

abbrev pub basic_auth_members : BasicAuth → Named
basic_auth_members config =
    (codes "anonymous", shown_text config.anonymous)
    ∷ (codes "hide_credentials", boolean config.hide_credentials)
    ∷ []

abbrev pub ip_restriction_members : IpRestriction → Named
ip_restriction_members config =
    (codes "allow", shown_texts config.allow)
    ∷ (codes "deny", shown_texts config.deny)
    ∷ []

abbrev pub size_limit_members : SizeLimit → Named
size_limit_members config =
    (codes "allowed_payload_size", shown_number config.allowed_payload_size)
    ∷ (codes "size_unit", string (unit_text config.size_unit))
    ∷ []

abbrev pub groups_members : Acl → Named
groups_members config =
    (codes "allow", shown_texts config.allow)
    ∷ (codes "deny", shown_texts config.deny)
    ∷ (codes "hide_groups_header", boolean config.hide_groups_header)
    ∷ []

abbrev pub rate_limiting_members : RateLimiting → Named
rate_limiting_members config =
    (codes "day", shown_option config.day)
    ∷ (codes "hide_client_headers", boolean config.hide_client_headers)
    ∷ (codes "hour", shown_option config.hour)
    ∷ (codes "limit_by", string (limit_text config.limit_by))
    ∷ (codes "minute", shown_option config.minute)
    ∷ (codes "second", shown_option config.second)
    ∷ []

-- one step of a request's change
abbrev pub shown_edits : Edits → Data
shown_edits edits =
    if length edits.headers == 0 && length edits.querystring == 0 then null
    else object_of (
    (codes "headers", shown_texts edits.headers)
    ∷ (codes "querystring", shown_texts edits.querystring)
    ∷ [])

abbrev pub request_transformer_members : RequestTransformer → Named
request_transformer_members config =
    (codes "add", shown_edits config.add)
    ∷ (codes "append", shown_edits config.append)
    ∷ (codes "remove", shown_edits config.remove)
    ∷ (codes "rename", shown_edits config.rename)
    ∷ (codes "replace", shown_edits config.replace)
    ∷ []

-- one step of a reply's change
abbrev pub shown_header_edits : List (List ℕ) → Data
shown_header_edits headers =
    if length headers == 0 then null
    else object_of ((codes "headers", shown_texts headers) ∷ [])

abbrev pub response_transformer_members : ResponseTransformer → Named
response_transformer_members config =
    (codes "add", shown_header_edits config.add)
    ∷ (codes "append", shown_header_edits config.append)
    ∷ (codes "remove", shown_header_edits config.remove)
    ∷ (codes "rename", shown_header_edits config.rename)
    ∷ (codes "replace", shown_header_edits config.replace)
    ∷ []

abbrev pub termination_members : Termination → Named
termination_members config =
    (codes "body", shown_text config.body)
    ∷ (codes "content_type", shown_text config.content_type)
    ∷ (codes "message", shown_text config.message)
    ∷ (codes "status_code", shown_number config.status_code)
    ∷ []

-- the members of a config
abbrev pub config_members : Config → Named
config_members (config_of.Cors config) = cors_members config
config_members (config_of.KeyAuth config) = key_auth_members config
config_members (config_of.BasicAuth config) = basic_auth_members config
config_members (config_of.IpRestriction config) = ip_restriction_members config
config_members (config_of.RequestSizeLimiting config) = size_limit_members config
config_members (config_of.Acl config) = groups_members config
config_members (config_of.RateLimiting config) = rate_limiting_members config
config_members (config_of.RequestTransformer config) = request_transformer_members config
config_members (config_of.ResponseTransformer config) = response_transformer_members config
config_members (config_of.RequestTermination config) = termination_members config

-- the config as an object
abbrev pub shown_config : Config → Data
shown_config config = object_of (config_members config)
