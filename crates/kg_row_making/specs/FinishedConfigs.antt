-- The config that a body makes for a plugin: what the body sets, over the old config or over the
-- defaults (Kong's page of each plugin). A field that is set replaces the old one as a whole.
use Rattle.std.specs.Prelude.{ℕ, ◌==◌, Bool, ◌&&◌, List, [], length, Option, None, unwrap_or, codes, if◌then◌else◌}
use Rattle.std.specs.Option.{option_or}
use Rattle.serde_json.specs.Data.{Data}
use Rattle.kg_row_types.specs.declared.config.Acl.{Acl}
use Rattle.kg_row_types.specs.declared.config.BasicAuth.{BasicAuth}
use Rattle.kg_row_types.specs.declared.config.Config.{Config}
use Rattle.kg_row_types.specs.declared.config.Config.TheVariants as config_of
use Rattle.kg_row_types.specs.declared.config.Cors.{Cors}
use Rattle.kg_row_types.specs.declared.config.Edits.{Edits}
use Rattle.kg_row_types.specs.declared.config.IpRestriction.{IpRestriction}
use Rattle.kg_row_types.specs.declared.config.KeyAuth.{KeyAuth}
use Rattle.kg_row_types.specs.declared.config.RateLimiting.{RateLimiting}
use Rattle.kg_row_types.specs.declared.config.RequestTransformer.{RequestTransformer}
use Rattle.kg_row_types.specs.declared.config.ResponseTransformer.{ResponseTransformer}
use Rattle.kg_row_types.specs.declared.config.SizeLimit.{SizeLimit}
use Rattle.kg_row_types.specs.declared.config.Termination.{Termination}
use Rattle.kg_row_types.specs.declared.plugin.PluginName.{PluginName}
use Rattle.kg_row_types.specs.declared.plugin.PluginName.TheVariants as plugin
use Rattle.kg_bodies.specs.Settings.{flag_at, size_unit_at, limit_by_at, inside}
use Rattle.kg_bodies.specs.TableSettings.{text_in, texts_in, whole_in}
use Rattle.kg_field_tables.specs.Defaults.{default_flag, default_limit_by, default_number, default_size_unit, default_texts, default_whole}
use Rattle.kg_field_tables.specs.declared.table.EditList.TheVariants as edits
use Rattle.kg_field_tables.specs.declared.table.Table.{Table}
use Rattle.kg_field_tables.specs.declared.table.Table.TheVariants.{Config as ConfigOf, RequestEdits, ResponseEdits}

-- a list that is set, else the other
abbrev pub list_over : {A : Type 0} → List A → List A → List A
list_over set before = if length set == 0 then before else set

-- ---- the defaults: those of the tables of fields, and nothing where a table has none

abbrev pub default_cors : Cors
default_cors = record {
  origins = [];
  methods = default_texts (ConfigOf plugin.Cors) (codes "methods");
  headers = [];
  exposed_headers = [];
  credentials = default_flag (ConfigOf plugin.Cors) (codes "credentials");
  max_age = default_number (ConfigOf plugin.Cors) (codes "max_age");
  preflight_continue = default_flag (ConfigOf plugin.Cors) (codes "preflight_continue");
}

abbrev pub default_key_auth : KeyAuth
default_key_auth = record {
  key_names = default_texts (ConfigOf plugin.KeyAuth) (codes "key_names");
  key_in_header = default_flag (ConfigOf plugin.KeyAuth) (codes "key_in_header");
  key_in_query = default_flag (ConfigOf plugin.KeyAuth) (codes "key_in_query");
  hide_credentials = default_flag (ConfigOf plugin.KeyAuth) (codes "hide_credentials");
  anonymous = None;
}

abbrev pub default_basic_auth : BasicAuth
default_basic_auth = record {
  hide_credentials = default_flag (ConfigOf plugin.BasicAuth) (codes "hide_credentials");
  anonymous = None;
}

abbrev pub default_ip_restriction : IpRestriction
default_ip_restriction = record { allow = []; deny = [] }

abbrev pub default_size_limit : SizeLimit
default_size_limit = record {
  allowed_payload_size = default_whole (ConfigOf plugin.RequestSizeLimiting) (codes "allowed_payload_size");
  size_unit = default_size_unit (ConfigOf plugin.RequestSizeLimiting) (codes "size_unit");
}

abbrev pub default_acl : Acl
default_acl = record {
  allow = [];
  deny = [];
  hide_groups_header = default_flag (ConfigOf plugin.Acl) (codes "hide_groups_header");
}

abbrev pub default_rate_limiting : RateLimiting
default_rate_limiting = record {
  second = default_number (ConfigOf plugin.RateLimiting) (codes "second");
  minute = default_number (ConfigOf plugin.RateLimiting) (codes "minute");
  hour = default_number (ConfigOf plugin.RateLimiting) (codes "hour");
  day = default_number (ConfigOf plugin.RateLimiting) (codes "day");
  limit_by = default_limit_by (ConfigOf plugin.RateLimiting) (codes "limit_by");
  hide_client_headers = default_flag (ConfigOf plugin.RateLimiting) (codes "hide_client_headers");
}

abbrev pub no_edits : Edits
no_edits = record { headers = []; querystring = [] }

abbrev pub default_request_transformer : RequestTransformer
default_request_transformer = record { remove = no_edits; rename = no_edits; replace = no_edits; add = no_edits; append = no_edits }

abbrev pub default_response_transformer : ResponseTransformer
default_response_transformer = record { remove = []; rename = []; replace = []; add = []; append = [] }

abbrev pub default_termination : Termination
default_termination = record {
  status_code = default_whole (ConfigOf plugin.RequestTermination) (codes "status_code");
  message = None;
  body = None;
  content_type = None;
}

-- the config that a plugin has where nothing is set
abbrev pub default_config : PluginName → Config
default_config plugin.Cors = config_of.Cors default_cors
default_config plugin.KeyAuth = config_of.KeyAuth default_key_auth
default_config plugin.BasicAuth = config_of.BasicAuth default_basic_auth
default_config plugin.IpRestriction = config_of.IpRestriction default_ip_restriction
default_config plugin.RequestSizeLimiting = config_of.RequestSizeLimiting default_size_limit
default_config plugin.Acl = config_of.Acl default_acl
default_config plugin.RateLimiting = config_of.RateLimiting default_rate_limiting
default_config plugin.RequestTransformer = config_of.RequestTransformer default_request_transformer
default_config plugin.ResponseTransformer = config_of.ResponseTransformer default_response_transformer
default_config plugin.RequestTermination = config_of.RequestTermination default_termination

-- ---- what the body sets

abbrev pub cors_lists_over : Data → Cors → Cors
cors_lists_over config before = record before {
  origins = list_over (texts_in (ConfigOf plugin.Cors) (codes "origins") config) before.origins;
  methods = list_over (texts_in (ConfigOf plugin.Cors) (codes "methods") config) before.methods;
  headers = list_over (texts_in (ConfigOf plugin.Cors) (codes "headers") config) before.headers;
  exposed_headers = list_over (texts_in (ConfigOf plugin.Cors) (codes "exposed_headers") config) before.exposed_headers;
}

abbrev pub cors_over : Data → Cors → Cors
cors_over config before =
    let lists = cors_lists_over config before in
    record lists {
      credentials = unwrap_or (flag_at (codes "credentials") config) before.credentials;
      max_age = option_or (whole_in (ConfigOf plugin.Cors) (codes "max_age") config) before.max_age;
      preflight_continue = unwrap_or (flag_at (codes "preflight_continue") config) before.preflight_continue;
    }

abbrev pub key_auth_over : Data → KeyAuth → KeyAuth
key_auth_over config before = record {
  key_names = list_over (texts_in (ConfigOf plugin.KeyAuth) (codes "key_names") config) before.key_names;
  key_in_header = unwrap_or (flag_at (codes "key_in_header") config) before.key_in_header;
  key_in_query = unwrap_or (flag_at (codes "key_in_query") config) before.key_in_query;
  hide_credentials = unwrap_or (flag_at (codes "hide_credentials") config) before.hide_credentials;
  anonymous = option_or (text_in (ConfigOf plugin.KeyAuth) (codes "anonymous") config) before.anonymous;
}

abbrev pub basic_auth_over : Data → BasicAuth → BasicAuth
basic_auth_over config before = record {
  hide_credentials = unwrap_or (flag_at (codes "hide_credentials") config) before.hide_credentials;
  anonymous = option_or (text_in (ConfigOf plugin.BasicAuth) (codes "anonymous") config) before.anonymous;
}

abbrev pub ip_restriction_over : Data → IpRestriction → IpRestriction
ip_restriction_over config before = record {
  allow = list_over (texts_in (ConfigOf plugin.IpRestriction) (codes "allow") config) before.allow;
  deny = list_over (texts_in (ConfigOf plugin.IpRestriction) (codes "deny") config) before.deny;
}

abbrev pub size_limit_over : Data → SizeLimit → SizeLimit
size_limit_over config before = record {
  allowed_payload_size = unwrap_or (whole_in (ConfigOf plugin.RequestSizeLimiting) (codes "allowed_payload_size") config) before.allowed_payload_size;
  size_unit = unwrap_or (size_unit_at config) before.size_unit;
}

abbrev pub groups_over : Data → Acl → Acl
groups_over config before = record {
  allow = list_over (texts_in (ConfigOf plugin.Acl) (codes "allow") config) before.allow;
  deny = list_over (texts_in (ConfigOf plugin.Acl) (codes "deny") config) before.deny;
  hide_groups_header = unwrap_or (flag_at (codes "hide_groups_header") config) before.hide_groups_header;
}

-- how many requests a window of time may have
abbrev pub limit_at : List ℕ → Data → Option ℕ
limit_at name config = whole_in (ConfigOf plugin.RateLimiting) name config

abbrev pub rate_limiting_over : Data → RateLimiting → RateLimiting
rate_limiting_over config before = record {
  second = option_or (limit_at (codes "second") config) before.second;
  minute = option_or (limit_at (codes "minute") config) before.minute;
  hour = option_or (limit_at (codes "hour") config) before.hour;
  day = option_or (limit_at (codes "day") config) before.day;
  limit_by = unwrap_or (limit_by_at config) before.limit_by;
  hide_client_headers = unwrap_or (flag_at (codes "hide_client_headers") config) before.hide_client_headers;
}

-- neither list is set
abbrev pub are_none : Edits → Bool
are_none edits = length edits.headers == 0 && length edits.querystring == 0

-- a step that is set, else the other
abbrev pub set_edits_over : Edits → Edits → Edits
set_edits_over set before = if are_none set then before else set

-- the lists of one step of a request's change; where neither is set, the step isn't
abbrev pub edits_over : Table → Data → Edits → Edits
edits_over table step before =
    set_edits_over (record { headers = texts_in table (codes "headers") step; querystring = texts_in table (codes "querystring") step }) before

abbrev pub request_transformer_over : Data → RequestTransformer → RequestTransformer
request_transformer_over config before = record {
  remove = edits_over (RequestEdits edits.Remove) (inside (codes "remove") config) before.remove;
  rename = edits_over (RequestEdits edits.Rename) (inside (codes "rename") config) before.rename;
  replace = edits_over (RequestEdits edits.Replace) (inside (codes "replace") config) before.replace;
  add = edits_over (RequestEdits edits.Add) (inside (codes "add") config) before.add;
  append = edits_over (RequestEdits edits.Append) (inside (codes "append") config) before.append;
}

-- the list of one step of a reply's change
abbrev pub header_edits_over : Table → Data → List (List ℕ) → List (List ℕ)
header_edits_over table step before = list_over (texts_in table (codes "headers") step) before

abbrev pub response_transformer_over : Data → ResponseTransformer → ResponseTransformer
response_transformer_over config before = record {
  remove = header_edits_over (ResponseEdits edits.Remove) (inside (codes "remove") config) before.remove;
  rename = header_edits_over (ResponseEdits edits.Rename) (inside (codes "rename") config) before.rename;
  replace = header_edits_over (ResponseEdits edits.Replace) (inside (codes "replace") config) before.replace;
  add = header_edits_over (ResponseEdits edits.Add) (inside (codes "add") config) before.add;
  append = header_edits_over (ResponseEdits edits.Append) (inside (codes "append") config) before.append;
}

abbrev pub reply_over : Data → Termination → Termination
reply_over config before = record before {
  message = option_or (text_in (ConfigOf plugin.RequestTermination) (codes "message") config) before.message;
  body = option_or (text_in (ConfigOf plugin.RequestTermination) (codes "body") config) before.body;
  content_type = option_or (text_in (ConfigOf plugin.RequestTermination) (codes "content_type") config) before.content_type;
}

abbrev pub termination_over : Data → Termination → Termination
termination_over config before =
    let status_code = unwrap_or (whole_in (ConfigOf plugin.RequestTermination) (codes "status_code") config) before.status_code in
    reply_over config (record before { status_code = status_code })

-- the config with what the body sets
abbrev pub config_over : Data → Config → Config
config_over config (config_of.Cors before) = config_of.Cors (cors_over config before)
config_over config (config_of.KeyAuth before) = config_of.KeyAuth (key_auth_over config before)
config_over config (config_of.BasicAuth before) = config_of.BasicAuth (basic_auth_over config before)
config_over config (config_of.IpRestriction before) = config_of.IpRestriction (ip_restriction_over config before)
config_over config (config_of.RequestSizeLimiting before) = config_of.RequestSizeLimiting (size_limit_over config before)
config_over config (config_of.Acl before) = config_of.Acl (groups_over config before)
config_over config (config_of.RateLimiting before) = config_of.RateLimiting (rate_limiting_over config before)
config_over config (config_of.RequestTransformer before) = config_of.RequestTransformer (request_transformer_over config before)
config_over config (config_of.ResponseTransformer before) = config_of.ResponseTransformer (response_transformer_over config before)
config_over config (config_of.RequestTermination before) = config_of.RequestTermination (termination_over config before)
