-- The fields of every object that a body can have, and what each of them takes (Kong Gateway manual,
-- Admin API and the pages of the plugins; the bounds are this project's own). `Judged` fields are read, and
-- a new row has the value behind their shape where its body sets none. `Fixed` fields take one value alone,
-- `Dropped` ones are ignored, and those `Inside` are objects with a table of their own.
use Rattle.std.specs.Prelude.{ℕ, pos, neg_ℤ, true, false, List, [], ◌∷◌, Option, Some, None, unwrap_or, codes}
use Rattle.std.specs.Map.{lookup}
use Rattle.std.specs.Str.{bytes_eq}
use Rattle.kg_row_types.specs.declared.config.LimitBy.TheVariants as limit
use Rattle.kg_row_types.specs.declared.config.SizeUnit.TheVariants as unit
use Rattle.kg_row_types.specs.declared.entity.Kind.{Kind}
use Rattle.kg_row_types.specs.declared.entity.Kind.TheVariants as kind
use Rattle.kg_row_types.specs.declared.plugin.PluginName.{PluginName}
use Rattle.kg_row_types.specs.declared.plugin.PluginName.TheVariants as plugin
use Rattle.kg_field_tables.specs.declared.constant.Constant.TheVariants.{Nothing, Bit, Number, Phrase}
use Rattle.kg_field_tables.specs.declared.constant.Phrase.TheVariants as phrase
use Rattle.kg_field_tables.specs.declared.default_value.DefaultValue.TheVariants as default
use Rattle.kg_field_tables.specs.declared.default_value.DefaultValue.TheVariants.{Unset}
use Rattle.kg_field_tables.specs.declared.default_value.TextList.TheVariants as texts
use Rattle.kg_field_tables.specs.declared.reference.Mention.TheVariants as mention
use Rattle.kg_field_tables.specs.declared.shape.Shape.TheVariants.{Text, Texts, OneOf, Protocols, Whole, Integer, Flag, Reference, Headers, Object}
use Rattle.kg_field_tables.specs.declared.table.EditList.{EditList}
use Rattle.kg_field_tables.specs.declared.table.EditList.TheVariants as edits
use Rattle.kg_field_tables.specs.declared.table.Field.{Field}
use Rattle.kg_field_tables.specs.declared.table.Field.TheVariants.{Unknown, Dropped, Fixed, Judged, Inside}
use Rattle.kg_field_tables.specs.declared.table.Table.{Table}
use Rattle.kg_field_tables.specs.declared.table.Table.TheVariants as table
use Rattle.kg_field_rules.specs.declared.text_kind.Choice.TheVariants as choice
use Rattle.kg_field_rules.specs.declared.text_kind.TextKind.{TextKind}
use Rattle.kg_field_rules.specs.declared.text_kind.TextKind.TheVariants as text_kind

-- the fields of an object, by name
abbrev pub Fields : Type 0
Fields = List (List ℕ × Field)

-- a row's id, and its times, which the clock tells
abbrev pub row_fields : Fields
row_fields = (codes "id", Judged (Text text_kind.Id) Unset) ∷ (codes "created_at", Dropped) ∷ (codes "updated_at", Dropped) ∷ []

-- tags, timeouts and certificates, which a service has no use for
abbrev pub other_service_fields : Fields
other_service_fields =
    (codes "connect_timeout", Dropped)
    ∷ (codes "read_timeout", Dropped)
    ∷ (codes "write_timeout", Dropped)
    ∷ (codes "tags", Dropped)
    ∷ (codes "ca_certificates", Dropped)
    ∷ (codes "client_certificate", Dropped)
    ∷ (codes "tls_verify", Dropped)
    ∷ (codes "tls_verify_depth", Dropped)
    ∷ row_fields

abbrev pub service_fields : Fields
service_fields =
    (codes "name", Judged (Text text_kind.Name) Unset)
    ∷ (codes "protocol", Fixed (Phrase phrase.Http))
    ∷ (codes "host", Judged (Text text_kind.Host) Unset)
    ∷ (codes "port", Judged (Whole 1 65535) (default.Whole 80))
    ∷ (codes "path", Judged (Text text_kind.Path) Unset)
    ∷ (codes "retries", Judged (Whole 0 32767) (default.Whole 5))
    ∷ (codes "enabled", Judged Flag (default.Flag true))
    ∷ (codes "url", Judged (Text text_kind.Url) Unset)
    ∷ other_service_fields

-- how paths are joined, what other protocols ask for, tags and buffers
abbrev pub other_route_fields : Fields
other_route_fields =
    (codes "path_handling", Fixed (Phrase phrase.V0))
    ∷ (codes "snis", Fixed Nothing)
    ∷ (codes "sources", Fixed Nothing)
    ∷ (codes "destinations", Fixed Nothing)
    ∷ (codes "tags", Dropped)
    ∷ (codes "request_buffering", Dropped)
    ∷ (codes "response_buffering", Dropped)
    ∷ (codes "https_redirect_status_code", Dropped)
    ∷ row_fields

abbrev pub route_fields : Fields
route_fields =
    (codes "name", Judged (Text text_kind.Name) Unset)
    ∷ (codes "service", Judged (Reference mention.Name) Unset)
    ∷ (codes "protocols", Judged Protocols (default.Https true))
    ∷ (codes "methods", Judged (Texts text_kind.Method) Unset)
    ∷ (codes "hosts", Judged (Texts text_kind.RouteHost) Unset)
    ∷ (codes "paths", Judged (Texts text_kind.RoutePath) Unset)
    ∷ (codes "headers", Judged Headers Unset)
    ∷ (codes "regex_priority", Judged (Integer (neg_ℤ (pos 1000000)) (pos 1000000)) (default.Integer (pos 0)))
    ∷ (codes "strip_path", Judged Flag (default.Flag true))
    ∷ (codes "preserve_host", Judged Flag (default.Flag false))
    ∷ other_route_fields

abbrev pub consumer_fields : Fields
consumer_fields =
    (codes "username", Judged (Text text_kind.Username) Unset)
    ∷ (codes "custom_id", Judged (Text text_kind.FreeText) Unset)
    ∷ (codes "tags", Dropped)
    ∷ row_fields

abbrev pub key_cred_fields : Fields
key_cred_fields =
    (codes "consumer", Judged (Reference mention.Username) Unset)
    ∷ (codes "key", Judged (Text text_kind.FreeText) Unset)
    ∷ (codes "ttl", Fixed Nothing)
    ∷ (codes "tags", Dropped)
    ∷ row_fields

abbrev pub basic_cred_fields : Fields
basic_cred_fields =
    (codes "consumer", Judged (Reference mention.Username) Unset)
    ∷ (codes "username", Judged (Text text_kind.FreeText) Unset)
    ∷ (codes "password", Judged (Text text_kind.FreeText) Unset)
    ∷ (codes "tags", Dropped)
    ∷ row_fields

abbrev pub acl_row_fields : Fields
acl_row_fields =
    (codes "consumer", Judged (Reference mention.Username) Unset)
    ∷ (codes "group", Judged (Text text_kind.FreeText) Unset)
    ∷ (codes "tags", Dropped)
    ∷ row_fields

-- the config's fields hang on the plugin; where that isn't known, it is an object of any kind
abbrev pub config_field : Option PluginName → Field
config_field None = Judged Object Unset
config_field (Some name) = Inside (table.Config name)

abbrev pub plugin_fields : Option PluginName → Fields
plugin_fields name =
    (codes "name", Judged (OneOf choice.Plugin) Unset)
    ∷ (codes "service", Judged (Reference mention.Name) Unset)
    ∷ (codes "route", Judged (Reference mention.Name) Unset)
    ∷ (codes "consumer", Judged (Reference mention.Username) Unset)
    ∷ (codes "enabled", Judged Flag (default.Flag true))
    ∷ (codes "config", config_field name)
    ∷ (codes "ordering", Fixed Nothing)
    ∷ (codes "protocols", Dropped)
    ∷ (codes "tags", Dropped)
    ∷ (codes "instance_name", Dropped)
    ∷ row_fields

-- ---- configs

abbrev pub cors_fields : Fields
cors_fields =
    (codes "origins", Judged (Texts text_kind.FreeText) Unset)
    ∷ (codes "methods", Judged (Texts text_kind.Method) (default.Texts texts.Methods))
    ∷ (codes "headers", Judged (Texts text_kind.FreeText) Unset)
    ∷ (codes "exposed_headers", Judged (Texts text_kind.FreeText) Unset)
    ∷ (codes "credentials", Judged Flag (default.Flag false))
    ∷ (codes "max_age", Judged (Whole 0 1000000000) Unset)
    ∷ (codes "preflight_continue", Judged Flag (default.Flag false))
    ∷ (codes "private_network", Fixed (Bit false))
    ∷ []

abbrev pub key_auth_fields : Fields
key_auth_fields =
    (codes "key_names", Judged (Texts text_kind.Token) (default.Texts texts.KeyNames))
    ∷ (codes "key_in_header", Judged Flag (default.Flag true))
    ∷ (codes "key_in_query", Judged Flag (default.Flag true))
    ∷ (codes "hide_credentials", Judged Flag (default.Flag false))
    ∷ (codes "anonymous", Judged (Text text_kind.Anonymous) Unset)
    ∷ (codes "key_in_body", Fixed (Bit false))
    ∷ (codes "run_on_preflight", Fixed (Bit true))
    ∷ (codes "realm", Fixed Nothing)
    ∷ []

abbrev pub basic_auth_fields : Fields
basic_auth_fields =
    (codes "hide_credentials", Judged Flag (default.Flag false))
    ∷ (codes "anonymous", Judged (Text text_kind.Anonymous) Unset)
    ∷ (codes "realm", Fixed (Phrase phrase.Service))
    ∷ []

abbrev pub ip_restriction_fields : Fields
ip_restriction_fields =
    (codes "allow", Judged (Texts text_kind.AddressBlock) Unset)
    ∷ (codes "deny", Judged (Texts text_kind.AddressBlock) Unset)
    ∷ (codes "status", Fixed Nothing)
    ∷ (codes "message", Fixed Nothing)
    ∷ []

abbrev pub size_limit_fields : Fields
size_limit_fields =
    (codes "allowed_payload_size", Judged (Whole 1 1000000000) (default.Whole 128))
    ∷ (codes "size_unit", Judged (OneOf choice.SizeUnit) (default.SizeUnit unit.Megabytes))
    ∷ (codes "require_content_length", Fixed (Bit false))
    ∷ []

abbrev pub acl_fields : Fields
acl_fields =
    (codes "allow", Judged (Texts text_kind.FreeText) Unset)
    ∷ (codes "deny", Judged (Texts text_kind.FreeText) Unset)
    ∷ (codes "hide_groups_header", Judged Flag (default.Flag false))
    ∷ (codes "always_use_authenticated_groups", Fixed (Bit false))
    ∷ (codes "include_consumer_groups", Fixed (Bit false))
    ∷ []

abbrev pub rate_limiting_fields : Fields
rate_limiting_fields =
    (codes "second", Judged (Whole 1 1000000000) Unset)
    ∷ (codes "minute", Judged (Whole 1 1000000000) Unset)
    ∷ (codes "hour", Judged (Whole 1 1000000000) Unset)
    ∷ (codes "day", Judged (Whole 1 1000000000) Unset)
    ∷ (codes "month", Fixed Nothing)
    ∷ (codes "year", Fixed Nothing)
    ∷ (codes "limit_by", Judged (OneOf choice.LimitBy) (default.LimitBy limit.Consumer))
    ∷ (codes "policy", Fixed (Phrase phrase.Local))
    ∷ (codes "hide_client_headers", Judged Flag (default.Flag false))
    ∷ (codes "error_code", Fixed (Number 429))
    ∷ (codes "error_message", Fixed (Phrase phrase.LimitExceeded))
    ∷ (codes "fault_tolerant", Dropped)
    ∷ []

abbrev pub request_transformer_fields : Fields
request_transformer_fields =
    (codes "remove", Inside (table.RequestEdits edits.Remove))
    ∷ (codes "rename", Inside (table.RequestEdits edits.Rename))
    ∷ (codes "replace", Inside (table.RequestEdits edits.Replace))
    ∷ (codes "add", Inside (table.RequestEdits edits.Add))
    ∷ (codes "append", Inside (table.RequestEdits edits.Append))
    ∷ (codes "http_method", Fixed Nothing)
    ∷ []

abbrev pub response_transformer_fields : Fields
response_transformer_fields =
    (codes "remove", Inside (table.ResponseEdits edits.Remove))
    ∷ (codes "rename", Inside (table.ResponseEdits edits.Rename))
    ∷ (codes "replace", Inside (table.ResponseEdits edits.Replace))
    ∷ (codes "add", Inside (table.ResponseEdits edits.Add))
    ∷ (codes "append", Inside (table.ResponseEdits edits.Append))
    ∷ []

abbrev pub termination_fields : Fields
termination_fields =
    (codes "status_code", Judged (Whole 200 599) (default.Whole 503))
    ∷ (codes "message", Judged (Text text_kind.FreeText) Unset)
    ∷ (codes "body", Judged (Text text_kind.LongText) Unset)
    ∷ (codes "content_type", Judged (Text text_kind.FreeText) Unset)
    ∷ (codes "trigger", Fixed Nothing)
    ∷ (codes "echo", Fixed (Bit false))
    ∷ []

abbrev pub config_fields : PluginName → Fields
config_fields plugin.Cors = cors_fields
config_fields plugin.KeyAuth = key_auth_fields
config_fields plugin.BasicAuth = basic_auth_fields
config_fields plugin.IpRestriction = ip_restriction_fields
config_fields plugin.RequestSizeLimiting = size_limit_fields
config_fields plugin.Acl = acl_fields
config_fields plugin.RateLimiting = rate_limiting_fields
config_fields plugin.RequestTransformer = request_transformer_fields
config_fields plugin.ResponseTransformer = response_transformer_fields
config_fields plugin.RequestTermination = termination_fields

-- ---- lists of edits

-- in a renaming of headers the value is a name too
abbrev pub header_text_kind : EditList → TextKind
header_text_kind edits.Rename = text_kind.HeaderRename
header_text_kind _ = text_kind.HeaderEdit

-- only a replacement can speak of the uri
abbrev pub uri_field : EditList → Fields
uri_field edits.Replace = (codes "uri", Fixed Nothing) ∷ []
uri_field _ = []

abbrev pub request_edit_fields : EditList → Fields
request_edit_fields edits =
    (codes "headers", Judged (Texts (header_text_kind edits)) Unset)
    ∷ (codes "querystring", Judged (Texts text_kind.Edit) Unset)
    ∷ (codes "body", Fixed Nothing)
    ∷ uri_field edits

abbrev pub response_edit_fields : EditList → Fields
response_edit_fields edits =
    (codes "headers", Judged (Texts (header_text_kind edits)) Unset)
    ∷ (codes "json", Fixed Nothing)
    ∷ []

-- ---- any table

abbrev pub fields : Table → Fields
fields table.Service = service_fields
fields table.Route = route_fields
fields table.Consumer = consumer_fields
fields table.KeyCred = key_cred_fields
fields table.BasicCred = basic_cred_fields
fields table.Acl = acl_row_fields
fields (table.Plugin name) = plugin_fields name
fields (table.Config name) = config_fields name
fields (table.RequestEdits edits) = request_edit_fields edits
fields (table.ResponseEdits edits) = response_edit_fields edits

-- the field of this name
abbrev pub field_among : Fields → List ℕ → Field
field_among listed name = unwrap_or (lookup (bytes_eq name) listed) Unknown

abbrev pub field_of : Table → List ℕ → Field
field_of table name = field_among (fields table) name

-- the table of a kind; a plugin's hangs on the name that the body gives
abbrev pub table_of : Kind → Option PluginName → Table
table_of kind.Service name = table.Service
table_of kind.Route name = table.Route
table_of kind.Consumer name = table.Consumer
table_of kind.KeyCred name = table.KeyCred
table_of kind.BasicCred name = table.BasicCred
table_of kind.Acl name = table.Acl
table_of kind.Plugin name = table.Plugin name
