-- Which rows and configs are valid: those that bodies can make (Kong Gateway manual, Admin API and the
-- pages of the plugins; the bounds are this project's own).
use Rattle.std.specs.Prelude.{ℕ, ◌≤◌, pos, neg_ℤ, ◌≤ℤ◌, Bool, true, false, not, ◌&&◌, ◌||◌, ◌==◌, nat_eq, List, map, Option, Some, None, is_some, is_none, IsTrue, IfSome, All, codes}
use Rattle.std.specs.List.{IsDistinct, filter_map, list_any}
use Rattle.std.specs.List.Sorted.{IsStrictlySortedBy}
use Rattle.std.specs.Cmp.Lexicographic.{slice_cmp}
use Rattle.std.specs.Ordering.{nat_cmp}
use Rattle.std.specs.Str.{bytes_eq}
use Rattle.kg_text.specs.Names.{IsName}
use Rattle.kg_row_types.specs.ConfigTexts.{is_key_name, is_ipv4_block, is_edit, is_header_edit, is_header_rename}
use Rattle.kg_row_types.specs.Ids.{IsId}
use Rattle.kg_row_types.specs.PluginNames.{plugin_of, same_plugin}
use Rattle.kg_row_types.specs.RowLists.{RowLists}
use Rattle.kg_text.specs.Hosts.{is_host}
use Rattle.kg_row_types.specs.TextForms.{is_name, is_free_text, is_text_within, is_username, is_printed_if_id, is_hash, is_stored_route_host, is_normal_path, is_route_path, is_method, is_list_of, is_set}
use Rattle.kg_row_types.specs.declared.config.Acl.{Acl}
use Rattle.kg_row_types.specs.declared.config.BasicAuth.{BasicAuth}
use Rattle.kg_row_types.specs.declared.config.Config.{Config}
use Rattle.kg_row_types.specs.declared.config.Config.TheVariants as of_config
use Rattle.kg_row_types.specs.declared.config.Cors.{Cors}
use Rattle.kg_row_types.specs.declared.config.Edits.{Edits}
use Rattle.kg_row_types.specs.declared.config.IpRestriction.{IpRestriction}
use Rattle.kg_row_types.specs.declared.config.KeyAuth.{KeyAuth}
use Rattle.kg_row_types.specs.declared.config.RateLimiting.{RateLimiting}
use Rattle.kg_row_types.specs.declared.config.RequestTransformer.{RequestTransformer}
use Rattle.kg_row_types.specs.declared.config.ResponseTransformer.{ResponseTransformer}
use Rattle.kg_row_types.specs.declared.config.SizeLimit.{SizeLimit}
use Rattle.kg_row_types.specs.declared.config.Termination.{Termination}
use Rattle.kg_row_types.specs.declared.consumer.AclRow.{AclRow}
use Rattle.kg_row_types.specs.declared.consumer.BasicCred.{BasicCred}
use Rattle.kg_row_types.specs.declared.consumer.Consumer.{Consumer}
use Rattle.kg_row_types.specs.declared.consumer.KeyCred.{KeyCred}
use Rattle.kg_row_types.specs.declared.entity.Entity.{Entity}
use Rattle.kg_row_types.specs.declared.entity.Entity.TheVariants as row
use Rattle.kg_row_types.specs.declared.plugin.PluginRow.{PluginRow}
use Rattle.kg_row_types.specs.declared.plugin.Scope.{Scope}
use Rattle.kg_row_types.specs.declared.route.HeaderTest.{HeaderTest}
use Rattle.kg_row_types.specs.declared.route.Route.{Route}
use Rattle.kg_row_types.specs.declared.service.Service.{Service}

-- ---- rows that route requests

pub record IsValidService (service : Service) : Type 0 where
  pub id : IsId service.id
  pub name : IfSome service.name (λ name. IsTrue (is_name name))
  pub host : IsTrue (is_host service.host)
  pub port : (1 ≤ service.port) × (service.port ≤ 65535)
  pub path : IfSome service.path (λ path. IsTrue (is_normal_path path))
  pub retries : service.retries ≤ 32767

-- a header name other than host, as it is kept, with at least one value
pub record IsValidHeaderTest (test : HeaderTest) : Type 0 where
  pub form : IsName test.name
  pub name : IsTrue (not (bytes_eq test.name (codes "host")))
  pub values : IsTrue (is_list_of is_free_text test.values && is_set test.values)

-- the headers stand in byte order of their names, each once; something is set that a request can fit
pub record IsValidRoute (route : Route) : Type 0 where
  pub id : IsId route.id
  pub name : IfSome route.name (λ name. IsTrue (is_name name))
  pub service : IsId route.service
  pub methods : IsTrue (is_list_of is_method route.methods)
  pub hosts : IsTrue (is_list_of is_stored_route_host route.hosts)
  pub paths : IsTrue (is_list_of is_route_path route.paths)
  pub headers : All IsValidHeaderTest route.headers
  pub ordered : IsStrictlySortedBy (slice_cmp nat_cmp) (map (λ test. test.name) route.headers)
  pub low : neg_ℤ (pos 1000000) ≤ℤ route.regex_priority
  pub high : route.regex_priority ≤ℤ pos 1000000
  pub attributes : IsTrue (is_set route.methods || is_set route.hosts || is_set route.headers || is_set route.paths)

-- ---- consumers and their credentials

pub record IsValidConsumer (consumer : Consumer) : Type 0 where
  pub id : IsId consumer.id
  pub username : IfSome consumer.username (λ name. IsTrue (is_username name))
  pub custom_id : IfSome consumer.custom_id (λ text. IsTrue (is_free_text text))
  pub known : IsTrue (is_some consumer.username || is_some consumer.custom_id)

pub record IsValidKeyCred (cred : KeyCred) : Type 0 where
  pub id : IsId cred.id
  pub consumer : IsId cred.consumer
  pub key : IsTrue (is_free_text cred.key)

pub record IsValidBasicCred (cred : BasicCred) : Type 0 where
  pub id : IsId cred.id
  pub consumer : IsId cred.consumer
  pub username : IsTrue (is_free_text cred.username)
  pub hash : IsTrue (is_hash cred.hash)

pub record IsValidAcl (membership : AclRow) : Type 0 where
  pub id : IsId membership.id
  pub consumer : IsId membership.consumer
  pub group : IsTrue (is_free_text membership.group)

-- ---- configs of plugins

-- a number that is set is from 1 to a thousand million
abbrev pub IsLimit : Option ℕ → Type 0
IsLimit limit = IfSome limit (λ n. (1 ≤ n) × (n ≤ 1000000000))

-- who stands for requests without a consumer: a free text, printed where it is an id
abbrev pub IsAnonymous : Option (List ℕ) → Type 0
IsAnonymous anonymous = IfSome anonymous (λ text. IsTrue (is_free_text text && is_printed_if_id text))

abbrev pub are_free_texts : List (List ℕ) → Bool
are_free_texts texts = is_list_of is_free_text texts

pub record IsValidCors (config : Cors) : Type 0 where
  pub origins : IsTrue (are_free_texts config.origins)
  pub methods : IsTrue (is_list_of is_method config.methods && is_set config.methods)
  pub headers : IsTrue (are_free_texts config.headers)
  pub exposed_headers : IsTrue (are_free_texts config.exposed_headers)
  pub max_age : IfSome config.max_age (λ seconds. seconds ≤ 1000000000)

pub record IsValidKeyAuth (config : KeyAuth) : Type 0 where
  pub key_names : IsTrue (is_list_of is_key_name config.key_names && is_set config.key_names)
  pub anonymous : IsAnonymous config.anonymous

pub record IsValidBasicAuth (config : BasicAuth) : Type 0 where
  pub anonymous : IsAnonymous config.anonymous

pub record IsValidIpRestriction (config : IpRestriction) : Type 0 where
  pub allow : IsTrue (is_list_of is_ipv4_block config.allow)
  pub deny : IsTrue (is_list_of is_ipv4_block config.deny)
  pub known : IsTrue (is_set config.allow || is_set config.deny)

pub record IsValidSizeLimit (config : SizeLimit) : Type 0 where
  pub size : (1 ≤ config.allowed_payload_size) × (config.allowed_payload_size ≤ 1000000000)

-- exactly one of the lists is set
pub record IsValidAclConfig (config : Acl) : Type 0 where
  pub allow : IsTrue (are_free_texts config.allow)
  pub deny : IsTrue (are_free_texts config.deny)
  pub known : IsTrue (is_set config.allow || is_set config.deny)
  pub exclusive : IsTrue (not (is_set config.allow && is_set config.deny))

pub record IsValidRateLimiting (config : RateLimiting) : Type 0 where
  pub second : IsLimit config.second
  pub minute : IsLimit config.minute
  pub hour : IsLimit config.hour
  pub day : IsLimit config.day
  pub known : IsTrue (is_some config.second || is_some config.minute || is_some config.hour || is_some config.day)

-- members of the given form in both lists
abbrev pub are_edits : (List ℕ → Bool) → Edits → Bool
are_edits in_headers edits = is_list_of in_headers edits.headers && is_list_of is_edit edits.querystring

pub record IsValidRequestTransformer (config : RequestTransformer) : Type 0 where
  pub remove : IsTrue (are_edits is_header_edit config.remove)
  pub rename : IsTrue (are_edits is_header_rename config.rename)
  pub replace : IsTrue (are_edits is_header_edit config.replace)
  pub add : IsTrue (are_edits is_header_edit config.add)
  pub append : IsTrue (are_edits is_header_edit config.append)

pub record IsValidResponseTransformer (config : ResponseTransformer) : Type 0 where
  pub remove : IsTrue (is_list_of is_header_edit config.remove)
  pub rename : IsTrue (is_list_of is_header_rename config.rename)
  pub replace : IsTrue (is_list_of is_header_edit config.replace)
  pub add : IsTrue (is_list_of is_header_edit config.add)
  pub append : IsTrue (is_list_of is_header_edit config.append)

-- message and body exclude each other, and a content type goes with a body
pub record IsValidTermination (config : Termination) : Type 0 where
  pub status_code : (200 ≤ config.status_code) × (config.status_code ≤ 599)
  pub message : IfSome config.message (λ text. IsTrue (is_free_text text))
  pub body : IfSome config.body (λ text. IsTrue (is_text_within 65536 text))
  pub content_type : IfSome config.content_type (λ text. IsTrue (is_free_text text))
  pub exclusive : IsTrue (not (is_some config.message && is_some config.body))
  pub with_body : IsTrue (is_some config.body || is_none config.content_type)

abbrev pub IsValidConfig : Config → Type 0
IsValidConfig (of_config.Cors config) = IsValidCors config
IsValidConfig (of_config.KeyAuth config) = IsValidKeyAuth config
IsValidConfig (of_config.BasicAuth config) = IsValidBasicAuth config
IsValidConfig (of_config.IpRestriction config) = IsValidIpRestriction config
IsValidConfig (of_config.RequestSizeLimiting config) = IsValidSizeLimit config
IsValidConfig (of_config.Acl config) = IsValidAclConfig config
IsValidConfig (of_config.RateLimiting config) = IsValidRateLimiting config
IsValidConfig (of_config.RequestTransformer config) = IsValidRequestTransformer config
IsValidConfig (of_config.ResponseTransformer config) = IsValidResponseTransformer config
IsValidConfig (of_config.RequestTermination config) = IsValidTermination config

-- ---- rows of plugins

-- the plugin runs before a consumer is known, or makes one known
abbrev pub is_for_no_consumer : Config → Bool
is_for_no_consumer (of_config.Cors config) = true
is_for_no_consumer (of_config.KeyAuth config) = true
is_for_no_consumer (of_config.BasicAuth config) = true
is_for_no_consumer (of_config.Acl config) = true
is_for_no_consumer _ = false

-- each part that is set is an id
pub record IsValidScope (scope : Scope) : Type 0 where
  pub service : IfSome scope.service IsId
  pub route : IfSome scope.route IsId
  pub consumer : IfSome scope.consumer IsId

pub record IsValidPlugin (plugin : PluginRow) : Type 0 where
  pub id : IsId plugin.id
  pub scope : IsValidScope plugin.scope
  pub config : IsValidConfig plugin.config
  pub consumer : IsTrue (is_none plugin.scope.consumer || not (is_for_no_consumer plugin.config))

-- ---- any row

abbrev pub IsValidRow : Entity → Type 0
IsValidRow (row.Service service) = IsValidService service
IsValidRow (row.Route route) = IsValidRoute route
IsValidRow (row.Consumer consumer) = IsValidConsumer consumer
IsValidRow (row.KeyCred cred) = IsValidKeyCred cred
IsValidRow (row.BasicCred cred) = IsValidBasicCred cred
IsValidRow (row.Acl membership) = IsValidAcl membership
IsValidRow (row.Plugin plugin) = IsValidPlugin plugin

-- ---- all rows

-- each row is valid by itself
pub record AreValidRows (rows : RowLists) : Type 0 where
  pub services : All IsValidService rows.services
  pub routes : All IsValidRoute rows.routes
  pub consumers : All IsValidConsumer rows.consumers
  pub key_creds : All IsValidKeyCred rows.key_creds
  pub basic_creds : All IsValidBasicCred rows.basic_creds
  pub acls : All IsValidAcl rows.acls
  pub plugins : All IsValidPlugin rows.plugins

-- no two rows of a kind have one id
pub record HasDistinctIds (rows : RowLists) : Type 0 where
  pub services : IsDistinct nat_eq (map (λ row. row.id) rows.services)
  pub routes : IsDistinct nat_eq (map (λ row. row.id) rows.routes)
  pub consumers : IsDistinct nat_eq (map (λ row. row.id) rows.consumers)
  pub key_creds : IsDistinct nat_eq (map (λ row. row.id) rows.key_creds)
  pub basic_creds : IsDistinct nat_eq (map (λ row. row.id) rows.basic_creds)
  pub acls : IsDistinct nat_eq (map (λ row. row.id) rows.acls)
  pub plugins : IsDistinct nat_eq (map (λ row. row.id) rows.plugins)

-- one consumer in one group
abbrev pub same_membership : AclRow → AclRow → Bool
same_membership a b = a.consumer == b.consumer && bytes_eq a.group b.group

-- both none, or one id
abbrev pub same_id : Option ℕ → Option ℕ → Bool
same_id None None = true
same_id (Some a) (Some b) = a == b
same_id _ _ = false

abbrev pub same_scope : Scope → Scope → Bool
same_scope a b = same_id a.service b.service && same_id a.route b.route && same_id a.consumer b.consumer

-- one plugin in one scope
abbrev pub same_name_and_scope : PluginRow → PluginRow → Bool
same_name_and_scope a b = same_plugin (plugin_of a.config) (plugin_of b.config) && same_scope a.scope b.scope

-- no two rows share what only one of them may have
pub record HasDistinctRows (rows : RowLists) : Type 0 where
  pub ids : HasDistinctIds rows
  pub service_names : IsDistinct bytes_eq (filter_map (λ row. row.name) rows.services)
  pub route_names : IsDistinct bytes_eq (filter_map (λ row. row.name) rows.routes)
  pub usernames : IsDistinct bytes_eq (filter_map (λ row. row.username) rows.consumers)
  pub custom_ids : IsDistinct bytes_eq (filter_map (λ row. row.custom_id) rows.consumers)
  pub keys : IsDistinct bytes_eq (map (λ row. row.key) rows.key_creds)
  pub basic_usernames : IsDistinct bytes_eq (map (λ row. row.username) rows.basic_creds)
  pub memberships : IsDistinct same_membership rows.acls
  pub places : IsDistinct same_name_and_scope rows.plugins

-- a row of this id is there
abbrev pub has_service : ℕ → RowLists → Bool
has_service id rows = list_any (λ row. row.id == id) rows.services

abbrev pub has_route : ℕ → RowLists → Bool
has_route id rows = list_any (λ row. row.id == id) rows.routes

abbrev pub has_consumer : ℕ → RowLists → Bool
has_consumer id rows = list_any (λ row. row.id == id) rows.consumers

-- what each row names is there
pub record HasReferences (rows : RowLists) : Type 0 where
  pub routes : All (λ row. IsTrue (has_service row.service rows)) rows.routes
  pub key_creds : All (λ row. IsTrue (has_consumer row.consumer rows)) rows.key_creds
  pub basic_creds : All (λ row. IsTrue (has_consumer row.consumer rows)) rows.basic_creds
  pub acls : All (λ row. IsTrue (has_consumer row.consumer rows)) rows.acls
  pub services_of_plugins : All (λ row. IfSome row.scope.service (λ id. IsTrue (has_service id rows))) rows.plugins
  pub routes_of_plugins : All (λ row. IfSome row.scope.route (λ id. IsTrue (has_route id rows))) rows.plugins
  pub consumers_of_plugins : All (λ row. IfSome row.scope.consumer (λ id. IsTrue (has_consumer id rows))) rows.plugins
