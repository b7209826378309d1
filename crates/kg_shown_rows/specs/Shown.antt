-- Rows as objects of JSON (Kong Admin API, the entities' pages). What isn't set is null. A member that
-- has one value only is left out, but for a service's protocol and a route's path handling, and what is
-- stored of a password stands in its place: this choice is the project's own.
use Rattle.std.specs.Prelude.{ℕ, ◌==◌, Bool, List, [], ◌∷◌, fold, length, codes, if◌then◌else◌}
use Rattle.kg_row_types.specs.PluginNames.{plugin_of, plugin_text}
use Rattle.kg_row_types.specs.declared.consumer.AclRow.{AclRow}
use Rattle.kg_row_types.specs.declared.consumer.BasicCred.{BasicCred}
use Rattle.kg_row_types.specs.declared.consumer.Consumer.{Consumer}
use Rattle.kg_row_types.specs.declared.consumer.KeyCred.{KeyCred}
use Rattle.kg_row_types.specs.declared.entity.Entity.{Entity}
use Rattle.kg_row_types.specs.declared.entity.Entity.TheVariants as row_of
use Rattle.kg_row_types.specs.declared.plugin.PluginRow.{PluginRow}
use Rattle.kg_row_types.specs.declared.route.HeaderTest.{HeaderTest}
use Rattle.kg_row_types.specs.declared.route.Route.{Route}
use Rattle.kg_row_types.specs.declared.service.Service.{Service}
use Rattle.serde_json.specs.Data.{Data, null, boolean, number, string, object, Members, no_members, put}
use Rattle.serde_json.specs.Find.{of_integer}
use Rattle.kg_shown_rows.specs.ShownConfigs.{shown_config}
use Rattle.kg_shown_rows.specs.ShownParts.{Named, object_of, shown_id, shown_link, shown_number, shown_reference, shown_text, shown_texts}

abbrev pub service_members : Service → Named
service_members service =
    (codes "created_at", shown_number service.created_at)
    ∷ (codes "enabled", boolean service.enabled)
    ∷ (codes "host", string service.host)
    ∷ (codes "id", shown_id service.id)
    ∷ (codes "name", shown_text service.name)
    ∷ (codes "path", shown_text service.path)
    ∷ (codes "port", shown_number service.port)
    ∷ (codes "protocol", string (codes "http"))
    ∷ (codes "retries", shown_number service.retries)
    ∷ (codes "updated_at", shown_number service.updated_at)
    ∷ []

-- the members with one more: the values that a route asks for, under the name of their header
abbrev pub with_values : Members → HeaderTest → Members
with_values members test = put test.name (shown_texts test.values) members

abbrev pub shown_headers : List HeaderTest → Data
shown_headers tests = if length tests == 0 then null else object (fold with_values no_members tests)

-- http, and https where the route names it
abbrev pub protocols_of : Bool → List (List ℕ)
protocols_of https = codes "http" ∷ (if https then codes "https" ∷ [] else [])

abbrev pub route_members : Route → Named
route_members route =
    (codes "created_at", shown_number route.created_at)
    ∷ (codes "headers", shown_headers route.headers)
    ∷ (codes "hosts", shown_texts route.hosts)
    ∷ (codes "id", shown_id route.id)
    ∷ (codes "methods", shown_texts route.methods)
    ∷ (codes "name", shown_text route.name)
    ∷ (codes "path_handling", string (codes "v0"))
    ∷ (codes "paths", shown_texts route.paths)
    ∷ (codes "preserve_host", boolean route.preserve_host)
    ∷ (codes "protocols", shown_texts (protocols_of route.https))
    ∷ (codes "regex_priority", number (of_integer route.regex_priority))
    ∷ (codes "service", shown_reference route.service)
    ∷ (codes "strip_path", boolean route.strip_path)
    ∷ (codes "updated_at", shown_number route.updated_at)
    ∷ []

abbrev pub consumer_members : Consumer → Named
consumer_members consumer =
    (codes "created_at", shown_number consumer.created_at)
    ∷ (codes "custom_id", shown_text consumer.custom_id)
    ∷ (codes "id", shown_id consumer.id)
    ∷ (codes "updated_at", shown_number consumer.updated_at)
    ∷ (codes "username", shown_text consumer.username)
    ∷ []

abbrev pub key_members : KeyCred → Named
key_members credential =
    (codes "consumer", shown_reference credential.consumer)
    ∷ (codes "created_at", shown_number credential.created_at)
    ∷ (codes "id", shown_id credential.id)
    ∷ (codes "key", string credential.key)
    ∷ []

-- the password is shown as what is stored of it
abbrev pub basic_members : BasicCred → Named
basic_members credential =
    (codes "consumer", shown_reference credential.consumer)
    ∷ (codes "created_at", shown_number credential.created_at)
    ∷ (codes "id", shown_id credential.id)
    ∷ (codes "password", string credential.hash)
    ∷ (codes "username", string credential.username)
    ∷ []

abbrev pub acl_members : AclRow → Named
acl_members row =
    (codes "consumer", shown_reference row.consumer)
    ∷ (codes "created_at", shown_number row.created_at)
    ∷ (codes "group", string row.group)
    ∷ (codes "id", shown_id row.id)
    ∷ []

abbrev pub plugin_members : PluginRow → Named
plugin_members row =
    (codes "config", shown_config row.config)
    ∷ (codes "consumer", shown_link row.scope.consumer)
    ∷ (codes "created_at", shown_number row.created_at)
    ∷ (codes "enabled", boolean row.enabled)
    ∷ (codes "id", shown_id row.id)
    ∷ (codes "name", string (plugin_text (plugin_of row.config)))
    ∷ (codes "route", shown_link row.scope.route)
    ∷ (codes "service", shown_link row.scope.service)
    ∷ []

-- the members of a row
abbrev pub row_members : Entity → Named
row_members (row_of.Service service) = service_members service
row_members (row_of.Route route) = route_members route
row_members (row_of.Consumer consumer) = consumer_members consumer
row_members (row_of.KeyCred credential) = key_members credential
row_members (row_of.BasicCred credential) = basic_members credential
row_members (row_of.Acl row) = acl_members row
row_members (row_of.Plugin row) = plugin_members row

-- the row as an object
abbrev pub shown : Entity → Data
shown row = object_of (row_members row)
