-- The row that a body makes: what the body sets, over the old row, or over the defaults of its kind
-- (Kong Admin API, the entities' pages). Which texts and numbers a field takes stands in the table of its
-- object. Where something that is required is missing, that a body breaks `required` is said with the rules
-- between its fields, and no such row is ever made.
use Rattle.std.specs.Prelude.{Option, Some, None, unwrap_or, codes}
use Rattle.std.specs.Option.{option_or, option_map_or}
use Rattle.serde_json.specs.Data.{Data}
use Rattle.kg_row_types.specs.StoredPassword.{stored_password}
use Rattle.kg_row_types.specs.declared.consumer.AclRow.{AclRow}
use Rattle.kg_row_types.specs.declared.consumer.BasicCred.{BasicCred}
use Rattle.kg_row_types.specs.declared.consumer.Consumer.{Consumer}
use Rattle.kg_row_types.specs.declared.consumer.KeyCred.{KeyCred}
use Rattle.kg_row_types.specs.declared.entity.Entity.{Entity}
use Rattle.kg_row_types.specs.declared.entity.Entity.TheVariants as row
use Rattle.kg_row_types.specs.declared.entity.Kind.{Kind}
use Rattle.kg_row_types.specs.declared.plugin.PluginRow.{PluginRow}
use Rattle.kg_row_types.specs.declared.plugin.Scope.{Scope}
use Rattle.kg_row_types.specs.declared.route.Route.{Route}
use Rattle.kg_row_types.specs.declared.service.Service.{Service}
use Rattle.kg_row_making.specs.Bases.{BaseValue}
use Rattle.kg_row_making.specs.RowsBefore.{row_before}
use Rattle.kg_row_making.specs.FinishedConfigs.{list_over, config_over}
use Rattle.kg_bodies.specs.Settings.{flag_at, url_at, https_at, tests_at, inside}
use Rattle.kg_bodies.specs.TableSettings.{integer_in, text_in, texts_in, whole_in}
use Rattle.kg_field_tables.specs.declared.table.Table.TheVariants as table
use Rattle.kg_row_making.specs.declared.base.Links.{Links}
use Rattle.kg_field_rules.specs.declared.url.Url.{Url}

-- ---- services

-- a url sets the host, the port and the path
abbrev pub address_over : Option Url → Data → Service → Service
address_over (Some url) body before = record before { host = url.host; port = url.port; path = url.path }
address_over None body before = record before {
  host = unwrap_or (text_in table.Service (codes "host") body) before.host;
  port = unwrap_or (whole_in table.Service (codes "port") body) before.port;
  path = option_or (text_in table.Service (codes "path") body) before.path;
}

abbrev pub service_over : Data → Service → Service
service_over body before =
    let service = address_over (url_at body) body before in
    record service {
      name = option_or (text_in table.Service (codes "name") body) service.name;
      retries = unwrap_or (whole_in table.Service (codes "retries") body) service.retries;
      enabled = unwrap_or (flag_at (codes "enabled") body) service.enabled;
    }

-- ---- routes

abbrev pub route_over : Data → Links → Route → Route
route_over body links before = record before {
  name = option_or (text_in table.Route (codes "name") body) before.name;
  service = unwrap_or links.service before.service;
  https = unwrap_or (https_at body) before.https;
  methods = list_over (texts_in table.Route (codes "methods") body) before.methods;
  hosts = list_over (texts_in table.Route (codes "hosts") body) before.hosts;
  paths = list_over (texts_in table.Route (codes "paths") body) before.paths;
  headers = list_over (tests_at body) before.headers;
  regex_priority = unwrap_or (integer_in table.Route (codes "regex_priority") body) before.regex_priority;
  strip_path = unwrap_or (flag_at (codes "strip_path") body) before.strip_path;
  preserve_host = unwrap_or (flag_at (codes "preserve_host") body) before.preserve_host;
}

-- ---- consumers and their credentials

abbrev pub consumer_over : Data → Consumer → Consumer
consumer_over body before = record before {
  username = option_or (text_in table.Consumer (codes "username") body) before.username;
  custom_id = option_or (text_in table.Consumer (codes "custom_id") body) before.custom_id;
}

abbrev pub key_over : Data → Links → KeyCred → KeyCred
key_over body links before = record before {
  consumer = unwrap_or links.consumer before.consumer;
  key = unwrap_or (text_in table.KeyCred (codes "key") body) before.key;
}

-- of a password only the hash with its consumer's id is stored
abbrev pub basic_over : Data → Links → BasicCred → BasicCred
basic_over body links before =
    let consumer = unwrap_or links.consumer before.consumer in
    record before {
      consumer = consumer;
      username = unwrap_or (text_in table.BasicCred (codes "username") body) before.username;
      hash = option_map_or (stored_password consumer) (text_in table.BasicCred (codes "password") body) before.hash;
    }

abbrev pub acl_over : Data → Links → AclRow → AclRow
acl_over body links before = record before {
  consumer = unwrap_or links.consumer before.consumer;
  group = unwrap_or (text_in table.Acl (codes "group") body) before.group;
}

-- ---- plugins

abbrev pub scope_over : Links → Scope → Scope
scope_over links before = record {
  service = option_or links.service before.service;
  route = option_or links.route before.route;
  consumer = option_or links.consumer before.consumer;
}

abbrev pub plugin_over : Data → Links → PluginRow → PluginRow
plugin_over body links before = record before {
  scope = scope_over links before.scope;
  enabled = unwrap_or (flag_at (codes "enabled") body) before.enabled;
  config = config_over (inside (codes "config") body) before.config;
}

-- ---- any kind

-- the row with what the body sets, and with the rows that it names
abbrev pub with_set : Data → Links → Entity → Entity
with_set body links (row.Service before) = row.Service (service_over body before)
with_set body links (row.Route before) = row.Route (route_over body links before)
with_set body links (row.Consumer before) = row.Consumer (consumer_over body before)
with_set body links (row.KeyCred before) = row.KeyCred (key_over body links before)
with_set body links (row.BasicCred before) = row.BasicCred (basic_over body links before)
with_set body links (row.Acl before) = row.Acl (acl_over body links before)
with_set body links (row.Plugin before) = row.Plugin (plugin_over body links before)

-- the row of this kind that a body makes over a base, with the rows that it names
unfoldable pub row_over : Kind → Data → BaseValue → Links → Entity
row_over kind body base links = with_set body links (row_before kind body base)
