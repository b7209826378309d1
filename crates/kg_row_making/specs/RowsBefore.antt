-- The row of a kind as it stands before a body sets anything: the old one, or a new one with the defaults
-- that stand in the table of its fields. Where something that is required is missing the row holds an empty
-- text or its own id in its place.
use Rattle.std.specs.Prelude.{[], None, unwrap_or, codes}
use Rattle.std.specs.Option.{option_map_or}
use Rattle.serde_json.specs.Data.{Data}
use Rattle.kg_row_types.specs.declared.consumer.AclRow.{AclRow}
use Rattle.kg_row_types.specs.declared.consumer.BasicCred.{BasicCred}
use Rattle.kg_row_types.specs.declared.consumer.Consumer.{Consumer}
use Rattle.kg_row_types.specs.declared.consumer.KeyCred.{KeyCred}
use Rattle.kg_row_types.specs.declared.entity.Entity.{Entity}
use Rattle.kg_row_types.specs.declared.entity.Entity.TheVariants as row
use Rattle.kg_row_types.specs.declared.entity.Kind.{Kind}
use Rattle.kg_row_types.specs.declared.entity.Kind.TheVariants as kind
use Rattle.kg_row_types.specs.declared.plugin.PluginName.TheVariants as plugin
use Rattle.kg_row_types.specs.declared.plugin.PluginRow.{PluginRow}
use Rattle.kg_row_types.specs.declared.route.Route.{Route}
use Rattle.kg_row_types.specs.declared.service.Service.{Service}
use Rattle.kg_field_tables.specs.BrokenRules.{named_plugin}
use Rattle.kg_field_tables.specs.Defaults.{default_flag, default_https, default_integer, default_whole}
use Rattle.kg_field_tables.specs.declared.table.Table.TheVariants as table
use Rattle.kg_row_making.specs.Bases.{BaseValue, given_word, old_as, service_of, route_of, consumer_of, key_of, basic_of, acl_of, plugin_row_of, stamps_of}
use Rattle.kg_row_making.specs.FinishedConfigs.{default_config}
use Rattle.kg_row_making.specs.declared.base.Stamps.{Stamps}

-- ---- services

-- a service of which nothing is set, but for a name by which it is made
abbrev pub new_service : BaseValue → Stamps → Service
new_service base stamps = record {
  id = stamps.id;
  name = given_word base;
  host = [];
  port = default_whole table.Service (codes "port");
  path = None;
  retries = default_whole table.Service (codes "retries");
  enabled = default_flag table.Service (codes "enabled");
  created_at = stamps.created_at;
  updated_at = stamps.updated_at;
}

abbrev pub renewed_service : Stamps → Service → Service
renewed_service stamps old = record old { updated_at = stamps.updated_at }

abbrev pub service_before : BaseValue → Stamps → Service
service_before base stamps = option_map_or (renewed_service stamps) (old_as service_of base) (new_service base stamps)

-- ---- routes

abbrev pub new_route : BaseValue → Stamps → Route
new_route base stamps = record {
  id = stamps.id;
  name = given_word base;
  service = stamps.id;
  https = default_https table.Route (codes "protocols");
  methods = [];
  hosts = [];
  paths = [];
  headers = [];
  regex_priority = default_integer table.Route (codes "regex_priority");
  strip_path = default_flag table.Route (codes "strip_path");
  preserve_host = default_flag table.Route (codes "preserve_host");
  created_at = stamps.created_at;
  updated_at = stamps.updated_at;
}

abbrev pub renewed_route : Stamps → Route → Route
renewed_route stamps old = record old { updated_at = stamps.updated_at }

abbrev pub route_before : BaseValue → Stamps → Route
route_before base stamps = option_map_or (renewed_route stamps) (old_as route_of base) (new_route base stamps)

-- ---- consumers and their credentials

abbrev pub new_consumer : BaseValue → Stamps → Consumer
new_consumer base stamps = record {
  id = stamps.id;
  username = given_word base;
  custom_id = None;
  created_at = stamps.created_at;
  updated_at = stamps.updated_at;
}

abbrev pub renewed_consumer : Stamps → Consumer → Consumer
renewed_consumer stamps old = record old { updated_at = stamps.updated_at }

abbrev pub consumer_before : BaseValue → Stamps → Consumer
consumer_before base stamps = option_map_or (renewed_consumer stamps) (old_as consumer_of base) (new_consumer base stamps)

abbrev pub new_key : BaseValue → Stamps → KeyCred
new_key base stamps = record {
  id = stamps.id;
  consumer = stamps.id;
  key = unwrap_or (given_word base) [];
  created_at = stamps.created_at;
}

abbrev pub key_before : BaseValue → Stamps → KeyCred
key_before base stamps = unwrap_or (old_as key_of base) (new_key base stamps)

abbrev pub new_basic : BaseValue → Stamps → BasicCred
new_basic base stamps = record {
  id = stamps.id;
  consumer = stamps.id;
  username = unwrap_or (given_word base) [];
  hash = [];
  created_at = stamps.created_at;
}

abbrev pub basic_before : BaseValue → Stamps → BasicCred
basic_before base stamps = unwrap_or (old_as basic_of base) (new_basic base stamps)

abbrev pub new_acl : BaseValue → Stamps → AclRow
new_acl base stamps = record {
  id = stamps.id;
  consumer = stamps.id;
  group = unwrap_or (given_word base) [];
  created_at = stamps.created_at;
}

abbrev pub acl_before : BaseValue → Stamps → AclRow
acl_before base stamps = unwrap_or (old_as acl_of base) (new_acl base stamps)

-- ---- plugins

-- a new plugin has the config that its name has by default
abbrev pub new_plugin : Stamps → Data → PluginRow
new_plugin stamps body = record {
  id = stamps.id;
  scope = record { service = None; route = None; consumer = None };
  enabled = default_flag (table.Plugin (named_plugin body)) (codes "enabled");
  config = default_config (unwrap_or (named_plugin body) plugin.Cors);
  created_at = stamps.created_at;
}

abbrev pub plugin_before : BaseValue → Stamps → Data → PluginRow
plugin_before base stamps body = unwrap_or (old_as plugin_row_of base) (new_plugin stamps body)

-- ---- any kind

-- the row of a kind as it stands before the body sets anything
abbrev pub row_before : Kind → Data → BaseValue → Entity
row_before kind.Service body base = row.Service (service_before base (stamps_of base body))
row_before kind.Route body base = row.Route (route_before base (stamps_of base body))
row_before kind.Consumer body base = row.Consumer (consumer_before base (stamps_of base body))
row_before kind.KeyCred body base = row.KeyCred (key_before base (stamps_of base body))
row_before kind.BasicCred body base = row.BasicCred (basic_before base (stamps_of base body))
row_before kind.Acl body base = row.Acl (acl_before base (stamps_of base body))
row_before kind.Plugin body base = row.Plugin (plugin_before base (stamps_of base body) body)
