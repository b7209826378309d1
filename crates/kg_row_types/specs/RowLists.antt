-- All rows: of each kind a list, in the order of insertion.
use Rattle.std.specs.Prelude.{List, []}
use Rattle.kg_row_types.specs.declared.consumer.AclRow.{AclRow}
use Rattle.kg_row_types.specs.declared.consumer.BasicCred.{BasicCred}
use Rattle.kg_row_types.specs.declared.consumer.Consumer.{Consumer}
use Rattle.kg_row_types.specs.declared.consumer.KeyCred.{KeyCred}
use Rattle.kg_row_types.specs.declared.plugin.PluginRow.{PluginRow}
use Rattle.kg_row_types.specs.declared.route.Route.{Route}
use Rattle.kg_row_types.specs.declared.service.Service.{Service}

pub record RowLists : Type 0 where
  pub services : List Service
  pub routes : List Route
  pub consumers : List Consumer
  pub key_creds : List KeyCred
  pub basic_creds : List BasicCred
  pub acls : List AclRow
  pub plugins : List PluginRow

-- no rows of any kind
abbrev pub no_rows : RowLists
no_rows = record {
  services = [];
  routes = [];
  consumers = [];
  key_creds = [];
  basic_creds = [];
  acls = [];
  plugins = [];
}
