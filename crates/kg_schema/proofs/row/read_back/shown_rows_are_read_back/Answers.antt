use Rattle.kg_schema.proofs.ReadBackConsumers.{consumer_read_back}
use Rattle.kg_schema.proofs.ReadBackCredentials.{acl_read_back, basic_read_back, key_read_back}
use Rattle.kg_schema.proofs.ReadBackPlugins.{plugin_read_back}
use Rattle.kg_schema.proofs.ReadBackRoutes.{route_read_back}
use Rattle.kg_schema.proofs.ReadBackServices.{service_read_back}
use Rattle.kg_schema.proofs.row.read_back.shown_rows_are_read_back.Goals as goal

pub returns : goal.returns
returns c = record {
  services = service_read_back;
  routes = route_read_back;
  consumers = consumer_read_back;
  keys = key_read_back;
  basic_credentials = basic_read_back;
  memberships = acl_read_back;
  plugins = plugin_read_back;
}
