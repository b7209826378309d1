-- The rows that commands insert, as a gateway answers by them.
use Rattle.std.specs.Prelude.{◌≡◌, ℕ, List, [], ◌∷◌, ◌++◌, fold}
use Rattle.kg_row_types.specs.RowLists.{RowLists}
use Rattle.kg_row_types.specs.declared.entity.Entity.{Entity}
use Rattle.kg_row_types.specs.declared.entity.Entity.TheVariants as row
use Rattle.kg_row_values.specs.declared.command.Command.{Command}
use Rattle.kg_row_values.specs.declared.command.Command.TheVariants as command
use Rattle.kg_router.specs.RouterRows.{RouterRows}
use Rattle.kg_plugin_table.specs.PluginRows.{PluginRows}
use Rattle.kg_plain.specs.DryReply.{GatewayRows}
use Rattle.kg_lone.specs.declared.rows.Listing.{Listing}

-- the row behind those of its kind, if it is a service, a route or a plugin
abbrev pub with_row : Entity → Listing → Listing
with_row (row.Service new) listing = record listing { services = listing.services ++ new ∷ [] }
with_row (row.Route new) listing = record listing { routes = listing.routes ++ new ∷ [] }
with_row (row.Plugin new) listing = record listing { plugins = listing.plugins ++ new ∷ [] }
with_row _ listing = listing

abbrev pub listed_after : Listing → Command → Listing
listed_after listing (command.Insert new) = with_row new listing
listed_after listing _ = listing

abbrev pub no_lists : Listing
no_lists = record { services = []; routes = []; plugins = [] }

-- the rows that the commands insert, in their order
abbrev pub listed_in : List Command → Listing
listed_in commands = fold listed_after no_lists commands

-- the router and the plugins of these rows
abbrev pub AreGenerations : Listing → RouterRows → PluginRows → Type 0
AreGenerations listing router plugins =
    (router ≡ record { rev = 0; services = listing.services; routes = listing.routes })
    × (plugins ≡ record { rev = 0; rows = listing.plugins })

-- these rows as a gateway answers by them, with those of which values are taken, after so many commands
abbrev pub gateway_over : Listing → RowLists → ℕ → GatewayRows
gateway_over listing declared commands = record {
  router = record { rev = 0; services = listing.services; routes = listing.routes };
  plugins = record { rev = 0; rows = listing.plugins };
  declared = declared;
  commands = commands;
}

-- the rows of a declaration of so many commands
abbrev pub gateway_rows : RowLists → ℕ → GatewayRows
gateway_rows rows commands = gateway_over (record { services = rows.services; routes = rows.routes; plugins = rows.plugins }) rows commands
