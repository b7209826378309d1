-- What a generation shows: the rows that it was built from.
use Rattle.std.specs.Prelude.{Bool, true, false, Option, Some, None}
use Rattle.std.specs.Arc.{arc_value}
use Rattle.kg_row_types.specs.Values.{Generation, RouterRows, PluginRows}
use Rattle.kg_row_types.specs.declared.key.GenKey.{GenKey}
use Rattle.kg_row_types.specs.declared.key.GenKey.TheVariants as kind
use Rattle.kg_router.specs.RouterRows.{RouterRows as Routing}
use Rattle.kg_plugin_table.specs.PluginRows.{PluginRows as Choosing}
use Rattle.kg_generation.specs.declared.generation.Gen.{Gen}
use Rattle.kg_generation.specs.declared.generation.Gen.TheVariants.{Router, Plugins}

abbrev pub built_from : Gen → Generation
built_from (Router router) = RouterRows (arc_value router).services (arc_value router).routes
built_from (Plugins plugins) = PluginRows (arc_value plugins).rows

abbrev pub is_of_kind : GenKey → Gen → Bool
is_of_kind kind.Router (Router router) = true
is_of_kind kind.Plugins (Plugins plugins) = true
is_of_kind _ _ = false

-- what finds routes, with its revision
abbrev pub router_of : Gen → Option Routing
router_of (Router router) = Some (arc_value router)
router_of (Plugins plugins) = None

-- what chooses plugins' rows, with its revision
abbrev pub plugins_of : Gen → Option Choosing
plugins_of (Router router) = None
plugins_of (Plugins plugins) = Some (arc_value plugins)
