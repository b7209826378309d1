-- Which service, route and consumer a row names. What a row names is told as the scope of a plugin is.
use Rattle.std.specs.Prelude.{ℕ, Bool, Some, None}
use Rattle.kg_row_types.specs.RowChanges.{names_part}
use Rattle.kg_row_types.specs.declared.entity.Kind.{Kind}
use Rattle.kg_row_types.specs.declared.plugin.Scope.{Scope}

-- the row of this kind and id is named
abbrev pub refers : Kind → ℕ → Scope → Bool
refers kind id named = names_part kind id named

-- no row is named
abbrev pub no_references : Scope
no_references = record { service = None; route = None; consumer = None }

-- a service is named
abbrev pub of_service : ℕ → Scope
of_service id = record { service = Some id; route = None; consumer = None }

-- a consumer is named
abbrev pub of_consumer : ℕ → Scope
of_consumer id = record { service = None; route = None; consumer = Some id }
