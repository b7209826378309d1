-- The texts of which a field takes one.
use Rattle.std.specs.Prelude.{Bool, ℕ, List, [], ◌∷◌, map, Option, codes}
use Rattle.std.specs.List.{list_any}
use Rattle.std.specs.Map.{lookup}
use Rattle.std.specs.Str.{bytes_eq}
use Rattle.kg_row_types.specs.PluginNames.{plugins_in_order, plugin_text}
use Rattle.kg_row_types.specs.declared.config.LimitBy.{LimitBy}
use Rattle.kg_row_types.specs.declared.config.LimitBy.TheVariants.{Consumer, Ip, Service}
use Rattle.kg_row_types.specs.declared.config.SizeUnit.{SizeUnit}
use Rattle.kg_row_types.specs.declared.config.SizeUnit.TheVariants.{Megabytes, Kilobytes, Bytes}
use Rattle.kg_field_rules.specs.declared.text_kind.Choice.{Choice}
use Rattle.kg_field_rules.specs.declared.text_kind.Choice.TheVariants as choice

-- what sizes are counted in
abbrev pub size_units : List (List ℕ × SizeUnit)
size_units = (codes "megabytes", Megabytes) ∷ (codes "kilobytes", Kilobytes) ∷ (codes "bytes", Bytes) ∷ []

abbrev pub size_unit_named : List ℕ → Option SizeUnit
size_unit_named text = lookup (bytes_eq text) size_units

-- whose requests are counted together
abbrev pub limits_by : List (List ℕ × LimitBy)
limits_by = (codes "consumer", Consumer) ∷ (codes "ip", Ip) ∷ (codes "service", Service) ∷ []

abbrev pub limit_by_named : List ℕ → Option LimitBy
limit_by_named text = lookup (bytes_eq text) limits_by

-- the texts of a choice
abbrev pub texts_of : Choice → List (List ℕ)
texts_of choice.Plugin = map plugin_text plugins_in_order
texts_of choice.SizeUnit = map (λ unit. unit.0) size_units
texts_of choice.LimitBy = map (λ by. by.0) limits_by
texts_of choice.Protocol = codes "http" ∷ codes "https" ∷ []

abbrev pub is_choice : Choice → List ℕ → Bool
is_choice choice text = list_any (bytes_eq text) (texts_of choice)
