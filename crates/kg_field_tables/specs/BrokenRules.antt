-- The rules that the fields of a body break, each by itself.
use Rattle.std.specs.Prelude.{ℕ, ◌==◌, Bool, true, false, not, ◌&&◌, List, [], ◌∷◌, ◌++◌, Option, Some, None, option_and_then, codes, if◌then◌else◌}
use Rattle.std.specs.Option.{option_map_or}
use Rattle.std.specs.Str.{bytes_eq}
use Rattle.serde_json.specs.Data.{Data, object, Members, no_members, member}
use Rattle.serde_json.specs.Find.{as_bool, as_number, as_str, as_object, as_u64, get}
use Rattle.kg_row_types.specs.PluginNames.{plugin_named}
use Rattle.kg_row_types.specs.declared.entity.Kind.{Kind}
use Rattle.kg_row_types.specs.declared.plugin.PluginName.{PluginName}
use Rattle.kg_field_tables.specs.FieldTables.{field_of, table_of}
use Rattle.kg_field_tables.specs.Judging.{is_set, judged, typed}
use Rattle.kg_field_rules.specs.Rules.{BrokenRule}
use Rattle.kg_field_tables.specs.declared.constant.Constant.{Constant}
use Rattle.kg_field_tables.specs.declared.constant.Constant.TheVariants as constant
use Rattle.kg_field_tables.specs.declared.constant.Phrase.{Phrase}
use Rattle.kg_field_tables.specs.declared.constant.Phrase.TheVariants as phrase
use Rattle.kg_field_rules.specs.declared.rule.Rule.{Rule}
use Rattle.kg_field_rules.specs.declared.rule.Rule.TheVariants as rule
use Rattle.kg_field_tables.specs.declared.table.Field.{Field}
use Rattle.kg_field_tables.specs.declared.table.Field.TheVariants.{Unknown, Dropped, Fixed, Judged, Inside}
use Rattle.kg_field_tables.specs.declared.table.Table.{Table}

-- ---- values that a field has alone

abbrev pub phrase_text : Phrase → List ℕ
phrase_text phrase.Http = codes "http"
phrase_text phrase.V0 = codes "v0"
phrase_text phrase.Local = codes "local"
phrase_text phrase.Service = codes "service"
phrase_text phrase.LimitExceeded = codes "API rate limit exceeded"

abbrev same_bit : Bool → Bool → Bool
same_bit true b = b
same_bit false b = not b

-- the value is this one; nothing is set where the field takes none
abbrev pub is_constant : Constant → Data → Bool
is_constant constant.Nothing d = false
is_constant (constant.Bit b) d = option_map_or (same_bit b) (as_bool d) false
is_constant (constant.Number n) d = option_map_or (λ m. m == n) (option_and_then as_u64 (as_number d)) false
is_constant (constant.Phrase phrase) d = option_map_or (bytes_eq (phrase_text phrase)) (as_str d) false

-- ---- one field

-- an object, if it is set
abbrev pub object_rule : Data → Option Rule
object_rule d = if is_set d then typed (λ ms. None) (as_object d) else None

-- the rule that the value of a field breaks
abbrev pub field_rule : Field → Data → Option Rule
field_rule Unknown d = Some rule.Unknown
field_rule Dropped d = None
field_rule (Fixed constant) d = if is_set d && not (is_constant constant d) then Some rule.Fixed else None
field_rule (Judged shape value) d = judged shape d
field_rule (Inside table) d = object_rule d

-- a rule that is broken at a path
abbrev pub told : List ℕ → Option Rule → List BrokenRule
told path None = []
told path (Some rule) = (path, rule) ∷ []

-- the table that stands inside a field
abbrev pub table_inside : Field → Option Table
table_inside (Inside table) = Some table
table_inside _ = None

-- ---- all fields

abbrev mutual
  -- the violations of an object's members, whose paths have something in front
  pub violations_in : Members → Table → List ℕ → List BrokenRule
  violations_in no_members table front = []
  violations_in (member name d rest) table front =
      told (front ++ name) (field_rule (field_of table name) d)
      ++ violations_inside d (field_of table name) (front ++ name)
      ++ violations_in rest table front

  -- the violations inside the value of a field: a dot stands between the names
  pub violations_inside : Data → Field → List ℕ → List BrokenRule
  violations_inside (object members) field path = option_map_or (λ table. violations_in members table (path ++ codes ".")) (table_inside field) []
  violations_inside _ field path = []

-- the plugin that a body names, if there is one of that name
abbrev pub named_plugin : Data → Option PluginName
named_plugin body = option_and_then plugin_named (option_and_then as_str (get (codes "name") body))

-- the violations of the fields of a body of a kind, each judged by itself
abbrev pub field_violations : Kind → Data → List BrokenRule
field_violations kind body = option_map_or (λ members. violations_in members (table_of kind (named_plugin body)) []) (as_object body) []
