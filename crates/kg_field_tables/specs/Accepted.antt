-- What holds of the fields of an object in which nothing is broken.
use Rattle.std.specs.Prelude.{◌≡◌, ℕ, List, [], ◌++◌, Some, None}
use Rattle.serde_json.specs.Data.{Data, Members}
use Rattle.serde_json.specs.Find.{get_member}
use Rattle.kg_field_tables.specs.BrokenRules.{violations_in, violations_inside, field_rule}
use Rattle.kg_field_tables.specs.FieldTables.{field_of}
use Rattle.kg_field_tables.specs.declared.table.Table.{Table}

-- the value breaks no rule of the field under this name, and nothing inside it does
pub record IsAccepted (table : Table) (front name : List ℕ) (d : Data) : Type 0 where
  pub itself : field_rule (field_of table name) d ≡ None
  pub inside : violations_inside d (field_of table name) (front ++ name) ≡ []

-- each member of an object without violations is accepted
abbrev pub AcceptsMembers : Type 0
AcceptsMembers = (members : Members) (table : Table) (front name : List ℕ) (d : Data)
    → violations_in members table front ≡ [] → get_member name members ≡ Some d → IsAccepted table front name d
