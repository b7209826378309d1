-- What is told inside the value of a field.
use Rattle.std.proofs.Common.{◌≡◌, ℕ, List, [], ◌++◌, Some, None, codes, refl, ap, ◌∙◌}
use Rattle.std.specs.Option.{option_map_or}
use Rattle.serde_json.specs.Data.{Data, null, boolean, number, string, array, object, Members}
use Rattle.serde_json.specs.Find.{as_object}
use Rattle.kg_field_tables.specs.BrokenRules.{violations_in, violations_inside, table_inside}
use Rattle.kg_field_tables.specs.declared.table.Field.{Field}
use Rattle.kg_field_tables.specs.declared.table.Table.{Table}

-- what is no object has nothing inside
pub no_object : (d : Data) (field : Field) (path : List ℕ) → as_object d ≡ None → violations_inside d field path ≡ []
no_object null field path none = refl
no_object (boolean b) field path none = refl
no_object (number n) field path none = refl
no_object (string s) field path none = refl
no_object (array ds) field path none = refl
no_object (object ms) field path none = cc

-- where no table stands inside, nothing is judged
pub no_table : (d : Data) (field : Field) (path : List ℕ) → table_inside field ≡ None → violations_inside d field path ≡ []
no_table null field path none = refl
no_table (boolean b) field path none = refl
no_table (number n) field path none = refl
no_table (string s) field path none = refl
no_table (array ds) field path none = refl
no_table (object ms) field path none = ap (λ found. option_map_or (λ table. violations_in ms table (path ++ codes ".")) found []) none

-- the members are judged by the table that stands inside
pub table_of_members : (d : Data) (field : Field) (path : List ℕ) (ms : Members) (table : Table) → as_object d ≡ Some ms → table_inside field ≡ Some table
    → violations_inside d field path ≡ violations_in ms table (path ++ codes ".")
table_of_members null field path ms table members inside = cc
table_of_members (boolean b) field path ms table members inside = cc
table_of_members (number n) field path ms table members inside = cc
table_of_members (string s) field path ms table members inside = cc
table_of_members (array ds) field path ms table members inside = cc
table_of_members (object those) field path ms table members inside =
    ap (λ found. option_map_or (λ t. violations_in those t (path ++ codes ".")) found []) inside
    ∙ ap (λ o. option_map_or (λ all. violations_in all table (path ++ codes ".")) o []) members
