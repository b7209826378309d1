-- What a body sets, by the table of its fields: which texts and numbers a field takes stands there alone.
use Rattle.std.specs.Prelude.{ℕ, ℤ, ◌≤◌, ◌≤ℤ◌, List, [], Option, None}
use Rattle.serde_json.specs.Data.{Data}
use Rattle.kg_field_tables.specs.FieldTables.{field_of}
use Rattle.kg_field_tables.specs.declared.shape.Shape.TheVariants as shape
use Rattle.kg_field_tables.specs.declared.table.Field.{Field}
use Rattle.kg_field_tables.specs.declared.table.Field.TheVariants.{Judged}
use Rattle.kg_field_tables.specs.declared.table.Table.{Table}
use Rattle.kg_bodies.specs.Settings.{integer_at, text_at, texts_at, whole_at}

-- the text of a field, as it is stored
abbrev pub text_of_field : Field → List ℕ → Data → Option (List ℕ)
text_of_field (Judged (shape.Text kind) value) name body = text_at kind name body
text_of_field _ name body = None

unfoldable pub text_in : Table → List ℕ → Data → Option (List ℕ)
text_in table name body = text_of_field (field_of table name) name body

-- the texts of a list, as they are stored
abbrev pub texts_of_field : Field → List ℕ → Data → List (List ℕ)
texts_of_field (Judged (shape.Texts kind) value) name body = texts_at kind name body
texts_of_field _ name body = []

unfoldable pub texts_in : Table → List ℕ → Data → List (List ℕ)
texts_in table name body = texts_of_field (field_of table name) name body

-- a whole number within the bounds of its field
abbrev pub whole_of_field : Field → List ℕ → Data → Option ℕ
whole_of_field (Judged (shape.Whole low high) value) name body = whole_at low high name body
whole_of_field _ name body = None

unfoldable pub whole_in : Table → List ℕ → Data → Option ℕ
whole_in table name body = whole_of_field (field_of table name) name body

abbrev pub IsWithin : Field → ℕ → Type 0
IsWithin (Judged (shape.Whole low high) value) n = (low ≤ n) × (n ≤ high)
IsWithin _ n = ⊥

-- an integer within the bounds of its field
abbrev pub integer_of_field : Field → List ℕ → Data → Option ℤ
integer_of_field (Judged (shape.Integer low high) value) name body = integer_at low high name body
integer_of_field _ name body = None

unfoldable pub integer_in : Table → List ℕ → Data → Option ℤ
integer_in table name body = integer_of_field (field_of table name) name body

abbrev pub IsIntegerWithin : Field → ℤ → Type 0
IsIntegerWithin (Judged (shape.Integer low high) value) z = (low ≤ℤ z) × (z ≤ℤ high)
IsIntegerWithin _ z = ⊥
