-- What a new row has in a field that its body doesn't set: the value that stands in the field's table
-- (Kong Gateway manual, Admin API and the pages of the plugins). Where the table has no value of the type
-- that is asked for, the answer is the type's plainest: false, none, 0, the unit of bytes, no texts.
use Rattle.std.specs.Prelude.{ℕ, ℤ, pos, Bool, false, List, [], ◌∷◌, Option, Some, None, unwrap_or, codes}
use Rattle.kg_row_types.specs.declared.config.LimitBy.{LimitBy}
use Rattle.kg_row_types.specs.declared.config.LimitBy.TheVariants as limit
use Rattle.kg_row_types.specs.declared.config.SizeUnit.{SizeUnit}
use Rattle.kg_row_types.specs.declared.config.SizeUnit.TheVariants as unit
use Rattle.kg_field_tables.specs.FieldTables.{field_of}
use Rattle.kg_field_tables.specs.declared.default_value.DefaultValue.{DefaultValue}
use Rattle.kg_field_tables.specs.declared.default_value.DefaultValue.TheVariants as default
use Rattle.kg_field_tables.specs.declared.default_value.TextList.{TextList}
use Rattle.kg_field_tables.specs.declared.default_value.TextList.TheVariants as texts
use Rattle.kg_field_tables.specs.declared.table.Field.{Field}
use Rattle.kg_field_tables.specs.declared.table.Field.TheVariants.{Judged}
use Rattle.kg_field_tables.specs.declared.table.Table.{Table}

abbrev pub default_of : Field → DefaultValue
default_of (Judged shape value) = value
default_of _ = default.Unset

-- the value in the table
abbrev pub default_value : Table → List ℕ → DefaultValue
default_value table name = default_of (field_of table name)

-- ---- the value, by its type

abbrev pub as_flag : DefaultValue → Bool
as_flag (default.Flag flag) = flag
as_flag _ = false

abbrev pub default_flag : Table → List ℕ → Bool
default_flag table name = as_flag (default_value table name)

abbrev pub as_number : DefaultValue → Option ℕ
as_number (default.Whole number) = Some number
as_number _ = None

-- a number that a row can be without
abbrev pub default_number : Table → List ℕ → Option ℕ
default_number table name = as_number (default_value table name)

-- a number that every row has
abbrev pub default_whole : Table → List ℕ → ℕ
default_whole table name = unwrap_or (default_number table name) 0

abbrev pub as_integer : DefaultValue → ℤ
as_integer (default.Integer integer) = integer
as_integer _ = pos 0

abbrev pub default_integer : Table → List ℕ → ℤ
default_integer table name = as_integer (default_value table name)

abbrev pub as_https : DefaultValue → Bool
as_https (default.Https https) = https
as_https _ = false

-- whether https stands among the protocols
abbrev pub default_https : Table → List ℕ → Bool
default_https table name = as_https (default_value table name)

abbrev pub as_size_unit : DefaultValue → SizeUnit
as_size_unit (default.SizeUnit counted) = counted
as_size_unit _ = unit.Bytes

abbrev pub default_size_unit : Table → List ℕ → SizeUnit
default_size_unit table name = as_size_unit (default_value table name)

abbrev pub as_limit_by : DefaultValue → LimitBy
as_limit_by (default.LimitBy by) = by
as_limit_by _ = limit.Ip

abbrev pub default_limit_by : Table → List ℕ → LimitBy
default_limit_by table name = as_limit_by (default_value table name)

-- ---- lists of texts

abbrev pub texts_of_list : TextList → List (List ℕ)
texts_of_list texts.Methods =
    codes "GET" ∷ codes "HEAD" ∷ codes "PUT" ∷ codes "PATCH" ∷ codes "POST" ∷ codes "DELETE"
    ∷ codes "OPTIONS" ∷ codes "TRACE" ∷ codes "CONNECT" ∷ []
texts_of_list texts.KeyNames = codes "apikey" ∷ []

abbrev pub as_texts : DefaultValue → List (List ℕ)
as_texts (default.Texts list) = texts_of_list list
as_texts _ = []

abbrev pub default_texts : Table → List ℕ → List (List ℕ)
default_texts table name = as_texts (default_value table name)
