-- Lists of header fields (RFC 9110, section 5): order is kept, and names are compared without case.
use Rattle.std.specs.Prelude.{ℕ, Bool, ◌==◌, List, [], ◌∷◌, ◌++◌, Option, option_map, nat_eq, find, filter, map, codes, if◌then◌else◌}
use Rattle.std.specs.List.{list_any, before_first}
use Rattle.std.specs.Cmp.Lexicographic.{pointwise}
use Rattle.std.specs.Ordering.{eq_of_both, on}
use Rattle.std.specs.Str.{bytes_eq, str_to_ascii_lowercase}
use Rattle.httparse.specs.Grammar.{trim_ows}
use Rattle.kg_text.specs.ListChanges.{without, one_changed, each_changed}
use Rattle.kg_message.specs.declared.header.Header.{Header}

-- the fields have the same name and the same value
abbrev pub same_field : Header → Header → Bool
same_field = eq_of_both (on (λ field. field.name) (pointwise nat_eq)) (on (λ field. field.value) (pointwise nat_eq))

-- the field has this name, given in any case
abbrev pub is_named : List ℕ → Header → Bool
is_named name field = bytes_eq field.name (str_to_ascii_lowercase name)

-- there is a field of this name
abbrev pub has : List ℕ → List Header → Bool
has name fields = list_any (is_named name) fields

-- the value of the first field of this name
abbrev pub first_value : List ℕ → List Header → Option (List ℕ)
first_value name fields = option_map (λ field. field.value) (find (is_named name) fields)

-- the values of all fields of this name, in their order
abbrev pub values_named : List ℕ → List Header → List (List ℕ)
values_named name fields = map (λ field. field.value) (filter (is_named name) fields)

-- ---- changes

-- the field with another value, and with another name
abbrev pub with_value : List ℕ → Header → Header
with_value value field = record { name = field.name; value = value }

abbrev pub with_name : List ℕ → Header → Header
with_name name field = record { name = name; value = field.value }

-- one more field at the end
abbrev pub added : Header → List Header → List Header
added field fields = fields ++ field ∷ []

-- the fields of this name are dropped
abbrev pub removed : List ℕ → List Header → List Header
removed name fields = without (is_named name) fields

-- the first field of this name gets a new value, and the others of the name are dropped
abbrev pub replaced : List ℕ → List ℕ → List Header → List Header
replaced name value fields = one_changed (is_named name) (with_value value) fields

-- the field is the one of its name: in the place of the first of that name, else at the end
abbrev pub with_one : Header → List Header → List Header
with_one field fields =
    if has field.name fields then replaced field.name field.value fields else added field fields

-- each field of the old name gets the new one in its place
abbrev pub renamed : List ℕ → List ℕ → List Header → List Header
renamed old new fields = each_changed (is_named old) (with_name new) fields

-- ---- the type of a body

-- the field that tells a body's type (RFC 9110, section 8.3)
abbrev pub content_type : List ℕ → Header
content_type value = record { name = codes "content-type"; value = value }

-- the type without its parameters, and without blanks at its ends
abbrev pub type_part : List ℕ → List ℕ
type_part value = trim_ows (before_first (λ b. b == 0x3B) value)

-- the type that the first Content-Type field tells
abbrev pub media_type : List Header → Option (List ℕ)
media_type fields = option_map type_part (first_value (codes "content-type") fields)
