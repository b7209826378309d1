-- What a body sets, field by field. A value that breaks a rule of its field sets nothing.
use Rattle.std.specs.Prelude.{ℕ, ℤ, Bool, ◌&&◌, List, [], map, codes, if◌then◌else◌, Option, Some, None, is_none, is_some, unwrap_or, option_map, option_and_then}
use Rattle.std.specs.BTreeMap.{insert_entry}
use Rattle.std.specs.Cmp.Lexicographic.{slice_cmp}
use Rattle.std.specs.List.{list_any}
use Rattle.std.specs.Option.{option_map_or}
use Rattle.std.specs.Ordering.{nat_cmp}
use Rattle.std.specs.Result.{result_ok}
use Rattle.std.specs.Str.{bytes_eq, str_to_ascii_lowercase}
use Rattle.serde_json.specs.Data.{Data, null, Members, no_members, member}
use Rattle.serde_json.specs.Find.{as_bool, as_number, as_str, as_object, as_u64, as_i64, get}
use Rattle.kg_text.specs.Names.{is_token}
use Rattle.kg_row_types.specs.Ids.{id_of}
use Rattle.kg_row_types.specs.declared.config.LimitBy.{LimitBy}
use Rattle.kg_row_types.specs.declared.config.SizeUnit.{SizeUnit}
use Rattle.kg_row_types.specs.declared.route.HeaderTest.{HeaderTest}
use Rattle.kg_field_rules.specs.Choices.{limit_by_named, size_unit_named}
use Rattle.kg_field_tables.specs.Judging.{header_rule, is_set, judged, reference_of, texts_of}
use Rattle.kg_field_rules.specs.TextRules.{stored}
use Rattle.kg_field_rules.specs.Urls.{url_of}
use Rattle.kg_field_tables.specs.declared.reference.Mention.{Mention}
use Rattle.kg_field_tables.specs.declared.reference.Reference.{Reference}
use Rattle.kg_field_tables.specs.declared.shape.Shape.{Shape}
use Rattle.kg_field_tables.specs.declared.shape.Shape.TheVariants as shape
use Rattle.kg_field_rules.specs.declared.url.Url.{Url}
use Rattle.kg_field_rules.specs.declared.text_kind.TextKind.{TextKind}

-- the value of the member of this name, if it is set and breaks no rule of the shape
abbrev pub value_at : Shape → List ℕ → Data → Option Data
value_at shape name body =
    option_and_then (λ d. if is_set d then (if is_some (judged shape d) then None else Some d) else None) (get name body)

-- a text, as it is stored
abbrev pub text_at : TextKind → List ℕ → Data → Option (List ℕ)
text_at kind name body = option_map (stored kind) (option_and_then as_str (value_at (shape.Text kind) name body))

-- the texts of a list, as they are stored: none where it isn't set
abbrev pub texts_at : TextKind → List ℕ → Data → List (List ℕ)
texts_at kind name body = option_map_or (map (stored kind)) (option_and_then texts_of (value_at (shape.Texts kind) name body)) []

-- a whole number from low to high
abbrev pub whole_at : ℕ → ℕ → List ℕ → Data → Option ℕ
whole_at low high name body = option_and_then as_u64 (option_and_then as_number (value_at (shape.Whole low high) name body))

-- an integer from low to high
abbrev pub integer_at : ℤ → ℤ → List ℕ → Data → Option ℤ
integer_at low high name body = option_and_then as_i64 (option_and_then as_number (value_at (shape.Integer low high) name body))

abbrev pub flag_at : List ℕ → Data → Option Bool
flag_at name body = option_and_then as_bool (get name body)

-- the id of the row itself
abbrev pub id_at : Data → Option ℕ
id_at body = option_and_then id_of (option_and_then as_str (get (codes "id") body))

-- a row of another kind
abbrev pub reference_at : Mention → List ℕ → Data → Option Reference
reference_at how name body = option_and_then (λ d. result_ok (reference_of how d)) (get name body)

abbrev pub url_at : Data → Option Url
url_at body = option_and_then url_of (option_and_then as_str (get (codes "url") body))

abbrev pub size_unit_at : Data → Option SizeUnit
size_unit_at body = option_and_then size_unit_named (option_and_then as_str (get (codes "size_unit") body))

abbrev pub limit_by_at : Data → Option LimitBy
limit_by_at body = option_and_then limit_by_named (option_and_then as_str (get (codes "limit_by") body))

-- whether the protocols name https beside http
abbrev pub https_at : Data → Option Bool
https_at body = option_map (list_any (bytes_eq (codes "https"))) (option_and_then texts_of (value_at shape.Protocols (codes "protocols") body))

-- ---- headers of a route

-- the test of one header, if its list is set and it breaks no rule
abbrev pub test_of : List ℕ → Data → Option HeaderTest
test_of name d =
    if is_set d && is_token name && is_none (header_rule name d)
    then Some (record { name = str_to_ascii_lowercase name; values = unwrap_or (texts_of d) [] })
    else None

-- the tests with one more, in byte order of the names in lower case
abbrev pub with_test : List (List ℕ × HeaderTest) → Option HeaderTest → List (List ℕ × HeaderTest)
with_test tests None = tests
with_test tests (Some test) = insert_entry (slice_cmp nat_cmp) tests test.name test

abbrev pub tests_in : List (List ℕ × HeaderTest) → Members → List (List ℕ × HeaderTest)
tests_in tests no_members = tests
tests_in tests (member name d rest) = tests_in (with_test tests (test_of name d)) rest

-- the headers in byte order of their names; a name whose list isn't set is left out
abbrev pub tests_at : Data → List HeaderTest
tests_at body =
    map (λ entry. entry.1) (option_map_or (tests_in []) (option_and_then as_object (value_at shape.Headers (codes "headers") body)) [])

-- ---- objects inside a body

-- the member of this name, or null
abbrev pub inside : List ℕ → Data → Data
inside name body = unwrap_or (get name body) null
