-- Which rule the value of a field breaks, by the shape that the field has (JSON: RFC 8259). null and
-- the empty list count as not set, and what isn't set breaks no rule of a shape.
use Rattle.std.specs.Prelude.{ℕ, ◌==◌, ℤ, int_le, Bool, true, false, not, ◌&&◌, nat_lt, nat_le, List, [], ◌∷◌, ◌++◌, length, map, flat_map, codes, if◌then◌else◌, Option, Some, None, option_map, option_and_then, Result, Ok, Err}
use Rattle.std.specs.Option.{option_map_or}
use Rattle.std.specs.List.{list_all, list_any}
use Rattle.std.specs.Str.{bytes_eq, str_to_ascii_lowercase}
use Rattle.serde_json.specs.Data.{Data, null, boolean, number, string, array, object, Num, Items, no_items, item, Members, no_members, member}
use Rattle.serde_json.specs.Find.{as_bool, as_number, as_str, as_array, as_object, as_u64, as_i64, is_float}
use Rattle.kg_text.specs.Names.{is_token}
use Rattle.kg_row_types.specs.Ids.{id_of}
use Rattle.kg_row_types.specs.TextForms.{are_distinct}
use Rattle.kg_field_rules.specs.TextRules.{text_breaks, text_rule, choice_rule, stored}
use Rattle.kg_field_rules.specs.Choices.{is_choice}
use Rattle.kg_field_rules.specs.Rules.{broken_if, first_by_rank}
use Rattle.kg_field_tables.specs.declared.reference.Mention.{Mention}
use Rattle.kg_field_tables.specs.declared.reference.Mention.TheVariants as mention
use Rattle.kg_field_tables.specs.declared.reference.Reference.{Reference}
use Rattle.kg_field_tables.specs.declared.reference.Reference.TheVariants.{Id, Name}
use Rattle.kg_field_rules.specs.declared.rule.Rule.{Rule}
use Rattle.kg_field_rules.specs.declared.rule.Rule.TheVariants.{WrongType, Empty, OutOfRange, OneOf, Syntax, Repeated}
use Rattle.kg_field_tables.specs.declared.shape.Shape.{Shape}
use Rattle.kg_field_tables.specs.declared.shape.Shape.TheVariants as shape
use Rattle.kg_field_rules.specs.declared.text_kind.Choice.TheVariants as choice
use Rattle.kg_field_rules.specs.declared.text_kind.TextKind.{TextKind}
use Rattle.kg_field_rules.specs.declared.text_kind.TextKind.TheVariants as text_kind

-- null and the empty list count as not set
abbrev pub is_set : Data → Bool
is_set null = false
is_set (boolean b) = true
is_set (number n) = true
is_set (string s) = true
is_set (array no_items) = false
is_set (array (item first rest)) = true
is_set (object ms) = true

-- the members of an object that are set, by name: the others count as not there
abbrev pub set_members : Members → List (List ℕ × Data)
set_members no_members = []
set_members (member name d rest) = if is_set d then (name, d) ∷ set_members rest else set_members rest

-- the rule of a value that has the wanted type
abbrev pub typed : {A : Type 0} → (A → Option Rule) → Option A → Option Rule
typed rule value = option_map_or rule value (Some WrongType)

-- ---- lists of texts

-- the texts of a list, if each item is one
abbrev pub each_text : Items → Option (List (List ℕ))
each_text no_items = Some []
each_text (item first rest) = option_and_then (λ text. option_map (λ more. text ∷ more) (each_text rest)) (as_str first)

abbrev pub texts_of : Data → Option (List (List ℕ))
texts_of d = option_and_then each_text (as_array d)

-- the rules that a list breaks: it has at most 64 texts, no two of which are stored alike
abbrev pub list_breaks : TextKind → List (List ℕ) → List Rule
list_breaks kind texts =
    flat_map (text_breaks kind) texts
    ++ broken_if (nat_lt 64 (length texts)) OutOfRange
    ++ broken_if (not (are_distinct (map (stored kind) texts))) Repeated

-- the one that is told
abbrev pub list_rule : TextKind → List (List ℕ) → Option Rule
list_rule kind texts = first_by_rank (list_breaks kind texts)

-- the rules that the protocols of a route break, of which http is one
abbrev pub protocols_breaks : List (List ℕ) → List Rule
protocols_breaks texts =
    broken_if (nat_lt 64 (length texts)) OutOfRange
    ++ broken_if (not (list_all (is_choice choice.Protocol) texts)) OneOf
    ++ broken_if (not (list_any (bytes_eq (codes "http")) texts)) OneOf
    ++ broken_if (not (are_distinct texts)) Repeated

-- the one that is told
abbrev pub protocols_rule : List (List ℕ) → Option Rule
protocols_rule texts = first_by_rank (protocols_breaks texts)

-- ---- numbers

-- a whole number from low to high; a float is of another type, and a negative number is out of range
abbrev pub whole_rule : ℕ → ℕ → Num → Option Rule
whole_rule low high n =
    if is_float n then Some WrongType
    else option_map_or (λ m. if nat_le low m && nat_le m high then None else Some OutOfRange) (as_u64 n) (Some OutOfRange)

-- an integer from low to high; one that 64 bits don't hold is out of range
abbrev pub integer_rule : ℤ → ℤ → Num → Option Rule
integer_rule low high n =
    if is_float n then Some WrongType
    else option_map_or (λ z. if int_le low z && int_le z high then None else Some OutOfRange) (as_i64 n) (Some OutOfRange)

-- ---- references to rows of other kinds

-- the member by which an object names a row
abbrev pub mentioned_by : Mention → List ℕ
mentioned_by mention.Name = codes "name"
mentioned_by mention.Username = codes "username"

-- how such a row is named
abbrev pub text_kind_of : Mention → TextKind
text_kind_of mention.Name = text_kind.Name
text_kind_of mention.Username = text_kind.FreeText

abbrev pub by_id : List ℕ → Result Reference Rule
by_id text = if length text == 0 then Err Empty else option_map_or (λ id. Ok (Id id)) (id_of text) (Err Syntax)

abbrev pub by_name : Mention → List ℕ → Result Reference Rule
by_name how text = option_map_or (λ rule. Err rule) (text_rule (text_kind_of how) text) (Ok (Name text))

-- a text that tells an id is that id, and any other is a name
abbrev pub by_text : Mention → List ℕ → Result Reference Rule
by_text how text = option_map_or (λ id. Ok (Id id)) (id_of text) (by_name how text)

-- the only member of a list
abbrev pub only : {A : Type 0} → List A → Option A
only [] = None
only (one ∷ []) = Some one
only (one ∷ another ∷ more) = None

-- the row that a member names
abbrev pub by_member : Mention → List ℕ × Data → Result Reference Rule
by_member how named =
    if bytes_eq named.0 (codes "id") then option_map_or by_id (as_str named.1) (Err WrongType)
    else (if bytes_eq named.0 (mentioned_by how) then option_map_or (by_name how) (as_str named.1) (Err WrongType)
    else Err WrongType)

-- the row that a value names, or the rule that it breaks: a text names one, and so does an object by
-- the only member that is set
abbrev pub reference_of : Mention → Data → Result Reference Rule
reference_of how (string text) = by_text how text
reference_of how (object members) = option_map_or (by_member how) (only (set_members members)) (Err WrongType)
reference_of how _ = Err WrongType

-- ---- headers of a route

-- a header that a route can ask for: any but host
abbrev pub is_header : List ℕ → Bool
is_header name = is_token name && not (bytes_eq (str_to_ascii_lowercase name) (codes "host"))

-- the rules that the values of a header break
abbrev pub values_breaks : Data → List Rule
values_breaks d = option_map_or (list_breaks text_kind.FreeText) (texts_of d) (WrongType ∷ [])

-- the rules that one header breaks, by its name and by its values
abbrev pub header_breaks : List ℕ → Data → List Rule
header_breaks name d = broken_if (not (is_header name)) Syntax ++ values_breaks d

-- the one that is told
abbrev pub header_rule : List ℕ → Data → Option Rule
header_rule name d = first_by_rank (header_breaks name d)

-- the rules that headers break: each by itself, and no two names differ by case alone
abbrev pub headers_breaks : List (List ℕ × Data) → List Rule
headers_breaks headers =
    flat_map (λ header. header_breaks header.0 header.1) headers
    ++ broken_if (not (are_distinct (map (λ header. str_to_ascii_lowercase header.0) headers))) Repeated

-- the one that is told, of the headers whose values are set
abbrev pub headers_rule : Members → Option Rule
headers_rule members = first_by_rank (headers_breaks (set_members members))

-- ---- any shape

abbrev pub error_of : {A : Type 0} → Result A Rule → Option Rule
error_of (Ok x) = None
error_of (Err rule) = Some rule

-- the rule that a value breaks which is set
abbrev pub shape_rule : Shape → Data → Option Rule
shape_rule (shape.Text kind) d = typed (text_rule kind) (as_str d)
shape_rule (shape.Texts kind) d = typed (list_rule kind) (texts_of d)
shape_rule (shape.OneOf choice) d = typed (choice_rule choice) (as_str d)
shape_rule shape.Protocols d = typed protocols_rule (texts_of d)
shape_rule (shape.Whole low high) d = typed (whole_rule low high) (as_number d)
shape_rule (shape.Integer low high) d = typed (integer_rule low high) (as_number d)
shape_rule shape.Flag d = typed (λ b. None) (as_bool d)
shape_rule (shape.Reference how) d = error_of (reference_of how d)
shape_rule shape.Headers d = typed headers_rule (as_object d)
shape_rule shape.Object d = typed (λ ms. None) (as_object d)

-- the rule that a value breaks
abbrev pub judged : Shape → Data → Option Rule
judged shape d = if is_set d then shape_rule shape d else None
