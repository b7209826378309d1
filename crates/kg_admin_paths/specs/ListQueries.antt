-- The query of a list (Kong Admin API, "Pagination"; that the offset is an id, and the rules, are this
-- project's own).
use Rattle.std.specs.Prelude.{◌≡◌, ℕ, ◌==◌, ◌&&◌, ◌||◌, Bool, not, nat_le, nat_lt, List, [], ◌∷◌, codes, find, get_or, length, Option, Some, None, option_map, Result, Ok, Err, if◌then◌else◌, ⊤}
use Rattle.std.specs.Char.{is_ascii_digit}
use Rattle.std.specs.List.{list_all}
use Rattle.std.specs.Option.{option_map_or}
use Rattle.std.specs.Str.{bytes_eq}
use Rattle.std.specs.Str.Parse.{digits_value}
use Rattle.kg_admin_paths.specs.declared.list_query.QueryError.{QueryError}
use Rattle.kg_admin_paths.specs.declared.list_query.QueryError.TheVariants.{NoMemory, Violation}
use Rattle.kg_admin_paths.specs.declared.list_query.Window.{Window}
use Rattle.kg_field_rules.specs.declared.rule.Rule.{Rule}
use Rattle.kg_field_rules.specs.declared.rule.Rule.TheVariants.{OutOfRange, Syntax, WrongType}
use Rattle.kg_field_rules.specs.declared.violations.Broken.{Broken}
use Rattle.kg_row_types.specs.Ids.{id_of}
use Rattle.kg_text.specs.Queries.{query_pairs}
use Rattle.kg_text.specs.declared.pair.Pair.{Pair}

-- the pairs of the query, if there is one
abbrev pub pairs_of : Option (List ℕ) → List Pair
pairs_of query = option_map_or query_pairs query []

-- the value of the first pair of a name
abbrev pub value_of : List ℕ → List Pair → Option (List ℕ)
value_of name pairs = option_map (λ pair. pair.value) (find (λ pair. bytes_eq pair.name name) pairs)

-- ---- the size of a page

-- how many rows a page has where nothing is said, and at most
abbrev pub usual_rows : ℕ
usual_rows = 100

abbrev pub most_rows : ℕ
most_rows = 1000

-- decimal digits that don't begin with `0`, or `0` alone
abbrev pub is_number : List ℕ → Bool
is_number text = bytes_eq text (codes "0") || (nat_lt 0 (length text) && list_all is_ascii_digit text && not (get_or text 0 0 == 0x30))

abbrev pub is_size : ℕ → Bool
is_size rows = nat_le 1 rows && nat_le rows most_rows

abbrev pub size_of : List ℕ → Result ℕ Rule
size_of text =
    if is_number text
    then (if is_size (digits_value 10 text) then Ok (digits_value 10 text) else Err OutOfRange)
    else Err WrongType

abbrev pub size_in : List Pair → Result ℕ Rule
size_in pairs = option_map_or size_of (value_of (codes "size") pairs) (Ok usual_rows)

-- ---- where it begins

abbrev pub offset_of : List ℕ → Result (Option ℕ) Rule
offset_of text = option_map_or (λ id. Ok (Some id)) (id_of text) (Err Syntax)

abbrev pub offset_in : List Pair → Result (Option ℕ) Rule
offset_in pairs = option_map_or offset_of (value_of (codes "offset") pairs) (Ok None)

-- ---- the page

abbrev pub broken : List ℕ → Rule → Broken
broken name rule = record { path = name; rule = rule }

-- the page, or what is broken, in byte order of the names
abbrev pub window_for : Result (Option ℕ) Rule → Result ℕ Rule → Result Window (List Broken)
window_for (Ok after) (Ok size) = Ok (record { after = after; size = size })
window_for (Ok after) (Err rule) = Err (broken (codes "size") rule ∷ [])
window_for (Err rule) (Ok size) = Err (broken (codes "offset") rule ∷ [])
window_for (Err rule) (Err other) = Err (broken (codes "offset") rule ∷ broken (codes "size") other ∷ [])

abbrev pub window_of : List Pair → Result Window (List Broken)
window_of pairs = window_for (offset_in pairs) (size_in pairs)

-- the answer is the page, or what is broken; want of memory is free
abbrev pub Gives : Result Window QueryError → Result Window (List Broken) → Type 0
Gives (Ok window) meant = meant ≡ Ok window
Gives (Err (Violation broken)) meant = meant ≡ Err broken
Gives (Err NoMemory) meant = ⊤
