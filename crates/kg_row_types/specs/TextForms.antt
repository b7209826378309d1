-- The texts of rows (Kong Gateway manual, Admin API; which texts are taken is this project's own).
-- That a text is UTF-8 is said by its type.
use Rattle.std.specs.Prelude.{ℕ, ◌-◌, Bool, true, false, not, ◌&&◌, ◌||◌, ◌==◌, nat_eq, nat_le, nat_lt, List, [], ◌∷◌, length, take, drop, Result, Ok, Err, is_none, codes}
use Rattle.std.specs.List.{list_any, list_all, starts_with, ends_with}
use Rattle.std.specs.Option.{option_map_or}
use Rattle.std.specs.Int.{is_in_range}
use Rattle.std.specs.Char.{is_ascii_alphanumeric, is_ascii_digit, is_ascii_uppercase, is_control}
use Rattle.std.specs.Str.{bytes_eq, chars, str_to_ascii_lowercase}
use Rattle.kg_text.specs.Hosts.{has_host_form}
use Rattle.kg_text.specs.Paths.{normal_form}
use Rattle.kg_row_types.specs.Ids.{id_of, printed}
use Rattle.kg_row_types.specs.Patterns.{is_pattern}

-- from 1 to so many bytes
abbrev pub has_length : ℕ → List ℕ → Bool
has_length most text = nat_lt 0 (length text) && nat_le (length text) most

-- a letter, a digit or one of these marks
abbrev pub is_one_of : List ℕ → ℕ → Bool
is_one_of marks b = is_ascii_alphanumeric b || list_any (λ mark. mark == b) marks

-- ---- names and free texts

-- letters, digits, `.`, `-`, `_` and `~`, and no id
abbrev pub has_name_form : List ℕ → Bool
has_name_form text = list_all (is_one_of (codes ".-_~")) text && is_none (id_of text)

-- the name of a service or a route
abbrev pub is_name : List ℕ → Bool
is_name text = has_length 255 text && has_name_form text

-- no control characters (Unicode's general category Cc)
abbrev pub has_no_controls : List ℕ → Bool
has_no_controls text = not (list_any is_control (chars text))

-- a text without control characters, of 1 to so many bytes
abbrev pub is_text_within : ℕ → List ℕ → Bool
is_text_within most text = has_length most text && has_no_controls text

-- a text without control characters, of 1 to 255 bytes
abbrev pub is_free_text : List ℕ → Bool
is_free_text text = is_text_within 255 text

-- no control characters, and no id
abbrev pub has_username_form : List ℕ → Bool
has_username_form text = has_no_controls text && is_none (id_of text)

-- the username of a consumer
abbrev pub is_username : List ℕ → Bool
is_username text = has_length 255 text && has_username_form text

-- a text that tells an id is that id printed
abbrev pub is_printed_if_id : List ℕ → Bool
is_printed_if_id text = option_map_or (λ id. bytes_eq text (printed id)) (id_of text) true

-- what is kept of a password: 64 hexadecimal digits in lower case
abbrev pub is_hash : List ℕ → Bool
is_hash text = length text == 64 && list_all (λ b. is_ascii_digit b || is_in_range 0x61 0x66 b) text

-- ---- hosts

-- `*` alone, or as the leftmost label before others, or as the rightmost label behind others
abbrev pub has_wildcard_form : List ℕ → Bool
has_wildcard_form text =
    bytes_eq text (codes "*")
    || (starts_with nat_eq text (codes "*.") && has_host_form (drop 1 text))
    || (ends_with nat_eq text (codes ".*") && has_host_form (take (length text - 1) text))

abbrev pub has_route_host_form : List ℕ → Bool
has_route_host_form text = has_host_form text || has_wildcard_form text

-- the host of a route, in any case
abbrev pub is_route_host : List ℕ → Bool
is_route_host text = has_length 255 text && has_route_host_form text

-- the host of a route as it is kept: in lower case
abbrev pub is_stored_route_host : List ℕ → Bool
is_stored_route_host text = is_route_host text && bytes_eq (str_to_ascii_lowercase text) text

-- ---- paths

-- the normal form that was read is this path
abbrev is_read_as : List ℕ → Result (List ℕ) ℕ → Bool
is_read_as path (Ok normal) = bytes_eq normal path
is_read_as path (Err at) = false

-- a path in its own normal form
abbrev pub is_normal_path : List ℕ → Bool
is_normal_path path = is_read_as path (normal_form path)

-- a path that begins with `~` has a regular expression behind it
abbrev pub is_regex_path : List ℕ → Bool
is_regex_path path = starts_with nat_eq path (codes "~")

-- a plain path in its own normal form, or `~` and a pattern
abbrev pub has_route_path_form : List ℕ → Bool
has_route_path_form path = is_normal_path path || (is_regex_path path && is_pattern (drop 1 path))

-- the path of a route: at most 256 bytes
abbrev pub is_route_path : List ℕ → Bool
is_route_path path = nat_le (length path) 256 && has_route_path_form path

-- ---- methods

abbrev pub has_method_form : List ℕ → Bool
has_method_form text = list_all is_ascii_uppercase text

-- a method: letters in upper case
abbrev pub is_method : List ℕ → Bool
is_method text = has_length 255 text && has_method_form text

-- ---- lists of texts

-- no text stands twice
abbrev pub are_distinct : List (List ℕ) → Bool
are_distinct [] = true
are_distinct (text ∷ more) = not (list_any (bytes_eq text) more) && are_distinct more

-- at most 64 distinct texts, each of which passes the test
abbrev pub is_list_of : (List ℕ → Bool) → List (List ℕ) → Bool
is_list_of test texts = list_all test texts && nat_le (length texts) 64 && are_distinct texts

-- a list that isn't empty is set
abbrev pub is_set : {A : Type 0} → List A → Bool
is_set members = nat_lt 0 (length members)
