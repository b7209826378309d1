-- What the words of the program set (this project's own: README.md, "The Admin API").
use Rattle.std.specs.Prelude.{ℕ, ◌-◌, ◌^◌, ◌==◌, ◌&&◌, ◌||◌, nat_le, nat_lt, Bool, not, List, [], ◌∷◌, ◌++◌, Option, Some, None, option_map, option_and_then, codes, length, slice_index, if◌then◌else◌}
use Rattle.std.specs.Char.{is_ascii_digit}
use Rattle.std.specs.List.{list_all}
use Rattle.std.specs.Str.{bytes_eq}
use Rattle.std.specs.Str.Parse.{digits_value}
use Rattle.kg_admin_demo.specs.declared.options.Options.{Options}

-- decimal digits, of which 0 comes first only where it stands alone
abbrev pub is_number : List ℕ → Bool
is_number text = nat_lt 0 (length text) && list_all is_ascii_digit text && (length text == 1 || not (slice_index text 0 == 48))

-- the number that a text tells, if it isn't above this one
abbrev pub number_of : ℕ → List ℕ → Option ℕ
number_of most text = if is_number text && nat_le (digits_value 10 text) most then Some (digits_value 10 text) else None

-- where no word sets anything
abbrev pub defaults : Options
defaults = record { rows = 100000; requests = 1000; fails = [] }

-- with the option of this name set to this value
abbrev pub with_option : Options → List ℕ → List ℕ → Option Options
with_option options name value =
    if bytes_eq name (codes "--rows") then
    option_map (λ n. record { rows = n; requests = options.requests; fails = options.fails }) (number_of (2 ^ 32 - 1) value)
    else if bytes_eq name (codes "--requests") then
    option_map (λ n. record { rows = options.rows; requests = n; fails = options.fails }) (number_of (2 ^ 32 - 1) value)
    else if bytes_eq name (codes "--fail") then
    option_map (λ n. record { rows = options.rows; requests = options.requests; fails = options.fails ++ n ∷ [] }) (number_of (2 ^ 64 - 1) value)
    else None

-- with what the words tell, which are names and values in turn
abbrev pub with_words : Options → List (List ℕ) → Option Options
with_words options [] = Some options
with_words options (name ∷ []) = None
with_words options (name ∷ value ∷ words) = option_and_then (λ next. with_words next words) (with_option options name value)
