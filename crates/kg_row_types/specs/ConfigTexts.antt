-- The texts of plugin configs (Kong Gateway manual, the pages of the plugins; which texts are taken
-- is this project's own).
use Rattle.std.specs.Prelude.{ℕ, Bool, false, not, ◌&&◌, ◌||◌, ◌==◌, nat_le, List, length, slice_index, codes, ◌+◌, drop, [], ◌∷◌}
use Rattle.std.specs.List.{list_any, list_all, before_first, position_or_len, slice_split}
use Rattle.std.specs.Char.{is_ascii_digit}
use Rattle.std.specs.Str.{str_eq_ignore_ascii_case}
use Rattle.std.specs.Str.Parse.{digits_value}
use Rattle.kg_text.specs.Names.{is_token}
use Rattle.kg_text.specs.Paths.{slash}
use Rattle.kg_row_types.specs.TextForms.{has_length, has_no_controls}

-- ---- names of headers and arguments in which a key is sought

-- a token of 1 to 255 bytes
abbrev pub is_key_name : List ℕ → Bool
is_key_name text = has_length 255 text && is_token text

-- ---- addresses

-- a decimal number without a leading zero, up to a most
abbrev pub is_decimal_within : ℕ → List ℕ → Bool
is_decimal_within most text =
    has_length 3 text && list_all is_ascii_digit text
    && (length text == 1 || not (slice_index text 0 == 0x30))
    && nat_le (digits_value 10 text) most

-- an IPv4 address in dotted decimal (RFC 6943, section 3.1.1, the strict form)
abbrev pub is_ipv4 : List ℕ → Bool
is_ipv4 text =
    let parts = slice_split (λ b. b == 0x2E) text in
    length parts == 4 && list_all (is_decimal_within 255) parts

-- what stands behind the first such byte
abbrev pub after_first : (ℕ → Bool) → List ℕ → List ℕ
after_first test text = drop (position_or_len test text + 1) text

-- an IPv4 address, or a block of them: an address, `/` and 0 to 32 (RFC 4632, section 3.1)
abbrev pub has_ipv4_block_form : List ℕ → Bool
has_ipv4_block_form text =
    is_ipv4 (before_first (λ b. b == slash) text)
    && (not (list_any (λ b. b == slash) text) || is_decimal_within 32 (after_first (λ b. b == slash) text))

abbrev pub is_ipv4_block : List ℕ → Bool
is_ipv4_block text = has_length 255 text && has_ipv4_block_form text

-- ---- members of a transformer's lists: `name`, or `name:value`

abbrev pub colon : ℕ
colon = 0x3A

-- what stands before the first colon
abbrev pub edit_name : List ℕ → List ℕ
edit_name text = before_first (λ b. b == colon) text

-- what stands behind it: nothing, where there is none
abbrev pub edit_value : List ℕ → List ℕ
edit_value text = after_first (λ b. b == colon) text

-- the names that no transformer touches
abbrev pub is_barred : List ℕ → Bool
is_barred name = list_any (str_eq_ignore_ascii_case name) (codes "host" ∷ codes "content-length" ∷ codes "connection" ∷ codes "transfer-encoding" ∷ [])

-- `$(` stands somewhere: a template begins
abbrev pub has_template : List ℕ → Bool
has_template [] = false
has_template (b ∷ rest) = (b == 0x24 && slice_index rest 0 == 0x28) || has_template rest

-- a member whose name isn't barred and whose value holds no template
abbrev pub has_edit_form : List ℕ → Bool
has_edit_form text = has_no_controls text && not (is_barred (edit_name text)) && not (has_template (edit_value text))

-- a member in a list of headers: its name is a token
abbrev pub has_header_edit_form : List ℕ → Bool
has_header_edit_form text = has_edit_form text && is_token (edit_name text)

-- a renaming of headers: its value is a name too
abbrev pub has_header_rename_form : List ℕ → Bool
has_header_rename_form text = has_header_edit_form text && is_token (edit_value text) && not (is_barred (edit_value text))

-- the three with the length of a free text
abbrev pub is_edit : List ℕ → Bool
is_edit text = has_length 255 text && has_edit_form text

abbrev pub is_header_edit : List ℕ → Bool
is_header_edit text = has_length 255 text && has_header_edit_form text

abbrev pub is_header_rename : List ℕ → Bool
is_header_rename text = has_length 255 text && has_header_rename_form text
