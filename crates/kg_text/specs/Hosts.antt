-- The host that the value of a Host field tells (RFC 9110, section 7.2), as hosts are compared:
-- without a port, and in lower case (RFC 3986, sections 3.2.2 and 3.2.3).
use Rattle.std.specs.Prelude.{ℕ, Bool, ◌&&◌, ◌||◌, ◌==◌, nat_lt, nat_le, List, length, reverse, codes, if◌then◌else◌}
use Rattle.std.specs.List.{list_any, list_all, before_first, before_last}
use Rattle.std.specs.Char.{is_ascii_digit, is_ascii_alphanumeric}
use Rattle.std.specs.Str.{str_to_ascii_lowercase}

abbrev pub colon : ℕ
colon = 0x3A

abbrev pub is_colon : ℕ → Bool
is_colon b = b == colon

-- what stands behind the last byte that passes, or all where none does
abbrev pub behind_last : (ℕ → Bool) → List ℕ → List ℕ
behind_last p bytes = reverse (before_first p (reverse bytes))

-- the value without a port: what stands before its last colon, where nothing but digits stands behind it
abbrev pub host_part : List ℕ → List ℕ
host_part value =
    if list_any is_colon value && list_all is_ascii_digit (behind_last is_colon value)
    then before_last is_colon value
    else value

-- the host in lower case
abbrev pub host_of : List ℕ → List ℕ
host_of value = str_to_ascii_lowercase (host_part value)

-- a letter, a digit or one of three marks
abbrev pub is_host_byte : ℕ → Bool
is_host_byte b = is_ascii_alphanumeric b || list_any (λ c. c == b) (codes ".-_")

abbrev pub has_host_form : List ℕ → Bool
has_host_form text = list_all is_host_byte text

-- the host of a service: 1 to 255 such bytes (this project's own)
abbrev pub is_host : List ℕ → Bool
is_host text = (nat_lt 0 (length text) && nat_le (length text) 255) && has_host_form text
