-- The name of a header field: a token (RFC 9110, sections 5.1 and 5.6.2), compared without case.
use Rattle.std.specs.Prelude.{◌≡◌, ℕ, Bool, ◌||◌, ◌&&◌, ◌==◌, List, length, nat_lt, Result, Ok, Err, codes, if◌then◌else◌}
use Rattle.std.specs.List.{list_any, prefix_len}
use Rattle.std.specs.Char.{is_ascii_alphanumeric}
use Rattle.std.specs.Str.{str_to_ascii_lowercase}

-- tchar: a letter, a digit or one of fifteen marks
abbrev pub is_tchar : ℕ → Bool
is_tchar b = is_ascii_alphanumeric b || list_any (λ c. c == b) (codes "!#$%&'*+-.^_`|~")

-- token = 1*tchar
abbrev pub is_token : List ℕ → Bool
is_token bytes = nat_lt 0 (length bytes) && prefix_len is_tchar bytes == length bytes

-- the name in lower case, or the first byte that is no tchar: the end, where the text is empty
abbrev pub name_of : List ℕ → Result (List ℕ) ℕ
name_of bytes = if is_token bytes then Ok (str_to_ascii_lowercase bytes) else Err (prefix_len is_tchar bytes)

-- a name as it is kept: a token in lower case
abbrev pub IsName : List ℕ → Type 0
IsName bytes = name_of bytes ≡ Ok bytes
