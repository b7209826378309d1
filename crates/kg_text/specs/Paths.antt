-- The normal form of a path: its escapes and dot segments as in RFC 3986, sections 6.2.2.1 to
-- 6.2.2.3. That empty segments go too is this project's own.
use Rattle.std.specs.Prelude.{ℕ, ◌+◌, ◌-◌, ◌*◌, Bool, not, ◌&&◌, ◌||◌, ◌==◌, nat_lt, List, [], ◌∷◌, ◌++◌, length, take, drop, fold, slice_index, Result, Ok, Err, codes, if◌then◌else◌}
use Rattle.std.specs.List.{list_any, list_all, prefix_len, slice_split, join_with_byte}
use Rattle.std.specs.Char.{is_ascii_alphanumeric, is_ascii_graphic, is_digit, digit_value, to_ascii_uppercase}
use Rattle.std.specs.Str.{bytes_eq}

abbrev pub slash : ℕ
slash = 0x2F

abbrev pub percent_sign : ℕ
percent_sign = 0x25

-- unreserved: a letter, a digit or one of four marks (RFC 3986, section 2.3)
abbrev pub is_unreserved : ℕ → Bool
is_unreserved b = is_ascii_alphanumeric b || list_any (λ c. c == b) (codes "-._~")

-- a path's bytes are 0x21 to 0x7E without `?` and `#`
abbrev pub is_path_byte : ℕ → Bool
is_path_byte b = is_ascii_graphic b && not (list_any (λ c. c == b) (codes "?#"))

-- a path begins with `/`, and each of its bytes is a path's
abbrev pub is_path : List ℕ → Bool
is_path bytes = slice_index bytes 0 == slash && list_all is_path_byte bytes

-- how many bytes from the front a path can begin with
abbrev pub path_len : List ℕ → ℕ
path_len bytes = if slice_index bytes 0 == slash then prefix_len is_path_byte bytes else 0

-- `%` and two hexadecimal digits
abbrev pub is_escape : ℕ → ℕ → ℕ → Bool
is_escape b high low = b == percent_sign && is_digit high 16 && is_digit low 16

-- the byte that an escape stands for
abbrev pub escaped_byte : ℕ → ℕ → ℕ
escaped_byte high low = 16 * digit_value high + digit_value low

-- an escape becomes its byte where that is unreserved, else the same escape with upper-case digits
abbrev pub normal_escape : ℕ → ℕ → List ℕ
normal_escape high low =
    if is_unreserved (escaped_byte high low)
    then escaped_byte high low ∷ []
    else percent_sign ∷ to_ascii_uppercase high ∷ to_ascii_uppercase low ∷ []

-- the bytes with each escape made normal, in one pass from the left; another `%` stays
unfoldable pub normal_escapes : List ℕ → List ℕ
normal_escapes [] = []
normal_escapes (b ∷ []) = b ∷ []
normal_escapes (b ∷ c ∷ []) = b ∷ c ∷ []
normal_escapes (b ∷ high ∷ low ∷ rest) =
    if is_escape b high low
    then normal_escape high low ++ normal_escapes rest
    else b ∷ normal_escapes (high ∷ low ∷ rest)

-- what stands between the slashes, after the first one
abbrev pub segments : List ℕ → List (List ℕ)
segments path = slice_split (λ b. b == slash) (drop 1 path)

-- a segment that leads nowhere: it is empty or `.`
abbrev pub is_idle : List ℕ → Bool
is_idle segment = length segment == 0 || bytes_eq segment (codes ".")

-- a segment that leads to the parent: `..`
abbrev pub is_parent : List ℕ → Bool
is_parent segment = bytes_eq segment (codes "..")

-- a segment that is not kept
abbrev pub is_dropped : List ℕ → Bool
is_dropped segment = is_idle segment || is_parent segment

-- the kept segments, one segment further: `..` drops the last of them
abbrev pub keep : List (List ℕ) → List ℕ → List (List ℕ)
keep kept segment =
    if is_idle segment then kept
    else (if is_parent segment then take (length kept - 1) kept else kept ++ segment ∷ [])

-- the segments that are kept, from left to right
abbrev pub kept : List (List ℕ) → List (List ℕ)
kept all = fold keep [] all

-- the last segment is empty, `.` or `..`
abbrev pub ends_open : List (List ℕ) → Bool
ends_open all = is_dropped (fold (λ _ segment. segment) [] all)

-- `/`, the kept segments joined by `/`, and a last `/` where the path ends open and keeps something
abbrev pub without_dots : List ℕ → List ℕ
without_dots path =
    let all = segments path in
    let more = ends_open all && nat_lt 0 (length (kept all)) in
    slash ∷ join_with_byte slash (kept all) ++ (if more then slash ∷ [] else [])

-- the normal form, or the first byte that leaves the grammar: the end, where the text is empty
unfoldable pub normal_form : List ℕ → Result (List ℕ) ℕ
normal_form path =
    if is_path path then Ok (without_dots (normal_escapes path)) else Err (path_len path)
