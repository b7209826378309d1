-- What a head must pass beside the grammar, and the length of the body that it states (RFC 9112,
-- sections 3.2 and 6). Each refusal is answered alike, so their order doesn't show.
use Rattle.std.specs.Prelude.{ℕ, Bool, ◌&&◌, ◌||◌, ◌==◌, nat_lt, nat_le, List, [], ◌∷◌, length, count_by, Option, Some, None, codes, if◌then◌else◌}
use Rattle.std.specs.List.{list_all}
use Rattle.std.specs.Char.{is_ascii_digit}
use Rattle.std.specs.Str.Parse.{digits_value}
use Rattle.kg_message.specs.HeaderLists.{is_named, values_named}
use Rattle.kg_wire.specs.Targets.{is_target}
use Rattle.kg_wire.specs.declared.head.Head.{Head}

-- how many fields have this name
abbrev pub named_count : List ℕ → Head → ℕ
named_count name head = count_by (is_named name) head.headers

-- one Host, which version 1.0 may leave out
abbrev pub has_host : Head → Bool
has_host head =
    named_count (codes "host") head == 1
    || (named_count (codes "host") head == 0 && head.minor == 0)

-- 1 to 19 decimal digits
abbrev pub is_length : List ℕ → Bool
is_length value = nat_lt 0 (length value) && nat_le (length value) 19 && list_all is_ascii_digit value

-- the number that they give
abbrev pub length_of : List ℕ → Option ℕ
length_of value = if is_length value then Some (digits_value 10 value) else None

-- the length of the body that the values of all Content-Length fields state: none says that there is no
-- body, and several are refused
abbrev pub stated_length : List (List ℕ) → Option ℕ
stated_length [] = Some 0
stated_length (value ∷ []) = length_of value
stated_length (value ∷ other ∷ values) = None

-- the head states how long the body is
abbrev pub is_framed : Head → Bool
is_framed head = nat_lt 0 (named_count (codes "content-length") head)

-- a target in origin form, a Host, and no transfer coding (this project's own: none is read yet)
abbrev pub passes_checks : Head → Bool
passes_checks head =
    is_target head.target && has_host head && named_count (codes "transfer-encoding") head == 0

-- the length of the body that follows the head, where the head passes all checks
abbrev pub body_len : Head → Option ℕ
body_len head =
    if passes_checks head then stated_length (values_named (codes "content-length") head.headers) else None
