-- The target of a request (RFC 9112, section 3.2.1: the origin form).
use Rattle.std.specs.Prelude.{ℕ, Bool, not, ◌&&◌, ◌==◌, List, Option, Some, None, if◌then◌else◌}
use Rattle.std.specs.List.{list_any, list_all, before_first, after_first}
use Rattle.std.specs.Char.{is_ascii_graphic}
use Rattle.kg_text.specs.Paths.{is_path}

abbrev pub is_question : ℕ → Bool
is_question b = b == 0x3F

-- a byte of a query: visible ASCII but `#`
abbrev pub is_query_byte : ℕ → Bool
is_query_byte b = is_ascii_graphic b && not (b == 0x23)

-- what stands before the first `?`
abbrev pub target_path : List ℕ → List ℕ
target_path target = before_first is_question target

-- what stands after the first `?`, if there is one
abbrev pub target_query : List ℕ → Option (List ℕ)
target_query target =
    if list_any is_question target then Some (after_first is_question target) else None

-- a path, and then optionally `?` and a query
abbrev pub is_target : List ℕ → Bool
is_target target =
    is_path (target_path target) && list_all is_query_byte (after_first is_question target)
