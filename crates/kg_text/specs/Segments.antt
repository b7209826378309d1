-- How a path is spelled while its segments are read.
use Rattle.std.specs.Prelude.{ℕ, Bool, ◌||◌, ◌==◌, List, ◌∷◌, ◌++◌, codes, if◌then◌else◌}
use Rattle.std.specs.List.{flat_map, before_last}
use Rattle.std.specs.Str.{bytes_eq}
use Rattle.kg_text.specs.Paths.{slash, is_idle, is_parent}

-- the segments, a slash before each
abbrev pub spelled : List (List ℕ) → List ℕ
spelled parts = flat_map (λ part. slash ∷ part) parts

-- what is spelled, one segment further: `..` takes off the last slash and what stands after it
abbrev pub further : List ℕ → List ℕ → List ℕ
further out segment =
    if is_idle segment then out
    else (if is_parent segment then before_last (λ b. b == slash) out else out ++ slash ∷ segment)

-- `.` or `..`
abbrev pub is_dots : List ℕ → Bool
is_dots segment = bytes_eq segment (codes ".") || is_parent segment
