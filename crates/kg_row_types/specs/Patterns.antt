-- Regular expressions in the paths of routes: what a text stands for, and where it first matches, as
-- the crate `regex` reads and matches in its default configuration.
use Rattle.std.specs.Prelude.{ℕ, Bool, List, Option, Some, None, is_some, option_map, option_and_then, nat_le, if◌then◌else◌}
use Rattle.std.specs.Str.{chars}
use Rattle.regex.specs.Patterns.{Re, find_str, span, default_config}
use Rattle.regex_syntax.specs.Grammar.{read}

-- what the text stands for, where the grammar reads it within its depth of nesting
unfoldable pub pattern_of : List ℕ → Option Re
pattern_of text =
    option_and_then (λ parsed. if nat_le parsed.0.depth default_config.nest_limit then Some parsed.0.value else None)
    (read default_config (chars text))

-- the grammar reads the text
unfoldable pub is_pattern : List ℕ → Bool
is_pattern text = is_some (pattern_of text)

-- where the pattern's first match in a text begins, and where it ends
unfoldable pub first_match : List ℕ → List ℕ → Option (ℕ × ℕ)
first_match pattern text = option_and_then (λ re. option_map span (find_str re text 0)) (pattern_of pattern)
