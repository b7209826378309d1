-- Broken rules of a body: their texts, which of them is told, and the list of all that are told. The words and
-- their order are this project's own.
use Rattle.std.specs.Prelude.{ℕ, Bool, List, [], ◌∷◌, map, fold, Option, Some, None, codes, nat_le, if◌then◌else◌}
use Rattle.std.specs.BTreeMap.{insert_entry, is_at}
use Rattle.std.specs.Cmp.Lexicographic.{slice_cmp}
use Rattle.std.specs.Map.{lookup}
use Rattle.std.specs.Option.{option_map_or}
use Rattle.std.specs.Ordering.{nat_cmp}
use Rattle.kg_field_rules.specs.declared.violations.Broken.{Broken}
use Rattle.kg_field_rules.specs.declared.rule.Rule.{Rule}
use Rattle.kg_field_rules.specs.declared.rule.Rule.TheVariants.{Required, Unknown, WrongType, Empty, OutOfRange, Syntax, OneOf, Fixed, Exclusive, Repeated}

-- the text of a rule
abbrev pub rule_text : Rule → List ℕ
rule_text Unknown = codes "unknown"
rule_text Fixed = codes "fixed"
rule_text WrongType = codes "type"
rule_text Empty = codes "empty"
rule_text OutOfRange = codes "out of range"
rule_text OneOf = codes "one of"
rule_text Syntax = codes "syntax"
rule_text Repeated = codes "repeated"
rule_text Exclusive = codes "exclusive"
rule_text Required = codes "required"

-- the place of a rule in the order in which rules count
abbrev pub rank : Rule → ℕ
rank Unknown = 0
rank Fixed = 1
rank WrongType = 2
rank Empty = 3
rank OutOfRange = 4
rank OneOf = 5
rank Syntax = 6
rank Repeated = 7
rank Exclusive = 8
rank Required = 9

-- the one that counts, of two broken rules
abbrev pub first : Rule → Rule → Rule
first rule other = if nat_le (rank rule) (rank other) then rule else other

-- and of two rules that may be broken
abbrev pub sooner : Option Rule → Option Rule → Option Rule
sooner None other = other
sooner (Some rule) None = Some rule
sooner (Some rule) (Some other) = Some (first rule other)

-- a rule, where it is broken
abbrev pub broken_if : Bool → Rule → List Rule
broken_if broken rule = if broken then rule ∷ [] else []

-- the one that is told, of all rules that are broken: the first by rank
abbrev pub first_by_rank : List Rule → Option Rule
first_by_rank [] = None
first_by_rank (rule ∷ others) = sooner (Some rule) (first_by_rank others)

-- a rule that is broken, with the path of its field
abbrev pub BrokenRule : Type 0
BrokenRule = List ℕ × Rule

-- the rule that counts at a path, where one more is told there
abbrev pub counted : List BrokenRule → List ℕ → Rule → Rule
counted violations path rule = option_map_or (λ told. first told rule) (lookup (is_at (slice_cmp nat_cmp path)) violations) rule

-- the violations with one more: in byte order of their paths, each path once
abbrev pub tell : List BrokenRule → BrokenRule → List BrokenRule
tell violations violation = insert_entry (slice_cmp nat_cmp) violations violation.0 (counted violations violation.0 violation.1)

-- violations in byte order of their paths, each path once with the rule that counts there
abbrev pub in_order : List BrokenRule → List BrokenRule
in_order violations = fold tell [] violations

-- the violations as a refusal lists them
abbrev pub listed : List BrokenRule → List Broken
listed violations = map (λ violation. record { path = violation.0; rule = violation.1 }) violations
