-- Which texts are patterns, beside what the crate `regex` says of one that it compiles or refuses.
use Rattle.std.proofs.Common.{◌≡◌, ◌≢◌, ◌⊎◌, inl, inr, ℕ, ◌≤◌, ◌<◌, nat_le, true, false, List, length, Option, Some, None, is_some, option_and_then, if◌then◌else◌, refl, sym, ap, subst, arith}
use Rattle.std.proofs.lemmas.Bool.Decides.{nat_tests}
use Rattle.std.specs.Option.{IsSomeAnd}
use Rattle.std.specs.Prelude.{IfSome}
use Rattle.std.specs.Str.{chars}
use Rattle.regex.specs.Failures.{IsRightKind}
use Rattle.regex.specs.Patterns.{Re, SameCaptures, default_config}
use Rattle.regex.specs.Sources.{IsRefusal}
use Rattle.regex.specs.Strings.{IsReadFromSource, regex_config, regex_source}
use Rattle.regex.specs.declared.error.Error.{Error}
use Rattle.regex.specs.declared.error.Error.TheVariants.{Syntax}
use Rattle.regex.specs.declared.string.regex.Regex.{Regex}
use Rattle.regex.specs.Names.{names_of}
use Rattle.regex_hir.specs.Meaning.{meaning}
use Rattle.regex_hir.specs.declared.hir.Hir.{Hir}
use Rattle.regex_syntax.specs.Brackets.{Nested}
use Rattle.regex_syntax.specs.Grammar.{Names, group_count, read}
use Rattle.regex_syntax.specs.Verdict.{Reads, Refuses}
use Rattle.regex_syntax.specs.declared.error.Error as parser
use Rattle.regex_syntax.specs.declared.error.ErrorKind.{ErrorKind}
use Rattle.regex_syntax.specs.declared.error.ErrorKind.TheVariants.{OutOfMemory, NestLimitExceeded}
use Rattle.kg_row_types.specs.Patterns.{pattern_of, is_pattern}

-- what is stored of what was read
abbrev kept : Nested Re × Names → Option Re
kept parsed = if nat_le parsed.0.depth default_config.nest_limit then Some parsed.0.value else None

within_limit : (n : ℕ) → n ≤ default_config.nest_limit → nat_le n default_config.nest_limit ≡ true
within_limit n h = grind (arith, nat_tests)

beyond_limit : (n : ℕ) → default_config.nest_limit < n → nat_le n default_config.nest_limit ≡ false
beyond_limit n h = grind (arith, nat_tests)

-- what the grammar reads is a pattern
read_is_pattern : (text : List ℕ) (hir : Hir) (names : Names) → Reads default_config text hir names → is_pattern text ≡ true
unfolding Reads is_pattern pattern_of
read_is_pattern text hir names reads = at_read (read default_config (chars text)) reads
  where
    at_read : (o : Option (Nested Re × Names))
        → IsSomeAnd o (λ found. (found.0.depth ≤ default_config.nest_limit) × SameCaptures (meaning hir) found.0.value × (names ≡ found.1) × (group_count (meaning hir) ≤ length names))
        → is_some (option_and_then kept o) ≡ true
    at_read None h = absurd h
    at_read (Some found) h = rw (within_limit found.0.depth h.0) refl

-- what it refuses is none
refused_is_no_pattern : (text : List ℕ) (kind : ErrorKind) → kind ≢ OutOfMemory → Refuses default_config text kind → is_pattern text ≡ false
unfolding Refuses is_pattern pattern_of
refused_is_no_pattern text kind known refuses = at_kind (read default_config (chars text)) refuses
  where
    at_kind : (o : Option (Nested Re × Names))
        → (kind ≡ OutOfMemory) ⊎ ((o ≡ None) ⊎ ((kind ≡ NestLimitExceeded) × IfSome o (λ found. default_config.nest_limit < found.0.depth)))
        → is_some (option_and_then kept o) ≡ false
    at_kind o (inl memory) = absurd (known memory)
    at_kind o (inr (inl none)) = ap (λ p. is_some (option_and_then kept p)) none
    at_kind None (inr (inr too_deep)) = refl
    at_kind (Some found) (inr (inr too_deep)) = rw (beyond_limit found.0.depth too_deep.1) refl

-- the text of a compiled expression is a pattern
pub compiled_is_pattern : (r : Regex) (text : List ℕ) → regex_source r ≡ text → regex_config r ≡ default_config → IsReadFromSource r → true ≡ is_pattern text
compiled_is_pattern r text source config reads =
    sym (read_is_pattern text r.pattern.program.hir (names_of r.pattern.names.items)
    (subst (λ s. Reads default_config s r.pattern.program.hir (names_of r.pattern.names.items)) source
    (subst (λ options. Reads options (regex_source r) r.pattern.program.hir (names_of r.pattern.names.items)) config reads)))

-- a text that is refused for its syntax is none
pub syntax_is_no_pattern : (text : List ℕ) (error : Error) (e : parser.Error) → error ≡ Syntax e
    → IsRefusal default_config text error → IsRightKind default_config text error → false ≡ is_pattern text
syntax_is_no_pattern text error e is refusal kind =
    sym (refused_is_no_pattern text e.kind (subst (IsRightKind default_config text) is kind) (refusal e is))
