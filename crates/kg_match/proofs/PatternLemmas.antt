-- What the crate `regex` says of a text and of a search, in the words of the patterns of paths.
use Rattle.std.proofs.Common.{◌≡◌, ◌≢◌, ◌≤◌, ◌<◌, ℕ, true, false, cond, List, Option, Some, None, IsSomeAnd, IfSome, is_some, option_map, option_and_then, nat_le, nat_eq, length, get_or, ⊎_elim, refl, ap, ◌∙◌, arith}
use Rattle.std.specs.Str.{chars}
use Rattle.regex.specs.Patterns.{Re, Reads, Refuses, default_config, find_str, span}
use Rattle.regex.specs.Failures.{IsRightKind}
use Rattle.regex.specs.Sources.{IsRefusal}
use Rattle.regex.specs.Strings.{regex_source, regex_config, regex_pattern, IsReadFromSource}
use Rattle.regex.specs.declared.error.Error.TheVariants.{Syntax}
use Rattle.regex.specs.declared.string.regex.Regex.{Regex}
use Rattle.regex.proofs.ForCallers.{alike_as_written, span_alike}
use Rattle.regex.proofs.OnLiterals.{IsReadAs, same_refl}
use Rattle.regex_hir.specs.Meaning.{meaning}
use Rattle.regex_hir.specs.declared.hir.Hir.{Hir}
use Rattle.regex_syntax.specs.Brackets.{Nested}
use Rattle.regex_syntax.specs.Captures.{SameCaptures}
use Rattle.regex_syntax.specs.Grammar.{Names, group_count, read}
use Rattle.regex_syntax.specs.declared.error.Error as parser
use Rattle.regex_syntax.specs.declared.error.ErrorKind.{ErrorKind}
use Rattle.regex_syntax.specs.declared.error.ErrorKind.TheVariants.{OutOfMemory}
use Rattle.kg_row_types.specs.Patterns.{pattern_of, is_pattern, first_match}
use Rattle.kg_match.specs.RoutePaths.{pattern_cut}

-- what is kept of a text that the grammar reads
abbrev kept : Nested Re × Names → Option Re
kept parsed = cond (nat_le parsed.0.depth 250) (Some parsed.0.value) None

shallow : (n : ℕ) → n ≤ 250 → nat_le n 250 ≡ true
shallow n small = grind arith

deep : (n : ℕ) → 250 < n → nat_le n 250 ≡ false
deep n large = grind arith

is_kept : (parsed : Nested Re × Names) → parsed.0.depth ≤ 250 → kept parsed ≡ Some parsed.0.value
is_kept parsed small = rw (shallow parsed.0.depth small) refl

-- a text that was read is a pattern
pub reads_pattern : (text : List ℕ) (hir : Hir) (names : Names) → Reads default_config text hir names → is_pattern text ≡ true
unfolding Reads is_pattern pattern_of
reads_pattern text hir names reads = by_parsed (read default_config (chars text)) reads
  where
    by_parsed : (parsed : Option (Nested Re × Names)) → IsSomeAnd parsed (λ (re, found). (re.depth ≤ 250) × SameCaptures (meaning hir) re.value × (names ≡ found) × (group_count (meaning hir) ≤ length names)) → is_some (option_and_then kept parsed) ≡ true
    by_parsed None reads = absurd reads
    by_parsed (Some parsed) reads = ap is_some (is_kept parsed reads.0)

-- a text that was refused for itself is none
pub refused_pattern : (text : List ℕ) (kind : ErrorKind) → kind ≢ OutOfMemory → Refuses default_config text kind → is_pattern text ≡ false
unfolding Refuses is_pattern pattern_of
refused_pattern text kind other refuses =
    ⊎_elim
    (λ memory. absurd (other memory))
    (λ rest. ⊎_elim (λ none. ap (λ parsed. is_some (option_and_then kept parsed)) none) (λ nested. by_parsed (read default_config (chars text)) nested.1) rest)
    refuses
  where
    by_parsed : (parsed : Option (Nested Re × Names)) → IfSome parsed (λ (re, _). 250 < re.depth) → is_some (option_and_then kept parsed) ≡ false
    by_parsed None nested = refl
    by_parsed (Some parsed) nested = rw (deep parsed.0.depth nested) refl

-- an error of syntax says that the text is no pattern
pub syntax_refused : (text : List ℕ) (given : parser.Error) → IsRefusal default_config text (Syntax given) → IsRightKind default_config text (Syntax given) → is_pattern text ≡ false
syntax_refused text given refusal kind = refused_pattern text given.kind kind (refusal given refl)

-- the text of a compiled pattern is a pattern
pub compiled_reads : (regex : Regex) (text : List ℕ) → regex_source regex ≡ text → regex_config regex ≡ default_config → IsReadFromSource regex → is_pattern text ≡ true
compiled_reads regex text source config is_read = reads_pattern text _ _ (rw (source, config) at is_read)

-- a search with the compiled pattern finds the first match of its text
pub match_same : (regex : Regex) → regex_config regex ≡ default_config → IsReadFromSource regex → (path : List ℕ) → ((k : ℕ) → get_or path k 0 < 256) → option_map span (find_str (regex_pattern regex) path 0) ≡ first_match (regex_source regex) path
unfolding Reads pattern_of first_match
match_same regex config is_read path bytes = by_parsed (read default_config (chars (regex_source regex))) refl (rw config at is_read) (λ parsed reads. reads.0)
  where
    by_parsed : {Q : Nested Re × Names → Type 0} (parsed : Option (Nested Re × Names)) → read default_config (chars (regex_source regex)) ≡ parsed → IsSomeAnd parsed Q → ((one : Nested Re × Names) → Q one → one.0.depth ≤ 250) → option_map span (find_str (regex_pattern regex) path 0) ≡ option_and_then (λ re. option_map span (find_str re path 0)) (option_and_then kept parsed)
    by_parsed None is reads shallow = absurd reads
    by_parsed (Some parsed) is reads shallow =
        let written : IsReadAs default_config (regex_source regex) parsed.0.value = rw is (same_refl parsed.0.value) in
        rw (is_kept parsed (shallow parsed reads)) (span_alike (alike_as_written regex default_config (regex_source regex) refl config is_read parsed.0.value written) path bytes true 0)

-- what is found tells how many bytes the pattern takes
pub cut_same : (regex : Regex) → regex_config regex ≡ default_config → IsReadFromSource regex → (path : List ℕ) → ((k : ℕ) → get_or path k 0 < 256) → (found : Option (ℕ × ℕ)) → found ≡ option_map span (find_str (regex_pattern regex) path 0) → option_and_then (λ one. cond (nat_eq one.0 0) (Some one.1) None) found ≡ pattern_cut (regex_source regex) path
cut_same regex config is_read path bytes found is =
    ap (option_and_then (λ one. cond (nat_eq one.0 0) (Some one.1) None)) (is ∙ match_same regex config is_read path bytes)
