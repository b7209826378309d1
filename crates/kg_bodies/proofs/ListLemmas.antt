-- The rule that is told of a list of texts, one test after the other.
use Rattle.std.proofs.Common.{◌≡◌, ℕ, ◌==◌, nat_lt, if◌then◌else◌, Bool, true, false, not, ◌&&◌, ◌||◌, List, [], ◌∷◌, ◌++◌, length, map, flat_map, Option, Some, None, codes, refl, ap, ◌∙◌, append_assoc}
use Rattle.std.specs.List.{list_all, list_any}
use Rattle.std.specs.Option.{option_map_or}
use Rattle.std.specs.Str.{bytes_eq}
use Rattle.kg_row_types.specs.TextForms.{are_distinct}
use Rattle.kg_field_rules.proofs.RuleLemmas.{first_of_both, nothing_broken, text_steps}
use Rattle.kg_field_rules.specs.Choices.{is_choice}
use Rattle.kg_field_rules.specs.Rules.{broken_if, first_by_rank, sooner}
use Rattle.kg_field_rules.specs.TextRules.{has_form, is_longer, stored, text_breaks}
use Rattle.kg_field_rules.specs.declared.rule.Rule.{Rule}
use Rattle.kg_field_rules.specs.declared.rule.Rule.TheVariants.{WrongType, Empty, OutOfRange, OneOf, Syntax, Repeated}
use Rattle.kg_field_rules.specs.declared.text_kind.Choice.TheVariants as choice
use Rattle.kg_field_rules.specs.declared.text_kind.TextKind.{TextKind}
use Rattle.kg_field_rules.specs.declared.text_kind.TextKind.TheVariants as text_kind
use Rattle.kg_field_tables.specs.Judging.{list_breaks, list_rule, protocols_rule, typed}

-- what was found, as a list
abbrev pub as_list : {A : Type 0} → Option A → List A
as_list None = []
as_list (Some x) = x ∷ []

-- ---- lists of texts

-- the rule of texts of which one is empty, one is too long, or not all have their form
abbrev of_texts : Bool → Bool → Bool → Option Rule
of_texts empty longer form = if empty then Some Empty else (if longer then Some OutOfRange else (if form then None else Some Syntax))

one_more : (e l f es ls fs : Bool) → sooner (of_texts e l f) (of_texts es ls fs) ≡ of_texts (e || es) (l || ls) (f && fs)
one_more true l f true ls fs = refl
one_more true l f false true fs = refl
one_more true l f false false true = refl
one_more true l f false false false = refl
one_more false true f true ls fs = refl
one_more false true f false true fs = refl
one_more false true f false false true = refl
one_more false true f false false false = refl
one_more false false true es ls fs = refl
one_more false false false true ls fs = refl
one_more false false false false true fs = refl
one_more false false false false false true = refl
one_more false false false false false false = refl

of_all : (kind : TextKind) (texts : List (List ℕ)) → first_by_rank (flat_map (text_breaks kind) texts)
    ≡ of_texts (list_any (λ text. length text == 0) texts) (list_any (is_longer kind) texts) (list_all (has_form kind) texts)
of_all kind [] = refl
of_all kind (text ∷ texts) =
    first_of_both (text_breaks kind text) (flat_map (text_breaks kind) texts)
    ∙ ap (λ o. sooner o (first_by_rank (flat_map (text_breaks kind) texts))) (text_steps (length text == 0) (is_longer kind text) (has_form kind text))
    ∙ ap (sooner (of_texts (length text == 0) (is_longer kind text) (has_form kind text))) (of_all kind texts)
    ∙ one_more (length text == 0) (is_longer kind text) (has_form kind text) (list_any (λ t. length t == 0) texts) (list_any (is_longer kind) texts) (list_all (has_form kind) texts)

with_length : (e l f many distinct : Bool) → sooner (of_texts e l f) (first_by_rank (broken_if many OutOfRange ++ broken_if (not distinct) Repeated))
    ≡ (if e then Some Empty else (if many || l then Some OutOfRange else (if not f then Some Syntax else (if not distinct then Some Repeated else None))))
with_length true l f true true = refl
with_length true l f true false = refl
with_length true l f false true = refl
with_length true l f false false = refl
with_length false true f true true = refl
with_length false true f true false = refl
with_length false true f false true = refl
with_length false true f false false = refl
with_length false false true true true = refl
with_length false false true true false = refl
with_length false false true false true = refl
with_length false false true false false = refl
with_length false false false true true = refl
with_length false false false true false = refl
with_length false false false false true = refl
with_length false false false false false = refl

-- the rule of a list
pub list_steps : (kind : TextKind) (texts : List (List ℕ)) → list_rule kind texts
    ≡ (if list_any (λ text. length text == 0) texts then Some Empty
    else (if nat_lt 64 (length texts) || list_any (is_longer kind) texts then Some OutOfRange
    else (if not (list_all (has_form kind) texts) then Some Syntax
    else (if not (are_distinct (map (stored kind) texts)) then Some Repeated else None))))
list_steps kind texts =
    let many = broken_if (nat_lt 64 (length texts)) OutOfRange in
    let repeated = broken_if (not (are_distinct (map (stored kind) texts))) Repeated in
    ap first_by_rank (append_assoc (flat_map (text_breaks kind) texts) many repeated)
    ∙ first_of_both (flat_map (text_breaks kind) texts) (many ++ repeated)
    ∙ ap (λ o. sooner o (first_by_rank (many ++ repeated))) (of_all kind texts)
    ∙ with_length (list_any (λ text. length text == 0) texts) (list_any (is_longer kind) texts) (list_all (has_form kind) texts) (nat_lt 64 (length texts)) (are_distinct (map (stored kind) texts))

-- ---- protocols

of_protocols : (many known http distinct : Bool)
    → first_by_rank (broken_if many OutOfRange ++ broken_if (not known) OneOf ++ broken_if (not http) OneOf ++ broken_if (not distinct) Repeated)
    ≡ (if many then Some OutOfRange else (if not (known && http) then Some OneOf else (if not distinct then Some Repeated else None)))
of_protocols true true true true = refl
of_protocols true true true false = refl
of_protocols true true false true = refl
of_protocols true true false false = refl
of_protocols true false true true = refl
of_protocols true false true false = refl
of_protocols true false false true = refl
of_protocols true false false false = refl
of_protocols false true true true = refl
of_protocols false true true false = refl
of_protocols false true false true = refl
of_protocols false true false false = refl
of_protocols false false true true = refl
of_protocols false false true false = refl
of_protocols false false false true = refl
of_protocols false false false false = refl

pub protocols_steps : (texts : List (List ℕ)) → protocols_rule texts
    ≡ (if nat_lt 64 (length texts) then Some OutOfRange
    else (if not (list_all (is_choice choice.Protocol) texts && list_any (bytes_eq (codes "http")) texts) then Some OneOf
    else (if not (are_distinct texts) then Some Repeated else None)))
protocols_steps texts = of_protocols (nat_lt 64 (length texts)) (list_all (is_choice choice.Protocol) texts) (list_any (bytes_eq (codes "http")) texts) (are_distinct texts)

-- ---- one header

-- the name of a header that breaks no rule is a header's, and its values break none
pub header_parts : (header : Bool) (values : Option (List (List ℕ)))
    → first_by_rank (broken_if (not header) Syntax ++ option_map_or (list_breaks text_kind.FreeText) values (WrongType ∷ [])) ≡ None
    → (header ≡ true) × (typed (list_rule text_kind.FreeText) values ≡ None)
header_parts true None ok = cc
header_parts true (Some texts) ok = (refl, ok)
header_parts false values ok =
    let values_break = option_map_or (list_breaks text_kind.FreeText) values (WrongType ∷ []) in
    let none : Syntax ∷ values_break ≡ [] = nothing_broken (Syntax ∷ values_break) ok in
    cc
