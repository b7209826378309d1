-- What a shown value is read as, and that it breaks no rule.
use Rattle.std.proofs.Common.{◌≡◌, ℕ, ◌<◌, ◌≤◌, ◌^◌, ◌==◌, nat_lt, nat_le, if◌then◌else◌, Bool, true, false, ◌&&◌, List, [], ◌∷◌, ◌++◌, length, Option, Some, None, Ok, Err, is_some, unwrap_or, option_map, option_and_then, refl, ap, ◌∙◌, arith}
use Rattle.std.proofs.lemmas.Bool.{and_parts}
use Rattle.std.proofs.lemmas.Bool.Decides.{nat_tests}
use Rattle.std.specs.Option.{option_map_or, option_or}
use Rattle.std.specs.Prelude.{IfSome, IsTrue, ⊤}
use Rattle.serde_json.specs.Data.{Data, string}
use Rattle.serde_json.specs.Find.{as_number, as_str, as_u64}
use Rattle.kg_text.specs.Hosts.{is_host}
use Rattle.kg_text.specs.Paths.{normal_form}
use Rattle.uuid.proofs.TextLemmas.{by_index_length}
use Rattle.kg_row_types.proofs.IdLemmas.{id_of-printed}
use Rattle.kg_row_types.specs.Ids.{id_of, printed}
use Rattle.kg_row_types.specs.TextForms.{has_length, is_free_text, is_name, is_normal_path, is_username}
use Rattle.kg_field_rules.specs.TextRules.{has_form, stored, longest, text_rule}
use Rattle.kg_field_rules.specs.declared.rule.Rule.{Rule}
use Rattle.kg_field_rules.specs.declared.rule.Rule.TheVariants.{Empty, OutOfRange, Syntax}
use Rattle.kg_field_rules.specs.declared.text_kind.TextKind.{TextKind}
use Rattle.kg_field_rules.specs.declared.text_kind.TextKind.TheVariants as text_kind
use Rattle.kg_field_tables.specs.BrokenRules.{violations_in, violations_inside, field_rule, told}
use Rattle.kg_field_tables.specs.FieldTables.{field_of}
use Rattle.kg_field_tables.specs.Judging.{error_of, is_set, judged}
use Rattle.kg_field_tables.specs.declared.reference.Mention.{Mention}
use Rattle.kg_field_tables.specs.declared.reference.Reference.TheVariants.{Id}
use Rattle.kg_field_tables.specs.declared.shape.Shape.{Shape}
use Rattle.kg_field_tables.specs.declared.shape.Shape.TheVariants as shape
use Rattle.kg_field_tables.specs.declared.table.Field.{Field}
use Rattle.kg_field_tables.specs.declared.table.Table.{Table}
use Rattle.kg_schema.proofs.ReadTexts.{breaks_none}
use Rattle.kg_shown_rows.specs.ShownParts.{Named, members_of, shown_number, shown_reference, shown_text}

-- ---- texts

-- a text of this kind that breaks no rule, and is stored as it is
pub record Fits (kind : TextKind) (text : List ℕ) : Type 0 where
  pub rule : text_rule kind text ≡ None
  pub same : stored kind text ≡ text

not_empty : (n most : ℕ) → (nat_lt 0 n && nat_le n most) ≡ true → (n == 0) ≡ false
not_empty n most within = grind (arith, nat_tests)

not_longer : (n most : ℕ) → (nat_lt 0 n && nat_le n most) ≡ true → nat_lt most n ≡ false
not_longer n most within = grind (arith, nat_tests)

pub within_ok : (kind : TextKind) (most : ℕ) → longest kind ≡ Some most → (text : List ℕ) → (has_length most text && has_form kind text) ≡ true → text_rule kind text ≡ None
within_ok kind most bound text ok =
    let parts = and_parts (has_length most text) (has_form kind text) ok in
    breaks_none kind text (not_empty (length text) most parts.0)
    (ap (λ o. option_map_or (λ m. nat_lt m (length text)) o false) bound ∙ not_longer (length text) most parts.0) parts.1

pub fits_username : (text : List ℕ) → is_username text ≡ true → Fits text_kind.Username text
fits_username text ok = record { rule = within_ok text_kind.Username 255 refl text ok; same = refl }

pub fits_free : (text : List ℕ) → is_free_text text ≡ true → Fits text_kind.FreeText text
fits_free text ok = record { rule = within_ok text_kind.FreeText 255 refl text ok; same = refl }

-- what a reading takes of a value
abbrev pub taken : Shape → Data → Option Data
taken wanted d = if is_set d then (if is_some (judged wanted d) then None else Some d) else None

abbrev pub text_of : TextKind → Data → Option (List ℕ)
text_of kind d = option_map (stored kind) (option_and_then as_str (taken (shape.Text kind) d))

pub text_again : (kind : TextKind) (text : List ℕ) → Fits kind text → text_of kind (string text) ≡ Some text
text_again kind text fits =
    ap (λ r. option_map (stored kind) (option_and_then as_str (if is_some r then None else Some (string text)))) fits.rule ∙ ap (λ t. Some t) fits.same

option_again : (kind : TextKind) (text : Option (List ℕ)) → IfSome text (Fits kind) → text_of kind (shown_text text) ≡ text
option_again kind None fits = refl
option_again kind (Some text) fits = text_again kind text fits

pub or_none : {A : Type 0} (o : Option A) → option_or o None ≡ o
or_none None = refl
or_none (Some x) = refl

-- over nothing
pub option_over : (kind : TextKind) (text : Option (List ℕ)) → IfSome text (Fits kind) → option_or (text_of kind (shown_text text)) None ≡ text
option_over kind text fits = ap (λ o. option_or o None) (option_again kind text fits) ∙ or_none text

-- over any other
pub text_over : (kind : TextKind) (text other : List ℕ) → Fits kind text → unwrap_or (text_of kind (string text)) other ≡ text
text_over kind text other fits = ap (λ o. unwrap_or o other) (text_again kind text fits)

-- ---- fields

pub option_rule : (kind : TextKind) (text : Option (List ℕ)) → IfSome text (Fits kind) → judged (shape.Text kind) (shown_text text) ≡ None
option_rule kind None fits = refl
option_rule kind (Some text) fits = fits.rule

-- nothing stands inside a text
pub option_inside : (text : Option (List ℕ)) (field : Field) (path : List ℕ) → violations_inside (shown_text text) field path ≡ []
option_inside None field path = refl
option_inside (Some text) field path = refl

-- the member breaks no rule, and nothing inside it does
pub record IsTaken (table : Table) (front : List ℕ) (named : List ℕ × Data) : Type 0 where
  pub rule : field_rule (field_of table named.0) named.1 ≡ None
  pub inside : violations_inside named.1 (field_of table named.0) (front ++ named.0) ≡ []

abbrev pub AreTaken : Table → List ℕ → Named → Type 0
AreTaken table front [] = ⊤
AreTaken table front (m ∷ ms) = IsTaken table front m × AreTaken table front ms

pub none_broken : (table : Table) (front : List ℕ) (ms : Named) → AreTaken table front ms → violations_in (members_of ms) table front ≡ []
none_broken table front [] taken = refl
none_broken table front (m ∷ ms) taken =
    all (field_rule (field_of table m.0) m.1) (violations_inside m.1 (field_of table m.0) (front ++ m.0)) (violations_in (members_of ms) table front)
    taken.0.rule taken.0.inside (none_broken table front ms taken.1)
  where
    all : (own : Option Rule) (ones others : List (List ℕ × Rule)) → own ≡ None → ones ≡ [] → others ≡ [] → told (front ++ m.0) own ++ ones ++ others ≡ []
    all None [] [] own ones others = refl
    all (Some r) ones others e f g = cc
    all None (x ∷ ones) others e f g = cc
    all None [] (x ∷ others) e f g = cc

-- ---- ids

printed_some : (id : ℕ) → (length (printed id) == 0) ≡ false
unfolding printed
printed_some id = ap (λ n. n == 0) (by_index_length 36 _)

-- a printed id breaks no rule of ids
pub printed_id : (id : ℕ) → id < 2 ^ 128 → text_rule text_kind.Id (printed id) ≡ None
printed_id id fits = breaks_none text_kind.Id (printed id) (printed_some id) refl (ap is_some (id_of-printed id fits))

-- a row that is named by its id is a reference that breaks no rule
pub reference_rule : (how : Mention) (id : ℕ) → id < 2 ^ 128 → judged (shape.Reference how) (shown_reference id) ≡ None
reference_rule how id fits =
    ap (λ b. error_of (if b then Err Empty else option_map_or (λ n. Ok (Id n)) (id_of (printed id)) (Err Syntax))) (printed_some id)
    ∙ ap (λ o. error_of (option_map_or (λ n. Ok (Id n)) o (Err Syntax))) (id_of-printed id fits)

-- ---- numbers

abbrev pub whole_of : ℕ → ℕ → Data → Option ℕ
whole_of low high d = option_and_then as_u64 (option_and_then as_number (taken (shape.Whole low high) d))

both_within : (low high n : ℕ) → low ≤ n → n ≤ high → (nat_le low n && nat_le n high) ≡ true
both_within low high n above below = grind (arith, nat_tests)

pub whole_rule_ok : (low high n : ℕ) → low ≤ n → n ≤ high → judged (shape.Whole low high) (shown_number n) ≡ None
whole_rule_ok low high n above below = ap (λ b. if b then None else Some OutOfRange) (both_within low high n above below)

pub whole_again : (low high n : ℕ) → low ≤ n → n ≤ high → whole_of low high (shown_number n) ≡ Some n
whole_again low high n above below =
    ap (λ r. option_and_then as_u64 (option_and_then as_number (if is_some r then None else Some (shown_number n)))) (whole_rule_ok low high n above below)

pub whole_over : (low high n other : ℕ) → low ≤ n → n ≤ high → unwrap_or (whole_of low high (shown_number n)) other ≡ n
whole_over low high n other above below = ap (λ o. unwrap_or o other) (whole_again low high n above below)

-- ---- names, hosts and paths

pub fits_name : (text : List ℕ) → is_name text ≡ true → Fits text_kind.Name text
fits_name text ok = record { rule = within_ok text_kind.Name 255 refl text ok; same = refl }

pub fits_host : (text : List ℕ) → is_host text ≡ true → Fits text_kind.Host text
fits_host text ok = record { rule = within_ok text_kind.Host 255 refl text ok; same = refl }

path_some : (path : List ℕ) → is_normal_path path ≡ true → (length path == 0) ≡ false
unfolding normal_form
path_some [] ok = cc
path_some (b ∷ rest) ok = grind (arith, nat_tests)

pub fits_path : (text : List ℕ) → is_normal_path text ≡ true → Fits text_kind.Path text
fits_path text ok = record { rule = breaks_none text_kind.Path text (path_some text ok) refl ok; same = refl }

pub each_fits : (wanted : TextKind) (test : List ℕ → Bool) → ((text : List ℕ) → test text ≡ true → Fits wanted text) → (o : Option (List ℕ)) → IfSome o (λ text. IsTrue (test text)) → IfSome o (Fits wanted)
each_fits wanted test fits None ok = tt
each_fits wanted test fits (Some text) ok = fits text ok
