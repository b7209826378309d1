-- What shown lists of texts, numbers and protocols are read as, and that they break no rule.
use Rattle.std.proofs.Common.{◌≡◌, ℕ, ◌≤◌, ◌^◌, ◌==◌, nat_lt, nat_le, ℤ, pos, negsuc, neg_ℤ, int_le, ◌≤ℤ◌, T, if◌then◌else◌, Bool, true, false, not, ◌&&◌, ◌||◌, List, [], ◌∷◌, length, map, Option, Some, None, is_some, unwrap_or, option_map, option_and_then, refl, ap, ◌∙◌, arith}
use Rattle.std.proofs.lemmas.Bool.{and_from, and_parts, or_from}
use Rattle.std.proofs.lemmas.Bool.Decides.{nat_tests}
use Rattle.std.specs.List.{list_all, list_any}
use Rattle.std.specs.Option.{option_map_or, option_or}
use Rattle.std.specs.Prelude.{IfSome}
use Rattle.serde_json.specs.Data.{Data, null, number, string, array}
use Rattle.serde_json.specs.Find.{as_i64, as_number, of_integer}
use Rattle.serde_json.specs.View.{items_of}
use Rattle.kg_row_types.specs.TextForms.{are_distinct, is_list_of}
use Rattle.kg_bodies.proofs.ListLemmas.{list_steps}
use Rattle.kg_field_rules.specs.TextRules.{has_form, is_longer, stored}
use Rattle.kg_field_rules.specs.declared.rule.Rule.TheVariants.{Empty, OutOfRange, Syntax, Repeated}
use Rattle.kg_field_rules.specs.declared.text_kind.TextKind.{TextKind}
use Rattle.kg_field_tables.specs.BrokenRules.{violations_inside}
use Rattle.kg_field_tables.specs.Judging.{each_text, judged, list_rule, texts_of, typed}
use Rattle.kg_field_tables.specs.declared.table.Field.{Field}
use Rattle.kg_field_tables.specs.declared.shape.Shape.TheVariants as shape
use Rattle.kg_row_making.specs.FinishedConfigs.{list_over}
use Rattle.kg_schema.proofs.ReadBackParts.{Fits, taken, whole_again, whole_of, whole_rule_ok}
use Rattle.kg_schema.proofs.ReadTexts.{text_parts}
use Rattle.kg_shown_rows.specs.ShownParts.{shown_option, shown_texts}

-- ---- lists of texts

-- texts of this kind of which a list breaks no rule, and that are stored as they are
pub record FitAll (kind : TextKind) (texts : List (List ℕ)) : Type 0 where
  pub rule : list_rule kind texts ≡ None
  pub same : map (stored kind) texts ≡ texts

-- what the texts of a list pass, one by one
record PassAll (kind : TextKind) (texts : List (List ℕ)) : Type 0 where
  some : list_any (λ text. length text == 0) texts ≡ false
  short : list_any (is_longer kind) texts ≡ false
  form : list_all (has_form kind) texts ≡ true
  same : map (stored kind) texts ≡ texts

pass_all : (kind : TextKind) (test : List ℕ → Bool) → ((text : List ℕ) → test text ≡ true → Fits kind text) → (texts : List (List ℕ)) → list_all test texts ≡ true → PassAll kind texts
pass_all kind test fits [] ok = record { some = refl; short = refl; form = refl; same = refl }
pass_all kind test fits (text ∷ texts) ok =
    let passed = and_parts (test text) (list_all test texts) ok in
    let first = fits text passed.0 in
    let parts = text_parts kind text first.rule in
    let others = pass_all kind test fits texts passed.1 in
    record {
      some = or_from (length text == 0) (list_any (λ t. length t == 0) texts) parts.0 others.some;
      short = or_from (is_longer kind text) (list_any (is_longer kind) texts) parts.1 others.short;
      form = and_from (has_form kind text) (list_all (has_form kind) texts) parts.2 others.form;
      same = cons first.same others.same;
    }
  where
    cons : stored kind text ≡ text → map (stored kind) texts ≡ texts → stored kind text ∷ map (stored kind) texts ≡ text ∷ texts
    cons one more = ap (λ t. t ∷ map (stored kind) texts) one ∙ ap (λ ts. text ∷ ts) more

no_rule : (empty longer form distinct : Bool) → empty ≡ false → longer ≡ false → form ≡ true → distinct ≡ true
    → (if empty then Some Empty else (if longer then Some OutOfRange else (if not form then Some Syntax else (if not distinct then Some Repeated else None)))) ≡ None
no_rule empty longer form distinct some short spelled apart = rw (some, short, spelled, apart) refl

few : (n : ℕ) → nat_le n 64 ≡ true → nat_lt 64 n ≡ false
few n within = grind (arith, nat_tests)

pub fit_all : (kind : TextKind) (test : List ℕ → Bool) → ((text : List ℕ) → test text ≡ true → Fits kind text) → (texts : List (List ℕ)) → is_list_of test texts ≡ true → FitAll kind texts
fit_all kind test fits texts ok =
    let outer = and_parts (list_all test texts && nat_le (length texts) 64) (are_distinct texts) ok in
    let inner = and_parts (list_all test texts) (nat_le (length texts) 64) outer.0 in
    let all = pass_all kind test fits texts inner.0 in
    record {
      rule = list_steps kind texts ∙ no_rule (list_any (λ text. length text == 0) texts) (nat_lt 64 (length texts) || list_any (is_longer kind) texts) (list_all (has_form kind) texts) (are_distinct (map (stored kind) texts))
          all.some
          (or_from (nat_lt 64 (length texts)) (list_any (is_longer kind) texts) (few (length texts) inner.1) all.short)
          all.form
          (ap are_distinct all.same ∙ outer.1);
      same = all.same;
    }

-- ---- shown lists

-- the texts of shown texts are they
pub each_text-shown : (texts : List (List ℕ)) → each_text (items_of (map string texts)) ≡ Some texts
each_text-shown [] = refl
each_text-shown (text ∷ texts) = ap (option_map (λ more. text ∷ more)) (each_text-shown texts)

some_more : (text : List ℕ) (texts : List (List ℕ)) → (length (text ∷ texts) == 0) ≡ false
some_more text texts = grind (arith, nat_tests)

-- a list that isn't empty is shown as an array
pub shown_some : (text : List ℕ) (texts : List (List ℕ)) → shown_texts (text ∷ texts) ≡ array (items_of (map string (text ∷ texts)))
shown_some text texts = ap (λ b. if b then null else array (items_of (map string (text ∷ texts)))) (some_more text texts)

array_rule : (kind : TextKind) (text : List ℕ) (texts : List (List ℕ)) → FitAll kind (text ∷ texts) → judged (shape.Texts kind) (array (items_of (map string (text ∷ texts)))) ≡ None
array_rule kind text texts fits = ap (typed (list_rule kind)) (each_text-shown (text ∷ texts)) ∙ fits.rule

pub texts_rule : (kind : TextKind) (texts : List (List ℕ)) → FitAll kind texts → judged (shape.Texts kind) (shown_texts texts) ≡ None
texts_rule kind [] fits = refl
texts_rule kind (text ∷ texts) fits = ap (judged (shape.Texts kind)) (shown_some text texts) ∙ array_rule kind text texts fits

-- nothing stands inside a list
pub texts_inside : (texts : List (List ℕ)) (field : Field) (path : List ℕ) → violations_inside (shown_texts texts) field path ≡ []
texts_inside [] field path = refl
texts_inside (text ∷ texts) field path = ap (λ d. violations_inside d field path) (shown_some text texts)

abbrev pub texts_read : TextKind → Data → List (List ℕ)
texts_read kind d = option_map_or (map (stored kind)) (option_and_then texts_of (taken (shape.Texts kind) d)) []

array_again : (kind : TextKind) (text : List ℕ) (texts : List (List ℕ)) → FitAll kind (text ∷ texts) → texts_read kind (array (items_of (map string (text ∷ texts)))) ≡ text ∷ texts
array_again kind text texts fits =
    ap (λ rule. option_map_or (map (stored kind)) (option_and_then texts_of (if is_some rule then None else Some (array (items_of (map string (text ∷ texts)))))) []) (array_rule kind text texts fits)
    ∙ ap (λ o. option_map_or (map (stored kind)) o []) (each_text-shown (text ∷ texts))
    ∙ fits.same

pub texts_again : (kind : TextKind) (texts : List (List ℕ)) → FitAll kind texts → texts_read kind (shown_texts texts) ≡ texts
texts_again kind [] fits = refl
texts_again kind (text ∷ texts) fits = ap (texts_read kind) (shown_some text texts) ∙ array_again kind text texts fits

-- a list over nothing
pub over_nothing : {A : Type 0} (xs : List A) → list_over xs [] ≡ xs
over_nothing [] = refl
over_nothing {A = A} (x ∷ xs) = ap (λ b. if b then [] else x ∷ xs) some
  where
    some : (length (x ∷ xs) == 0) ≡ false
    some = grind (arith, nat_tests)

pub texts_over : (kind : TextKind) (texts : List (List ℕ)) → FitAll kind texts → list_over (texts_read kind (shown_texts texts)) [] ≡ texts
texts_over kind texts fits = ap (λ set. list_over set []) (texts_again kind texts fits) ∙ over_nothing texts

-- a list that is set, over any other
set_over : (texts before : List (List ℕ)) → nat_lt 0 (length texts) ≡ true → list_over texts before ≡ texts
set_over texts before set = ap (λ b. if b then before else texts) (some (length texts) set)
  where
    some : (n : ℕ) → nat_lt 0 n ≡ true → (n == 0) ≡ false
    some n above = grind (arith, nat_tests)

pub set_texts_over : (kind : TextKind) (texts before : List (List ℕ)) → FitAll kind texts → nat_lt 0 (length texts) ≡ true → list_over (texts_read kind (shown_texts texts)) before ≡ texts
set_texts_over kind texts before fits set = ap (λ read. list_over read before) (texts_again kind texts fits) ∙ set_over texts before set

-- ---- numbers that may be unset

pub option_whole_rule : (low high : ℕ) (o : Option ℕ) → IfSome o (λ n. (low ≤ n) × (n ≤ high)) → judged (shape.Whole low high) (shown_option o) ≡ None
option_whole_rule low high None ok = refl
option_whole_rule low high (Some n) ok = whole_rule_ok low high n ok.0 ok.1

pub option_whole_over : (low high : ℕ) (o : Option ℕ) → IfSome o (λ n. (low ≤ n) × (n ≤ high)) → option_or (whole_of low high (shown_option o)) None ≡ o
option_whole_over low high None ok = refl
option_whole_over low high (Some n) ok = ap (λ found. option_or found None) (whole_again low high n ok.0 ok.1)

pub option_whole_inside : (o : Option ℕ) (field : Field) (path : List ℕ) → violations_inside (shown_option o) field path ≡ []
option_whole_inside None field path = refl
option_whole_inside (Some n) field path = refl

-- ---- priorities of routes

abbrev low : ℤ
low = neg_ℤ (pos 1000000)

abbrev high : ℤ
high = pos 1000000

of_test : (b : Bool) → T b → b ≡ true
of_test true t = refl
of_test false t = absurd t

small : (n : ℕ) → nat_le n 1000000 ≡ true → nat_lt n (2 ^ 63) ≡ true
small n within = grind (arith, nat_tests)

-- an integer of this size is read as it is shown
integer_read : (z : ℤ) → z ≤ℤ high → as_i64 (of_integer z) ≡ Some z
integer_read (pos n) within = ap (λ b. if b then Some (pos n) else None) (small n (of_test (nat_le n 1000000) within.le))
integer_read (negsuc n) within = refl

both : (z : ℤ) → low ≤ℤ z → z ≤ℤ high → (int_le low z && int_le z high) ≡ true
both z above below = and_from (int_le low z) (int_le z high) (of_test (int_le low z) above.le) (of_test (int_le z high) below.le)

integer_within : (z : ℤ) (o : Option ℤ) → low ≤ℤ z → z ≤ℤ high → o ≡ Some z → option_map_or (λ y. if int_le low y && int_le y high then None else Some OutOfRange) o (Some OutOfRange) ≡ None
integer_within z o above below is =
    ap (λ found. option_map_or (λ y. if int_le low y && int_le y high then None else Some OutOfRange) found (Some OutOfRange)) is
    ∙ ap (λ b. if b then None else Some OutOfRange) (both z above below)

pub priority_rule : (z : ℤ) → low ≤ℤ z → z ≤ℤ high → judged (shape.Integer low high) (number (of_integer z)) ≡ None
priority_rule (pos n) above below = integer_within (pos n) (as_i64 (of_integer (pos n))) above below (integer_read (pos n) below)
priority_rule (negsuc n) above below = integer_within (negsuc n) (as_i64 (of_integer (negsuc n))) above below (integer_read (negsuc n) below)

abbrev pub integer_of : Data → Option ℤ
integer_of d = option_and_then as_i64 (option_and_then as_number (taken (shape.Integer low high) d))

pub priority_over : (z other : ℤ) → low ≤ℤ z → z ≤ℤ high → unwrap_or (integer_of (number (of_integer z))) other ≡ z
priority_over z other above below =
    ap (λ rule. unwrap_or (option_and_then as_i64 (option_and_then as_number (if is_some rule then None else Some (number (of_integer z))))) other) (priority_rule z above below)
    ∙ ap (λ o. unwrap_or o other) (integer_read z below)
