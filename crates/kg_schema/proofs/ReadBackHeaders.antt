-- Shown headers of a route are read as the same headers, and break no rule.
use Rattle.std.proofs.Common.{◌≡◌, ℕ, nat_lt, if◌then◌else◌, Bool, true, false, not, ◌&&◌, List, [], ◌∷◌, ◌++◌, length, map, flat_map, fold, Some, None, is_none, unwrap_or, codes, All, Ok, Err, refl, sym, ap, ◌∙◌, append_assoc, append-nil}
use Rattle.std.proofs.lemmas.Bool.{and_from, and_parts, or_from}
use Rattle.std.proofs.lemmas.List.Elements.{All-head, All-tail}
use Rattle.std.proofs.lemmas.Slice.Eq.{bytes_eq-Decides}
use Rattle.std.specs.BTreeMap.{insert_entry}
use Rattle.std.specs.Cmp.Lexicographic.{nat_list_cmp_total, slice_cmp}
use Rattle.std.specs.List.{AllByRecursion, list_any, prefix_len}
use Rattle.std.specs.List.Sorted.{IsStrictlySortedBy}
use Rattle.std.specs.Option.{option_map_or}
use Rattle.std.specs.Ordering.{match_ordering, nat_cmp, ordering_reverse}
use Rattle.std.specs.Prelude.{⊤}
use Rattle.std.specs.Str.{bytes_eq, str_to_ascii_lowercase}
use Rattle.std.specs.declared.cmp.Ordering.{Ordering}
use Rattle.std.specs.declared.cmp.Ordering.TheVariants.{Less, Equal, Greater}
use Rattle.serde_json.specs.Data.{Data, no_members, member, put}
use Rattle.kg_text.specs.Names.{IsName, is_tchar, is_token}
use Rattle.kg_row_types.specs.TextForms.{are_distinct, is_free_text, is_list_of}
use Rattle.kg_row_types.specs.TextForms.{is_set as is_some_set}
use Rattle.kg_row_types.specs.ValidRows.{IsValidHeaderTest}
use Rattle.kg_row_types.specs.declared.route.HeaderTest.{HeaderTest}
use Rattle.kg_bodies.specs.Settings.{test_of, tests_in, with_test}
use Rattle.kg_field_rules.proofs.RuleLemmas.{nothing_broken}
use Rattle.kg_field_rules.specs.Rules.{broken_if, first_by_rank}
use Rattle.kg_field_rules.specs.declared.rule.Rule.TheVariants.{Repeated, Syntax, WrongType}
use Rattle.kg_field_rules.specs.declared.text_kind.TextKind.TheVariants as text_kind
use Rattle.kg_field_tables.specs.Judging.{header_breaks, header_rule, headers_rule, is_header, is_set, list_breaks, set_members, texts_of, values_breaks}
use Rattle.kg_schema.proofs.ReadBackLists.{FitAll, each_text-shown, fit_all, shown_some}
use Rattle.kg_schema.proofs.ReadBackParts.{fits_free}
use Rattle.kg_shown_rows.specs.Shown.{with_values}
use Rattle.kg_shown_rows.specs.ShownParts.{Named, members_of, shown_texts}

-- ---- names in byte order

-- the name stands behind those of all entries
abbrev IsLast : {X : Type 0} → List (List ℕ × X) → List ℕ → Type 0
IsLast [] name = ⊤
IsLast (e ∷ es) name = (slice_cmp nat_cmp name e.0 ≡ Greater) × IsLast es name

-- each of the names does
abbrev AreLast : {X : Type 0} → List (List ℕ × X) → List (List ℕ) → Type 0
AreLast es [] = ⊤
AreLast es (name ∷ names) = IsLast es name × AreLast es names

turned : (a b : List ℕ) → slice_cmp nat_cmp a b ≡ Less → slice_cmp nat_cmp b a ≡ Greater
turned a b less = nat_list_cmp_total.antisymm b a ∙ ap ordering_reverse less

last_more : {X : Type 0} (es : List (List ℕ × X)) (e : List ℕ × X) (name : List ℕ) → IsLast es name → slice_cmp nat_cmp name e.0 ≡ Greater → IsLast (es ++ e ∷ []) name
last_more [] e name last above = (above, tt)
last_more (f ∷ es) e name last above = (last.0, last_more es e name last.1 above)

all_last_more : {X : Type 0} (es : List (List ℕ × X)) (e : List ℕ × X) (names : List (List ℕ)) → AreLast es names → AllByRecursion (λ name. slice_cmp nat_cmp e.0 name ≡ Less) names → AreLast (es ++ e ∷ []) names
all_last_more es e [] last above = tt
all_last_more es e (name ∷ names) last above = (last_more es e name last.0 (turned e.0 name above.0), all_last_more es e names last.1 above.1)

all_last : (X : Type 0) (names : List (List ℕ)) → AreLast {X = X} [] names
all_last X [] = tt
all_last X (name ∷ names) = (tt, all_last X names)

-- what is put behind all stands at the end
put_last : (ms : Named) (name : List ℕ) (d : Data) → IsLast ms name → put name d (members_of ms) ≡ members_of (ms ++ (name, d) ∷ [])
put_last [] name d last = refl
put_last (m ∷ ms) name d last =
    ap (λ o. match_ordering o (member name d (member m.0 m.1 (members_of ms))) (member m.0 d (members_of ms)) (member m.0 m.1 (put name d (members_of ms)))) last.0
    ∙ ap (λ rest. member m.0 m.1 rest) (put_last ms name d last.1)

insert_last : {X : Type 0} (es : List (List ℕ × X)) (name : List ℕ) (x : X) → IsLast es name → insert_entry (slice_cmp nat_cmp) es name x ≡ es ++ (name, x) ∷ []
insert_last [] name x last = refl
insert_last (e ∷ es) name x last =
    ap (λ o. match_ordering o ((name, x) ∷ e ∷ es) ((e.0, x) ∷ es) (e ∷ insert_entry (slice_cmp nat_cmp) es name x)) last.0
    ∙ ap (λ rest. e ∷ rest) (insert_last es name x last.1)

-- ---- the members of shown headers

abbrev names_of : List HeaderTest → List (List ℕ)
names_of tests = map (λ test. test.name) tests

abbrev IsInOrder : List HeaderTest → Type 0
IsInOrder tests = IsStrictlySortedBy (slice_cmp nat_cmp) (names_of tests)

abbrev header_member : HeaderTest → List ℕ × Data
header_member test = (test.name, shown_texts test.values)

-- the first name stands before the others
first_before : (test : HeaderTest) (tests : List HeaderTest) → IsInOrder (test ∷ tests) → AllByRecursion (λ name. slice_cmp nat_cmp test.name name ≡ Less) (names_of tests) × IsInOrder tests
unfolding IsStrictlySortedBy
first_before test tests ordered = ordered

all_put : (ms : Named) (tests : List HeaderTest) → AreLast ms (names_of tests) → IsInOrder tests → fold with_values (members_of ms) tests ≡ members_of (ms ++ map header_member tests)
all_put ms [] last ordered = ap members_of (sym (append-nil ms))
all_put ms (test ∷ tests) last ordered =
    let parts = first_before test tests ordered in
    ap (λ members. fold with_values members tests) (put_last ms test.name (shown_texts test.values) last.0)
    ∙ all_put (ms ++ header_member test ∷ []) tests (all_last_more ms (header_member test) (names_of tests) last.1 parts.0) parts.1
    ∙ ap members_of (append_assoc ms (header_member test ∷ []) (map header_member tests))

shown_members : (tests : List HeaderTest) → IsInOrder tests → fold with_values no_members tests ≡ members_of (map header_member tests)
shown_members tests ordered = all_put [] tests (all_last Data (names_of tests)) ordered

-- ---- one header

-- a name as it is stored is a token in lower case
name_parts : (name : List ℕ) → IsName name → (is_token name ≡ true) × (str_to_ascii_lowercase name ≡ name)
name_parts name is = at_token (is_token name) refl is
  where
    at_token : (b : Bool) → is_token name ≡ b → (if b then Ok (str_to_ascii_lowercase name) else Err (prefix_len is_tchar name)) ≡ Ok name → (is_token name ≡ true) × (str_to_ascii_lowercase name ≡ name)
    at_token true token e = let lower : str_to_ascii_lowercase name ≡ name = cc in (token, lower)
    at_token false token e = cc

-- what is known of a valid header
record IsTest (test : HeaderTest) : Type 0 where
  token : is_token test.name ≡ true
  lower : str_to_ascii_lowercase test.name ≡ test.name
  header : is_header test.name ≡ true
  texts : FitAll text_kind.FreeText test.values
  set : is_set (shown_texts test.values) ≡ true
  read : texts_of (shown_texts test.values) ≡ Some test.values

set_texts : (texts : List (List ℕ)) → nat_lt 0 (length texts) ≡ true → (is_set (shown_texts texts) ≡ true) × (texts_of (shown_texts texts) ≡ Some texts)
set_texts [] some = cc
set_texts (text ∷ texts) some = (ap is_set (shown_some text texts), ap texts_of (shown_some text texts) ∙ each_text-shown (text ∷ texts))

is_test : (test : HeaderTest) → IsValidHeaderTest test → IsTest test
is_test test valid =
    let parts = name_parts test.name valid.form in
    let values = and_parts (is_list_of is_free_text test.values) (is_some_set test.values) valid.values in
    let shown = set_texts test.values values.1 in
    record {
      token = parts.0;
      lower = parts.1;
      header = and_from (is_token test.name) (not (bytes_eq (str_to_ascii_lowercase test.name) (codes "host"))) parts.0 (ap (λ name. not (bytes_eq name (codes "host"))) parts.1 ∙ valid.name);
      texts = fit_all text_kind.FreeText is_free_text fits_free test.values values.0;
      set = shown.0;
      read = shown.1;
    }

-- it breaks no rule
no_breaks : (test : HeaderTest) → IsTest test → header_breaks test.name (shown_texts test.values) ≡ []
no_breaks test is =
    ap (λ b. broken_if (not b) Syntax ++ values_breaks (shown_texts test.values)) is.header
    ∙ ap (λ o. option_map_or (list_breaks text_kind.FreeText) o (WrongType ∷ [])) is.read
    ∙ nothing_broken (list_breaks text_kind.FreeText test.values) is.texts.rule

abbrev made : List ℕ → List (List ℕ) → HeaderTest
made name values = record { name = name; values = values }

-- it is read as it was
test_again : (test : HeaderTest) → IsTest test → test_of test.name (shown_texts test.values) ≡ Some test
test_again test is =
    ap (λ b. if b then Some (made (str_to_ascii_lowercase test.name) (unwrap_or (texts_of (shown_texts test.values)) [])) else None) passed
    ∙ ap (λ name. Some (made name (unwrap_or (texts_of (shown_texts test.values)) []))) is.lower
    ∙ ap (λ o. Some (made test.name (unwrap_or o []))) is.read
  where
    untold : is_none (header_rule test.name (shown_texts test.values)) ≡ true
    untold = ap (λ broken. is_none (first_by_rank broken)) (no_breaks test is)

    passed : (is_set (shown_texts test.values) && is_token test.name && is_none (header_rule test.name (shown_texts test.values))) ≡ true
    passed =
        and_from (is_set (shown_texts test.values) && is_token test.name) (is_none (header_rule test.name (shown_texts test.values)))
        (and_from (is_set (shown_texts test.values)) (is_token test.name) is.set is.token)
        untold

-- ---- all headers

-- all of them are set
all_set : (tests : List HeaderTest) → All IsValidHeaderTest tests → set_members (members_of (map header_member tests)) ≡ map header_member tests
all_set [] valid = refl
all_set (test ∷ tests) valid =
    let is = is_test test (All-head IsValidHeaderTest test tests valid) in
    let others = set_members (members_of (map header_member tests)) in
    ap (λ b. if b then header_member test ∷ others else others) is.set
    ∙ ap (λ more. header_member test ∷ more) (all_set tests (All-tail IsValidHeaderTest test tests valid))

none_breaks : (tests : List HeaderTest) → All IsValidHeaderTest tests → flat_map (λ header. header_breaks header.0 header.1) (map header_member tests) ≡ []
none_breaks [] valid = refl
none_breaks (test ∷ tests) valid =
    ap (λ broken. broken ++ flat_map (λ header. header_breaks header.0 header.1) (map header_member tests)) (no_breaks test (is_test test (All-head IsValidHeaderTest test tests valid)))
    ∙ none_breaks tests (All-tail IsValidHeaderTest test tests valid)

lower_names : (tests : List HeaderTest) → All IsValidHeaderTest tests → map (λ header. str_to_ascii_lowercase header.0) (map header_member tests) ≡ names_of tests
lower_names [] valid = refl
lower_names (test ∷ tests) valid =
    let is = is_test test (All-head IsValidHeaderTest test tests valid) in
    ap (λ name. name ∷ map (λ header. str_to_ascii_lowercase header.0) (map header_member tests)) is.lower
    ∙ ap (λ names. test.name ∷ names) (lower_names tests (All-tail IsValidHeaderTest test tests valid))

-- a name before others is none of them
apart : (name other : List ℕ) → slice_cmp nat_cmp name other ≡ Less → bytes_eq name other ≡ false
apart name other less = at_test (bytes_eq name other) refl
  where
    not_itself : (o : Ordering) → o ≡ ordering_reverse o → o ≡ Less → ⊥
    not_itself Less turned is = cc
    not_itself Equal turned is = cc
    not_itself Greater turned is = cc

    at_test : (b : Bool) → bytes_eq name other ≡ b → b ≡ false
    at_test false is = refl
    at_test true is =
        let same = (bytes_eq-Decides name other).0 is in
        absurd (not_itself (slice_cmp nat_cmp name name) (nat_list_cmp_total.antisymm name name) (ap (λ n. slice_cmp nat_cmp name n) same ∙ less))

all_apart : (name : List ℕ) (others : List (List ℕ)) → AllByRecursion (λ other. slice_cmp nat_cmp name other ≡ Less) others → list_any (bytes_eq name) others ≡ false
all_apart name [] before = refl
all_apart name (other ∷ others) before = or_from (bytes_eq name other) (list_any (bytes_eq name) others) (apart name other before.0) (all_apart name others before.1)

distinct : (tests : List HeaderTest) → IsInOrder tests → are_distinct (names_of tests) ≡ true
distinct [] ordered = refl
distinct (test ∷ tests) ordered =
    let parts = first_before test tests ordered in
    and_from (not (list_any (bytes_eq test.name) (names_of tests))) (are_distinct (names_of tests)) (ap not (all_apart test.name (names_of tests) parts.0)) (distinct tests parts.1)

-- headers that are valid and stand in order break no rule
pub members_rule : (tests : List HeaderTest) → All IsValidHeaderTest tests → IsInOrder tests → headers_rule (fold with_values no_members tests) ≡ None
members_rule tests valid ordered =
    ap headers_rule (shown_members tests ordered)
    ∙ ap (λ headers. first_by_rank (flat_map (λ header. header_breaks header.0 header.1) headers ++ broken_if (not (are_distinct (map (λ header. str_to_ascii_lowercase header.0) headers))) Repeated)) (all_set tests valid)
    ∙ ap (λ broken. first_by_rank (broken ++ broken_if (not (are_distinct (map (λ header. str_to_ascii_lowercase header.0) (map header_member tests)))) Repeated)) (none_breaks tests valid)
    ∙ ap (λ names. first_by_rank (broken_if (not (are_distinct names)) Repeated)) (lower_names tests valid)
    ∙ ap (λ b. first_by_rank (broken_if (not b) Repeated)) (distinct tests ordered)

abbrev entry_of : HeaderTest → List ℕ × HeaderTest
entry_of test = (test.name, test)

all_read : (entries : List (List ℕ × HeaderTest)) (tests : List HeaderTest) → AreLast entries (names_of tests) → IsInOrder tests → All IsValidHeaderTest tests
    → tests_in entries (members_of (map header_member tests)) ≡ entries ++ map entry_of tests
all_read entries [] last ordered valid = sym (append-nil entries)
all_read entries (test ∷ tests) last ordered valid =
    let parts = first_before test tests ordered in
    let is = is_test test (All-head IsValidHeaderTest test tests valid) in
    ap (λ o. tests_in (with_test entries o) (members_of (map header_member tests))) (test_again test is)
    ∙ ap (λ es. tests_in es (members_of (map header_member tests))) (insert_last entries test.name test last.0)
    ∙ all_read (entries ++ entry_of test ∷ []) tests (all_last_more entries (entry_of test) (names_of tests) last.1 parts.0) parts.1 (All-tail IsValidHeaderTest test tests valid)
    ∙ append_assoc entries (entry_of test ∷ []) (map entry_of tests)

tests_of_entries : (tests : List HeaderTest) → map (λ entry. entry.1) (map entry_of tests) ≡ tests
tests_of_entries [] = refl
tests_of_entries (test ∷ tests) = ap (λ more. test ∷ more) (tests_of_entries tests)

-- and are read as they were
pub members_again : (tests : List HeaderTest) → All IsValidHeaderTest tests → IsInOrder tests → map (λ entry. entry.1) (tests_in [] (fold with_values no_members tests)) ≡ tests
members_again tests valid ordered =
    ap (λ members. map (λ entry. entry.1) (tests_in [] members)) (shown_members tests ordered)
    ∙ ap (λ entries. map (λ entry. entry.1) entries) (all_read [] tests (all_last HeaderTest (names_of tests)) ordered valid)
    ∙ tests_of_entries tests
