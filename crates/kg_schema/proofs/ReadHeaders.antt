-- What a body sets as headers of a route: valid tests, in byte order of their names.
use Rattle.std.proofs.Common.{◌≡◌, ℕ, nat_lt, if◌then◌else◌, Bool, true, false, not, ◌&&◌, List, [], ◌∷◌, length, map, Option, Some, None, is_none, unwrap_or, option_map, option_and_then, codes, All, refl, sym, subst, ap, ◌∙◌, arith}
use Rattle.std.proofs.lemmas.Bool.{and_from, and_parts}
use Rattle.std.proofs.lemmas.Bool.Decides.{nat_tests}
use Rattle.std.proofs.lemmas.List.{map-id}
use Rattle.std.proofs.lemmas.List.Elements.{All-nil}
use Rattle.std.proofs.lemmas.Map.Lookups.{exact_bytes}
use Rattle.std.proofs.lemmas.Map.Views.{All-values-insert_entry}
use Rattle.std.specs.BTreeMap.{insert_entry}
use Rattle.std.specs.Cmp.{IsTotalOrder}
use Rattle.std.specs.Cmp.Lexicographic.{nat_list_cmp_total, slice_cmp}
use Rattle.std.specs.List.{AllByRecursion}
use Rattle.std.specs.List.Sorted.{IsStrictlySortedBy}
use Rattle.std.specs.Map.{keys_of, values_of}
use Rattle.std.specs.Option.{option_map_or}
use Rattle.std.specs.Ordering.{match_ordering, nat_cmp, ordering_reverse}
use Rattle.std.specs.Prelude.{IfSome, IsTrue}
use Rattle.std.specs.Str.{bytes_eq, str_to_ascii_lowercase}
use Rattle.std.specs.declared.cmp.Ordering.{Ordering}
use Rattle.std.specs.declared.cmp.Ordering.TheVariants.{Less, Equal, Greater}
use Rattle.serde_json.specs.Data.{Data, null, boolean, number, string, array, object, no_items, item, Members, no_members, member}
use Rattle.serde_json.specs.Find.{as_object, as_str}
use Rattle.kg_text.proofs.NameLemmas.{IsName-lower}
use Rattle.kg_text.specs.Names.{is_token}
use Rattle.kg_row_types.specs.ValidRows.{IsValidHeaderTest}
use Rattle.kg_row_types.specs.TextForms.{is_free_text, is_list_of}
use Rattle.kg_row_types.specs.TextForms.{is_set as is_some_set}
use Rattle.kg_row_types.specs.declared.route.HeaderTest.{HeaderTest}
use Rattle.kg_schema.proofs.ReadTexts.{list_ok, takes_free_text}
use Rattle.kg_bodies.proofs.ListLemmas.{header_parts}
use Rattle.kg_field_tables.specs.Judging.{each_text, header_rule, is_header, is_set, list_rule, texts_of, typed}
use Rattle.kg_bodies.specs.Settings.{test_of, tests_at, tests_in, value_at, with_test}
use Rattle.kg_field_rules.specs.declared.rule.Rule.{Rule}
use Rattle.kg_field_tables.specs.declared.shape.Shape.TheVariants as shape
use Rattle.kg_field_rules.specs.declared.text_kind.TextKind.TheVariants as text_kind

-- ---- one header

-- a list that is set has a text
texts_of_set : (d : Data) (texts : List (List ℕ)) → is_set d ≡ true → texts_of d ≡ Some texts → nat_lt 0 (length texts) ≡ true
texts_of_set null texts set is = cc
texts_of_set (boolean b) texts set is = cc
texts_of_set (number n) texts set is = cc
texts_of_set (string s) texts set is = cc
texts_of_set (object ms) texts set is = cc
texts_of_set (array no_items) texts set is = cc
texts_of_set (array (item first rest)) texts set is = at_first (as_str first) (each_text rest) texts is
  where
    some_more : (text : List ℕ) (more : List (List ℕ)) → nat_lt 0 (length (text ∷ more)) ≡ true
    some_more text more = grind (arith, nat_tests)

    at_first : (one : Option (List ℕ)) (others : Option (List (List ℕ))) (found : List (List ℕ)) → option_and_then (λ text. option_map (λ more. text ∷ more) others) one ≡ Some found → nat_lt 0 (length found) ≡ true
    at_first None others found e = cc
    at_first (Some text) None found e = cc
    at_first (Some text) (Some more) found e = let same : text ∷ more ≡ found = cc in subst (λ (xs : List (List ℕ)). nat_lt 0 (length xs) ≡ true) same (some_more text more)

-- the texts of values that break no rule
values_ok : (d : Data) → is_set d ≡ true → typed (list_rule text_kind.FreeText) (texts_of d) ≡ None
    → IsTrue (is_list_of is_free_text (unwrap_or (texts_of d) []) && is_some_set (unwrap_or (texts_of d) []))
values_ok d set ok = at_texts (texts_of d) refl ok
  where
    at_texts : (o : Option (List (List ℕ))) → texts_of d ≡ o → typed (list_rule text_kind.FreeText) o ≡ None → IsTrue (is_list_of is_free_text (unwrap_or o []) && is_some_set (unwrap_or o []))
    at_texts None is none = cc
    at_texts (Some texts) is none =
        and_from (is_list_of is_free_text texts) (is_some_set texts)
        (ap (is_list_of is_free_text) (sym (map-id texts)) ∙ list_ok text_kind.FreeText is_free_text takes_free_text texts none)
        (texts_of_set d texts set is)

abbrev test_made : List ℕ → Data → HeaderTest
test_made name d = record { name = str_to_ascii_lowercase name; values = unwrap_or (texts_of d) [] }

test_of_ok : (name : List ℕ) (d : Data) → IfSome (test_of name d) IsValidHeaderTest
test_of_ok name d = at_set (is_set d) refl
  where
    none_told : (o : Option Rule) → is_none o ≡ true → o ≡ None
    none_told None none = refl
    none_told (Some rule) none = cc

    made : is_set d ≡ true → typed (list_rule text_kind.FreeText) (texts_of d) ≡ None → is_header name ≡ true → IsValidHeaderTest (test_made name d)
    made set values header = record {
      form = IsName-lower name (and_parts (is_token name) (not (bytes_eq (str_to_ascii_lowercase name) (codes "host"))) header).0;
      name = (and_parts (is_token name) (not (bytes_eq (str_to_ascii_lowercase name) (codes "host"))) header).1;
      values = values_ok d set values;
    }

    at_rule : (b : Bool) → (is_token name && is_none (header_rule name d)) ≡ b → is_set d ≡ true → IfSome (if b then Some (test_made name d) else None) IsValidHeaderTest
    at_rule true passes set =
        let told = none_told (header_rule name d) (and_parts (is_token name) (is_none (header_rule name d)) passes).1 in
        let parts = header_parts (is_header name) (texts_of d) told in
        made set parts.1 parts.0
    at_rule false fails set = tt

    at_set : (b : Bool) → is_set d ≡ b → IfSome (if (b && is_token name && is_none (header_rule name d)) then Some (test_made name d) else None) IsValidHeaderTest
    at_set true set = at_rule (is_token name && is_none (header_rule name d)) refl set
    at_set false set = tt

-- ---- an entry more

module _ {K X : Type 0} {R : K → K → Ordering} (order : IsTotalOrder R) (k : K) (v : X) where
  -- what is below the new key and all others is below all of them
  below_all : (x : K) (es : List (K × X)) → R x k ≡ Less → AllByRecursion (λ y. R x y ≡ Less) (keys_of es) → AllByRecursion (λ y. R x y ≡ Less) (keys_of (insert_entry R es k v))
  below_all x [] less all = (less, tt)
  below_all x (e ∷ es) less all = at_order (R k e.0) (below_all x es less all.1)
    where
      at_order : (o : Ordering) → AllByRecursion (λ y. R x y ≡ Less) (keys_of (insert_entry R es k v)) → AllByRecursion (λ y. R x y ≡ Less) (keys_of (match_ordering o ((k, v) ∷ e ∷ es) ((e.0, v) ∷ es) (e ∷ insert_entry R es k v)))
      at_order Less more = (less, all)
      at_order Equal more = all
      at_order Greater more = (all.0, more)

  -- what is above a key is above each smaller one
  still_above : (x : K) (ks : List K) → R k x ≡ Less → AllByRecursion (λ y. R x y ≡ Less) ks → AllByRecursion (λ y. R k y ≡ Less) ks
  still_above x [] less all = tt
  still_above x (y ∷ ks) less all = (order.trans k x y less all.0, still_above x ks less all.1)

  pub insert_sorted : (es : List (K × X)) → IsStrictlySortedBy R (keys_of es) → IsStrictlySortedBy R (keys_of (insert_entry R es k v))
  unfolding IsStrictlySortedBy
  insert_sorted [] sorted = (tt, tt)
  insert_sorted (e ∷ es) sorted = at_order (R k e.0) refl (insert_sorted es sorted.1)
    where
      at_order : (o : Ordering) → R k e.0 ≡ o → IsStrictlySortedBy R (keys_of (insert_entry R es k v)) → IsStrictlySortedBy R (keys_of (match_ordering o ((k, v) ∷ e ∷ es) ((e.0, v) ∷ es) (e ∷ insert_entry R es k v)))
      at_order Less is more = ((is, still_above e.0 (keys_of es) is sorted.0), sorted)
      at_order Equal is more = sorted
      at_order Greater is more = (below_all e.0 es (order.antisymm e.0 k ∙ ap ordering_reverse is) sorted.0, more)

-- the name of each test is its key
abbrev names_of : List HeaderTest → List (List ℕ)
names_of tests = map (λ test. test.name) tests

insert_named : (test : HeaderTest) (es : List (List ℕ × HeaderTest)) → names_of (values_of es) ≡ keys_of es
    → names_of (values_of (insert_entry (slice_cmp nat_cmp) es test.name test)) ≡ keys_of (insert_entry (slice_cmp nat_cmp) es test.name test)
insert_named test [] named = refl
insert_named test (e ∷ es) named = at_order (slice_cmp nat_cmp test.name e.0) refl (insert_named test es others)
  where
    own : e.1.name ≡ e.0
    own = cc

    others : names_of (values_of es) ≡ keys_of es
    others = cc

    at_order : (o : Ordering) → slice_cmp nat_cmp test.name e.0 ≡ o
        → names_of (values_of (insert_entry (slice_cmp nat_cmp) es test.name test)) ≡ keys_of (insert_entry (slice_cmp nat_cmp) es test.name test)
        → names_of (values_of (match_ordering o ((test.name, test) ∷ e ∷ es) ((e.0, test) ∷ es) (e ∷ insert_entry (slice_cmp nat_cmp) es test.name test)))
        ≡ keys_of (match_ordering o ((test.name, test) ∷ e ∷ es) ((e.0, test) ∷ es) (e ∷ insert_entry (slice_cmp nat_cmp) es test.name test))
    at_order Less is more = ap (λ names. test.name ∷ names) named
    at_order Equal is more = let same : test.name ≡ e.0 = exact_bytes test.name e.0 is in cc
    at_order Greater is more = cc

-- ---- all headers

record AreTests (entries : List (List ℕ × HeaderTest)) : Type 0 where
  valid : All IsValidHeaderTest (values_of entries)
  sorted : IsStrictlySortedBy (slice_cmp nat_cmp) (keys_of entries)
  named : names_of (values_of entries) ≡ keys_of entries

with_test_ok : (entries : List (List ℕ × HeaderTest)) (o : Option HeaderTest) → AreTests entries → IfSome o IsValidHeaderTest → AreTests (with_test entries o)
with_test_ok entries None are ok = are
with_test_ok entries (Some test) are ok = record {
  valid = All-values-insert_entry (slice_cmp nat_cmp) test.name test IsValidHeaderTest entries are.valid ok;
  sorted = insert_sorted nat_list_cmp_total test.name test entries are.sorted;
  named = insert_named test entries are.named;
}

tests_in_ok : (entries : List (List ℕ × HeaderTest)) (ms : Members) → AreTests entries → AreTests (tests_in entries ms)
tests_in_ok entries no_members are = are
tests_in_ok entries (member name d rest) are = tests_in_ok (with_test entries (test_of name d)) rest (with_test_ok entries (test_of name d) are (test_of_ok name d))

no_tests : AreTests []
unfolding IsStrictlySortedBy
no_tests = record { valid = All-nil IsValidHeaderTest; sorted = tt; named = refl }

-- valid tests in byte order of their names
pub record AreOrdered (tests : List HeaderTest) : Type 0 where
  pub valid : All IsValidHeaderTest tests
  pub ordered : IsStrictlySortedBy (slice_cmp nat_cmp) (map (λ test. test.name) tests)

by_entries : (entries : List (List ℕ × HeaderTest)) → AreTests entries → AreOrdered (values_of entries)
by_entries entries are = record {
  valid = are.valid;
  ordered = subst (λ (names : List (List ℕ)). IsStrictlySortedBy (slice_cmp nat_cmp) names) (sym are.named) are.sorted;
}

-- the headers that a body sets
pub tests_ok : (body : Data) → AreOrdered (tests_at body)
tests_ok body = at_members (option_and_then as_object (value_at shape.Headers (codes "headers") body))
  where
    at_members : (o : Option Members) → AreOrdered (map (λ entry. entry.1) (option_map_or (tests_in []) o []))
    at_members None = by_entries [] no_tests
    at_members (Some ms) = by_entries (tests_in [] ms) (tests_in_ok [] ms no_tests)
