-- A shown route makes the route again.
use Rattle.std.proofs.Common.{◌≡◌, ℕ, ◌/◌, ◌==◌, nat_lt, nat_le, ℤ, if◌then◌else◌, Bool, true, false, List, [], ◌∷◌, length, fold, map, All, Option, Some, None, is_some, option_map, option_and_then, unwrap_or, codes, refl, ap, ◌∙◌, arith}
use Rattle.std.proofs.lemmas.Bool.{and_from, and_parts}
use Rattle.std.proofs.lemmas.Bool.Decides.{nat_tests}
use Rattle.std.specs.Cmp.Lexicographic.{slice_cmp}
use Rattle.std.specs.List.{list_any}
use Rattle.std.specs.List.Sorted.{IsStrictlySortedBy}
use Rattle.std.specs.Option.{option_map_or}
use Rattle.std.specs.Ordering.{nat_cmp}
use Rattle.std.specs.Prelude.{IfSome}
use Rattle.std.specs.Str.{bytes_eq, str_to_ascii_lowercase}
use Rattle.serde_json.specs.Data.{Data, null, object, no_members}
use Rattle.serde_json.specs.Find.{as_object}
use Rattle.kg_text.specs.Paths.{normal_form}
use Rattle.kg_text.specs.SameBytes.{same_bytes}
use Rattle.kg_row_types.specs.TextForms.{has_length, has_route_path_form, is_method, is_name, is_route_host, is_route_path, is_stored_route_host}
use Rattle.kg_row_types.specs.ValidRows.{IsValidHeaderTest, IsValidRoute}
use Rattle.kg_row_types.specs.declared.entity.Entity.{Entity}
use Rattle.kg_row_types.specs.declared.entity.Entity.TheVariants as row
use Rattle.kg_row_types.specs.declared.entity.Kind.TheVariants as kind
use Rattle.kg_row_types.specs.declared.route.HeaderTest.{HeaderTest}
use Rattle.kg_row_types.specs.declared.route.Route.{Route}
use Rattle.kg_bodies.specs.Settings.{tests_in}
use Rattle.kg_bodies.specs.TableSettings.{integer_in, text_in, texts_in}
use Rattle.kg_field_rules.specs.declared.text_kind.TextKind.TheVariants as text_kind
use Rattle.kg_field_tables.specs.BrokenRules.{violations_in, violations_inside}
use Rattle.kg_field_tables.specs.Judging.{judged, texts_of}
use Rattle.kg_field_tables.specs.declared.reference.Mention.TheVariants as mention
use Rattle.kg_field_tables.specs.declared.shape.Shape.TheVariants as shape
use Rattle.kg_field_tables.specs.declared.table.Field.{Field}
use Rattle.kg_field_tables.specs.declared.default_value.DefaultValue.TheVariants.{Unset}
use Rattle.kg_field_tables.specs.declared.table.Field.TheVariants.{Judged}
use Rattle.kg_field_tables.specs.declared.table.Table.TheVariants as table
use Rattle.kg_row_making.specs.Bases.{Again}
use Rattle.kg_row_making.specs.FinishedConfigs.{list_over}
use Rattle.kg_schema.proofs.ReadBackHeaders.{members_again, members_rule}
use Rattle.kg_schema.proofs.ReadBackLists.{FitAll, fit_all, over_nothing, priority_over, priority_rule, texts_inside, texts_over, texts_rule}
use Rattle.kg_schema.proofs.ReadBackParts.{each_fits, Fits, fits_name, none_broken, option_inside, option_over, option_rule, printed_id, reference_rule, taken, within_ok}
use Rattle.kg_schema.specs.Finished.{row_over}
use Rattle.kg_schema.specs.ReadBack.{IsReadBack, changed_at, named_by}
use Rattle.kg_shown_rows.specs.Shown.{protocols_of, route_members, shown, shown_headers, with_values}
use Rattle.kg_shown_rows.specs.ShownParts.{members_of, shown_texts}

-- ---- texts of routes

fits_method : (text : List ℕ) → is_method text ≡ true → Fits text_kind.Method text
fits_method text ok = record { rule = within_ok text_kind.Method 255 refl text ok; same = refl }

fits_route_host : (text : List ℕ) → is_stored_route_host text ≡ true → Fits text_kind.RouteHost text
fits_route_host text ok =
    let parts = and_parts (is_route_host text) (bytes_eq (str_to_ascii_lowercase text) text) ok in
    record { rule = within_ok text_kind.RouteHost 255 refl text parts.0; same = same_bytes (str_to_ascii_lowercase text) text parts.1 }

-- no path is empty
path_some : (path : List ℕ) → has_route_path_form path ≡ true → nat_lt 0 (length path) ≡ true
unfolding normal_form
path_some [] ok = cc
path_some (b ∷ rest) ok = grind (arith, nat_tests)

fits_route_path : (text : List ℕ) → is_route_path text ≡ true → Fits text_kind.RoutePath text
fits_route_path text ok =
    let parts = and_parts (nat_le (length text) 256) (has_route_path_form text) ok in
    record {
      rule = within_ok text_kind.RoutePath 256 refl text
          (and_from (has_length 256 text) (has_route_path_form text) (and_from (nat_lt 0 (length text)) (nat_le (length text) 256) (path_some text parts.1) parts.0) parts.1);
      same = refl;
    }

-- ---- protocols and headers

protocols_rule : (https : Bool) → judged shape.Protocols (shown_texts (protocols_of https)) ≡ None
protocols_rule true = refl
protocols_rule false = refl

-- whether https is among the protocols that are shown
abbrev https_of : Data → Option Bool
https_of d = option_map (list_any (bytes_eq (codes "https"))) (option_and_then texts_of (taken shape.Protocols d))

https_over : (https other : Bool) → unwrap_or (https_of (shown_texts (protocols_of https))) other ≡ https
https_over true other = refl
https_over false other = refl

protocols_inside : (https : Bool) (field : Field) (path : List ℕ) → violations_inside (shown_texts (protocols_of https)) field path ≡ []
protocols_inside https field path = texts_inside (protocols_of https) field path

abbrev tests_of : Data → List HeaderTest
tests_of d = map (λ entry. entry.1) (option_map_or (tests_in []) (option_and_then as_object (taken shape.Headers d)) [])

abbrev IsInOrder : List HeaderTest → Type 0
IsInOrder tests = IsStrictlySortedBy (slice_cmp nat_cmp) (map (λ test. test.name) tests)

some_tests : (test : HeaderTest) (tests : List HeaderTest) → (length (test ∷ tests) == 0) ≡ false
some_tests test tests = grind (arith, nat_tests)

-- headers that are set are shown as an object
shown_set : (test : HeaderTest) (tests : List HeaderTest) → shown_headers (test ∷ tests) ≡ object (fold with_values no_members (test ∷ tests))
shown_set test tests = ap (λ b. if b then null else object (fold with_values no_members (test ∷ tests))) (some_tests test tests)

headers_field_rule : (tests : List HeaderTest) → All IsValidHeaderTest tests → IsInOrder tests → judged shape.Headers (shown_headers tests) ≡ None
headers_field_rule [] valid ordered = refl
headers_field_rule (test ∷ tests) valid ordered = ap (judged shape.Headers) (shown_set test tests) ∙ members_rule (test ∷ tests) valid ordered

headers_again : (tests : List HeaderTest) → All IsValidHeaderTest tests → IsInOrder tests → tests_of (shown_headers tests) ≡ tests
headers_again [] valid ordered = refl
headers_again (test ∷ tests) valid ordered =
    let members = fold with_values no_members (test ∷ tests) in
    ap tests_of (shown_set test tests)
    ∙ ap (λ rule. map (λ entry. entry.1) (option_map_or (tests_in []) (option_and_then as_object (if is_some rule then None else Some (object members))) [])) (members_rule (test ∷ tests) valid ordered)
    ∙ members_again (test ∷ tests) valid ordered

headers_inside : (tests : List HeaderTest) (path : List ℕ) → violations_inside (shown_headers tests) (Judged shape.Headers Unset) path ≡ []
headers_inside [] path = refl
headers_inside (test ∷ tests) path = ap (λ d. violations_inside d (Judged shape.Headers Unset) path) (shown_set test tests)

-- ---- the whole route

module _ (route : Route) (valid : IsValidRoute route) where
  name : IfSome route.name (Fits text_kind.Name)
  name = each_fits text_kind.Name is_name fits_name route.name valid.name

  methods : FitAll text_kind.Method route.methods
  methods = fit_all text_kind.Method is_method fits_method route.methods valid.methods

  hosts : FitAll text_kind.RouteHost route.hosts
  hosts = fit_all text_kind.RouteHost is_stored_route_host fits_route_host route.hosts valid.hosts

  paths : FitAll text_kind.RoutePath route.paths
  paths = fit_all text_kind.RoutePath is_route_path fits_route_path route.paths valid.paths

  accepted : violations_in (members_of (route_members route)) table.Route [] ≡ []
  accepted = none_broken table.Route [] (route_members route) (
    record { rule = refl; inside = refl },
    (
      record { rule = headers_field_rule route.headers valid.headers valid.ordered; inside = headers_inside route.headers _ },
      (
        record { rule = texts_rule text_kind.RouteHost route.hosts hosts; inside = texts_inside route.hosts _ _ },
        (
          record { rule = printed_id route.id valid.id; inside = refl },
          (
            record { rule = texts_rule text_kind.Method route.methods methods; inside = texts_inside route.methods _ _ },
            (
              record { rule = option_rule text_kind.Name route.name name; inside = option_inside route.name _ _ },
              (
                record { rule = refl; inside = refl },
                (
                  record { rule = texts_rule text_kind.RoutePath route.paths paths; inside = texts_inside route.paths _ _ },
                  (
                    record { rule = refl; inside = refl },
                    (
                      record { rule = protocols_rule route.https; inside = protocols_inside route.https _ _ },
                      (
                        record { rule = priority_rule route.regex_priority valid.low valid.high; inside = refl },
                        (
                          record { rule = reference_rule mention.Name route.service valid.service; inside = refl },
                          (
                            record { rule = refl; inside = refl },
                            (
                              record { rule = refl; inside = refl },
                              tt,
                            ),
                          ),
                        ),
                      ),
                    ),
                  ),
                ),
              ),
            ),
          ),
        ),
      ),
    ),
  )

  -- the route with what is read
  abbrev made : ℕ → Option (List ℕ) → Bool → List (List ℕ) → List (List ℕ) → List (List ℕ) → List HeaderTest → ℤ → Entity
  made now name https methods hosts paths headers priority = row.Route (record {
    id = route.id;
    name = name;
    service = route.service;
    https = https;
    methods = methods;
    hosts = hosts;
    paths = paths;
    headers = headers;
    regex_priority = priority;
    strip_path = route.strip_path;
    preserve_host = route.preserve_host;
    created_at = route.created_at;
    updated_at = now / 1000;
  })

  same : (now : ℕ) (name name_read : Option (List ℕ)) (https https_read : Bool) (methods methods_read hosts hosts_read paths paths_read : List (List ℕ)) (headers headers_read : List HeaderTest) (priority priority_read : ℤ)
      → name_read ≡ name → https_read ≡ https → methods_read ≡ methods → hosts_read ≡ hosts → paths_read ≡ paths → headers_read ≡ headers → priority_read ≡ priority
      → made now name_read https_read methods_read hosts_read paths_read headers_read priority_read ≡ made now name https methods hosts paths headers priority
  same now name name_read https https_read methods methods_read hosts hosts_read paths paths_read headers headers_read priority priority_read a b c d e f g = rw (a, b, c, d, e, f, g) refl

  again : (now : ℕ) → row_over kind.Route (shown (row.Route route)) (Again route.id route.created_at now) (named_by (row.Route route)) ≡ changed_at (now / 1000) (row.Route route)
  unfolding row_over text_in texts_in integer_in
  again now =
      same now route.name _ route.https _ route.methods _ route.hosts _ route.paths _ route.headers _ route.regex_priority _
      (option_over text_kind.Name route.name name) (https_over route.https _)
      (texts_over text_kind.Method route.methods methods) (texts_over text_kind.RouteHost route.hosts hosts) (texts_over text_kind.RoutePath route.paths paths)
      (ap (λ tests. list_over tests []) (headers_again route.headers valid.headers valid.ordered) ∙ over_nothing route.headers)
      (priority_over route.regex_priority _ valid.low valid.high)

pub route_read_back : (route : Route) → IsValidRoute route → IsReadBack (row.Route route)
route_read_back route valid = record { accepted = accepted route valid; again = again route valid }
