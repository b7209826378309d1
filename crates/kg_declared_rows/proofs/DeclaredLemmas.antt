-- Nested lists of one name aren't touched where those of another are taken out.
use Rattle.std.proofs.Common.{◌≡◌, ℕ, ◌+◌, length, Bool, true, false, cond, ◌||◌, List, [], ◌∷◌, ◌++◌, append_assoc, map, Option, Some, None, unwrap_or, Ordering, Less, Equal, Greater, is_eq, refl, sym, ap, ◌∙◌, codes, true≢false}
use Rattle.std.proofs.lemmas.List.{length-map}
use Rattle.std.proofs.lemmas.Map.Text.{is_eq-slice_cmp}
use Rattle.std.proofs.lemmas.Slice.Eq.{bytes_eq-Decides}
use Rattle.std.specs.Cmp.Lexicographic.{slice_cmp}
use Rattle.std.specs.List.{list_any}
use Rattle.std.specs.Option.{option_map_or}
use Rattle.std.specs.Ordering.{nat_cmp, match_ordering}
use Rattle.std.specs.Str.{bytes_eq}
use Rattle.serde_json.specs.Data.{Data, Members, no_members, member}
use Rattle.serde_json.specs.Find.{get_member}
use Rattle.kg_row_types.specs.declared.entity.Kind.{Kind}
use Rattle.kg_row_types.specs.declared.entity.Kind.TheVariants as kind
use Rattle.kg_declared_rows.specs.Violations.{rows_at, rows_in}
use Rattle.kg_declared_rows.specs.Rows.{Row, alone, consumers, first_consumer, first_route, listed, nested, nested_in, owned, plugins, routes, row_of, rows_of, services, stripped, without}
use Rattle.kg_declared_rows.specs.SeenRows.{AreListed, HaveNested, HaveNestedPlugins, consumers_begin, joined, seen, seen_all}
use Rattle.kg_declared_rows.specs.declared.declared.Declared.{Declared}
use Rattle.kg_declared_rows.specs.declared.declared.Lists.{Lists}

other_way : (o : Ordering) (a b : Option Data) → is_eq o ≡ false → match_ordering o a b a ≡ a
other_way Less a b apart = refl
other_way Equal a b apart = absurd (true≢false apart)
other_way Greater a b apart = refl

skipped : (q l : List ℕ) (e : Data) (ms : Members) → bytes_eq q l ≡ false → get_member q (member l e ms) ≡ get_member q ms
skipped q l e ms apart = other_way (slice_cmp nat_cmp q l) (get_member q ms) (Some e) (is_eq-slice_cmp q l ∙ apart)

found_at : (b : Bool) (q k l : List ℕ) (e : Data) (ms rest : Members) → bytes_eq k l ≡ b → bytes_eq q k ≡ false → get_member q rest ≡ get_member q ms
    → get_member q (cond b ms (member l e rest)) ≡ get_member q (member l e ms)
found_at true q k l e ms rest same apart later =
    sym (skipped q l e ms (ap (bytes_eq q) (sym ((bytes_eq-Decides k l).0 same)) ∙ apart))
found_at false q k l e ms rest same apart later = ap (λ found. match_ordering (slice_cmp nat_cmp q l) found (Some e) found) later

-- a member of another name is found as before
member_skips : (q k : List ℕ) (ms : Members) → bytes_eq q k ≡ false → get_member q (without k ms) ≡ get_member q ms
member_skips q k no_members apart = refl
member_skips q k (member l e ms) apart = found_at (bytes_eq k l) q k l e ms (without k ms) refl apart (member_skips q k ms apart)

rows_skip : (q k : List ℕ) (ms : Members) → bytes_eq q k ≡ false → rows_at q (without k ms) ≡ rows_at q ms
rows_skip q k ms apart = ap (λ found. option_map_or rows_in found (Some [])) (member_skips q k ms apart)

listed_skips : (of_kind : Kind) (q k : List ℕ) (ms : Members) → bytes_eq q k ≡ false → listed of_kind q (without k ms) ≡ listed of_kind q ms
listed_skips of_kind q k ms apart = ap (λ found. map (row_of of_kind None) (unwrap_or found [])) (rows_skip q k ms apart)

nested_in_skips : (of_kind : Kind) (q k : List ℕ) (number : ℕ) (row : Row) → bytes_eq q k ≡ false → nested_in of_kind q number (stripped k row) ≡ nested_in of_kind q number row
nested_in_skips of_kind q k number row apart =
    ap (λ found. map (row_of of_kind (Some (record { kind = row.kind; number = number }))) (unwrap_or found [])) (rows_skip q k row.members apart)

pub nested_skips : (first : ℕ) (of_kind : Kind) (q k : List ℕ) (rows : List Row) → bytes_eq q k ≡ false → nested first of_kind q (map (stripped k) rows) ≡ nested first of_kind q rows
nested_skips first of_kind q k [] apart = refl
nested_skips first of_kind q k (row ∷ rows) apart =
    ap (λ here. here ++ nested (first + 1) of_kind q (map (stripped k) rows)) (nested_in_skips of_kind q k first row apart)
    ∙ ap (λ behind. nested_in of_kind q first row ++ behind) (nested_skips (first + 1) of_kind q k rows apart)

-- ---- a declaration from which lists were taken out

abbrev pub without_all : List (List ℕ) → Members → Members
without_all [] ms = ms
without_all (name ∷ names) ms = without name (without_all names ms)

first_apart : (a b : Bool) → (a || b) ≡ false → a ≡ false
first_apart true b wrong = absurd (true≢false wrong)
first_apart false b apart = refl

rest_apart : (a b : Bool) → (a || b) ≡ false → b ≡ false
rest_apart true b wrong = absurd (true≢false wrong)
rest_apart false b apart = apart

pub listed_after : (of_kind : Kind) (q : List ℕ) (names : List (List ℕ)) (ms : Members) → list_any (bytes_eq q) names ≡ false
    → listed of_kind q (without_all names ms) ≡ listed of_kind q ms
listed_after of_kind q [] ms apart = refl
listed_after of_kind q (name ∷ names) ms apart =
    listed_skips of_kind q name (without_all names ms) (first_apart (bytes_eq q name) (list_any (bytes_eq q) names) apart)
    ∙ listed_after of_kind q names ms (rest_apart (bytes_eq q name) (list_any (bytes_eq q) names) apart)

-- ---- all rows

-- what is added behind a part is behind the whole
pub added_behind : (rows old now part more : List Row) → old ≡ rows ++ part → now ≡ old ++ more → now ≡ rows ++ (part ++ more)
added_behind rows old now part more before added = added ∙ ap (λ all. all ++ more) before ∙ append_assoc rows part more

abbrev stripped_consumers : List Row → List Row
stripped_consumers rows = map (stripped (codes "acls")) (map (stripped (codes "basicauth_credentials")) (map (stripped (codes "keyauth_credentials")) rows))

plugins_of_consumers : (first : ℕ) (rows : List Row) → nested first kind.Plugin (codes "plugins") (stripped_consumers rows) ≡ nested first kind.Plugin (codes "plugins") rows
plugins_of_consumers first rows =
    nested_skips first kind.Plugin (codes "plugins") (codes "acls") (map (stripped (codes "basicauth_credentials")) (map (stripped (codes "keyauth_credentials")) rows)) refl
    ∙ nested_skips first kind.Plugin (codes "plugins") (codes "basicauth_credentials") (map (stripped (codes "keyauth_credentials")) rows) refl
    ∙ nested_skips first kind.Plugin (codes "plugins") (codes "keyauth_credentials") rows refl

-- lists are as long as what they stand for
as_long : (rows : List Declared) (meant : List Row) → seen_all rows ≡ meant → length rows ≡ length meant
as_long rows meant same = sym (length-map rows seen) ∙ ap length same

module _ (declaration : Members) (own half whole : Lists) (listed_own : AreListed declaration own) (have : HaveNested own half) (plugged : HaveNestedPlugins half whole) where
  services_half : seen_all half.services.items ≡ map (stripped (codes "routes")) (services declaration)
  services_half = have.services ∙ ap (map (stripped (codes "routes"))) listed_own.services

  services_whole : seen_all whole.services.items ≡ alone (codes "routes" ∷ codes "plugins" ∷ []) (services declaration)
  services_whole = plugged.services ∙ ap (map (stripped (codes "plugins"))) services_half

  routes_half : seen_all half.routes.items ≡ routes declaration
  routes_half =
      have.routes ∙ ap (λ rows. rows ++ nested 0 kind.Route (codes "routes") (seen_all own.services.items)) listed_own.routes
      ∙ ap (λ rows. listed kind.Route (codes "routes") declaration ++ nested 0 kind.Route (codes "routes") rows) listed_own.services

  routes_whole : seen_all whole.routes.items ≡ alone (codes "plugins" ∷ []) (routes declaration)
  routes_whole = plugged.routes ∙ ap (map (stripped (codes "plugins"))) routes_half

  -- the numbers of the first route and of the first consumer
  route_begin : length half.services.items ≡ first_route declaration
  route_begin =
      as_long half.services.items (map (stripped (codes "routes")) (services declaration)) services_half
      ∙ length-map (services declaration) (stripped (codes "routes"))

  consumer_begin : consumers_begin half ≡ first_consumer declaration
  consumer_begin = λ i. route_begin i + as_long half.routes.items (routes declaration) routes_half i

  consumers_half : seen_all half.consumers.items ≡ stripped_consumers (consumers declaration)
  consumers_half = have.consumers ∙ ap stripped_consumers listed_own.consumers

  consumers_whole : seen_all whole.consumers.items
      ≡ alone (codes "keyauth_credentials" ∷ codes "basicauth_credentials" ∷ codes "acls" ∷ codes "plugins" ∷ []) (consumers declaration)
  consumers_whole = plugged.consumers ∙ ap (map (stripped (codes "plugins"))) consumers_half

  owned_whole : (of_kind : Kind) (name : List ℕ) (first after : List Row) → after ≡ first ++ nested (consumers_begin half) of_kind name (seen_all own.consumers.items)
      → first ≡ listed of_kind name declaration → after ≡ owned of_kind name declaration
  owned_whole of_kind name first after made listed_first =
      made ∙ ap (λ rows. rows ++ nested (consumers_begin half) of_kind name (seen_all own.consumers.items)) listed_first
      ∙ ap (λ rows. listed of_kind name declaration ++ nested (consumers_begin half) of_kind name rows) listed_own.consumers
      ∙ ap (λ number. listed of_kind name declaration ++ nested number of_kind name (consumers declaration)) consumer_begin

  keys_whole : seen_all whole.keys.items ≡ owned kind.KeyCred (codes "keyauth_credentials") declaration
  keys_whole = plugged.keys ∙ owned_whole kind.KeyCred (codes "keyauth_credentials") (seen_all own.keys.items) (seen_all half.keys.items) have.keys listed_own.keys

  logins_whole : seen_all whole.logins.items ≡ owned kind.BasicCred (codes "basicauth_credentials") declaration
  logins_whole = plugged.logins ∙ owned_whole kind.BasicCred (codes "basicauth_credentials") (seen_all own.logins.items) (seen_all half.logins.items) have.logins listed_own.logins

  acls_whole : seen_all whole.acls.items ≡ owned kind.Acl (codes "acls") declaration
  acls_whole = plugged.acls ∙ owned_whole kind.Acl (codes "acls") (seen_all own.acls.items) (seen_all half.acls.items) have.acls listed_own.acls

  of_services : nested 0 kind.Plugin (codes "plugins") (seen_all half.services.items) ≡ nested 0 kind.Plugin (codes "plugins") (services declaration)
  of_services =
      ap (nested 0 kind.Plugin (codes "plugins")) services_half
      ∙ nested_skips 0 kind.Plugin (codes "plugins") (codes "routes") (services declaration) refl

  of_routes : nested (length half.services.items) kind.Plugin (codes "plugins") (seen_all half.routes.items) ≡ nested (first_route declaration) kind.Plugin (codes "plugins") (routes declaration)
  of_routes = λ i. nested (route_begin i) kind.Plugin (codes "plugins") (routes_half i)

  of_consumers : nested (consumers_begin half) kind.Plugin (codes "plugins") (seen_all half.consumers.items) ≡ nested (first_consumer declaration) kind.Plugin (codes "plugins") (consumers declaration)
  of_consumers =
      (λ i. nested (consumer_begin i) kind.Plugin (codes "plugins") (consumers_half i))
      ∙ plugins_of_consumers (first_consumer declaration) (consumers declaration)

  plugins_whole : seen_all whole.plugins.items ≡ plugins declaration
  plugins_whole = plugged.plugins ∙ rw (have.plugins, listed_own.plugins, of_services, of_routes, of_consumers) refl

  -- the lists one behind another are all rows
  pub all_rows : joined whole ≡ rows_of declaration
  unfolding rows_of
  all_rows = rw (services_whole, routes_whole, consumers_whole, keys_whole, logins_whole, acls_whole, plugins_whole)
