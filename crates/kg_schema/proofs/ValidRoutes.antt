-- A finished route is valid.
use Rattle.std.proofs.Common.{◌≡◌, ℕ, zero, suc, ◌==◌, nat_lt, ℤ, pos, neg_ℤ, Bool, true, false, not, ◌&&◌, ◌||◌, List, [], length, codes, refl, arith}
use Rattle.std.proofs.lemmas.Bool.Decides.{nat_tests}
use Rattle.std.proofs.lemmas.List.Elements.{All-nil}
use Rattle.std.specs.List.Sorted.{IsStrictlySortedBy}
use Rattle.std.specs.Prelude.{IfSome, IsTrue, ◌≤ℤ◌}
use Rattle.serde_json.specs.Data.{Data}
use Rattle.kg_row_types.specs.Ids.{IsId}
use Rattle.kg_row_types.specs.ValidRows.{IsValidHeaderTest, IsValidRoute}
use Rattle.kg_row_types.specs.TextForms.{is_stored_route_host, is_list_of, is_method, is_name, is_route_path}
use Rattle.kg_row_types.specs.declared.entity.Entity.TheVariants as row
use Rattle.kg_row_types.specs.declared.entity.Kind.TheVariants as kind
use Rattle.kg_row_types.specs.declared.route.Route.{Route}
use Rattle.kg_schema.proofs.StoredHosts.{takes_route_host}
use Rattle.kg_schema.proofs.ReadHeaders.{AreOrdered, tests_ok}
use Rattle.kg_schema.proofs.ReadNumbers.{integer_ok}
use Rattle.kg_schema.proofs.ReadTexts.{takes_accepted, takes_method, takes_name, takes_route_path, text_ok, texts_ok}
use Rattle.kg_schema.proofs.ValidIds.{stamps_ok}
use Rattle.kg_schema.proofs.ValidParts.{list_over_ok, neither, not_broken, or_ok, unwrapped_ok}
use Rattle.kg_row_making.specs.Bases.{BaseValue, New, Again, Word, Old, old_as, route_of, stamps_of}
use Rattle.kg_schema.specs.Between.{violation_if, fits_nothing, is_missing, route_violations}
use Rattle.kg_row_making.specs.RowsBefore.{route_before}
use Rattle.kg_schema.specs.Finished.{route_over}
use Rattle.kg_field_tables.specs.Defaults.{default_integer}
use Rattle.kg_field_tables.specs.declared.table.Table.TheVariants as table
use Rattle.kg_bodies.specs.TableSettings.{integer_in, text_in, texts_in}
use Rattle.kg_bodies.specs.Settings.{integer_at, text_at, texts_at, tests_at}
use Rattle.kg_schema.specs.ValidBases.{AreIds, HasId, IsValidBase}
use Rattle.kg_row_making.specs.declared.base.Links.{Links}
use Rattle.kg_row_making.specs.declared.base.Stamps.{Stamps}
use Rattle.kg_field_rules.specs.declared.rule.Rule.TheVariants.{Required}
use Rattle.kg_field_rules.specs.declared.text_kind.TextKind.TheVariants as text_kind

abbrev IsName : List ℕ → Type 0
IsName text = IsTrue (is_name text)

abbrev IsListOf : (List ℕ → Bool) → List (List ℕ) → Type 0
IsListOf test texts = IsTrue (is_list_of test texts)

abbrev IsPriority : ℤ → Type 0
IsPriority priority = (neg_ℤ (pos 1000000) ≤ℤ priority) × (priority ≤ℤ pos 1000000)

-- what stands in a route before a body sets anything: perhaps nothing that a request can fit
record AreFields (route : Route) : Type 0 where
  id : IsId route.id
  service : IsId route.service
  name : IfSome route.name IsName
  methods : IsListOf is_method route.methods
  hosts : IsListOf is_stored_route_host route.hosts
  paths : IsListOf is_route_path route.paths
  headers : AreOrdered route.headers
  priority : IsPriority route.regex_priority

no_headers : AreOrdered []
unfolding IsStrictlySortedBy
no_headers = record { valid = All-nil IsValidHeaderTest; ordered = tt }

-- the default of the table lies within its bounds
priority_ok : IsPriority (default_integer table.Route (codes "regex_priority"))
priority_ok = (record { le = tt }, record { le = tt })

before_ok : (base : BaseValue) (stamps : Stamps) → IsId stamps.id → IsValidBase kind.Route base → AreFields (route_before base stamps)
before_ok (New id now) stamps is ok = record { id = is; service = is; name = tt; methods = refl; hosts = refl; paths = refl; headers = no_headers; priority = priority_ok }
before_ok (Again id created_at now) stamps is ok = record { id = is; service = is; name = tt; methods = refl; hosts = refl; paths = refl; headers = no_headers; priority = priority_ok }
before_ok (Word id text now) stamps is ok = record { id = is; service = is; name = takes_accepted text_kind.Name is_name takes_name text ok; methods = refl; hosts = refl; paths = refl; headers = no_headers; priority = priority_ok }
before_ok (Old (row.Route old) now) stamps is ok = record {
  id = ok.id;
  service = ok.service;
  name = ok.name;
  methods = ok.methods;
  hosts = ok.hosts;
  paths = ok.paths;
  headers = record { valid = ok.headers; ordered = ok.ordered };
  priority = (ok.low, ok.high);
}
before_ok (Old old now) stamps is ok = record { id = is; service = is; name = tt; methods = refl; hosts = refl; paths = refl; headers = no_headers; priority = priority_ok }

-- ---- something is set

any_of : (a b c d : Bool) → (a && b && c && d) ≡ false → (not a || not b || not c || not d) ≡ true
any_of false b c d some = refl
any_of true false c d some = refl
any_of true true false d some = refl
any_of true true true false some = refl
any_of true true true true some = cc

is_some : (n : ℕ) → nat_lt 0 n ≡ not (n == 0)
is_some zero = refl
is_some (suc n) = grind (arith, nat_tests)

attributes : (a b c d : ℕ) → (a == 0 && b == 0 && c == 0 && d == 0) ≡ false → (nat_lt 0 a || nat_lt 0 b || nat_lt 0 c || nat_lt 0 d) ≡ true
attributes a b c d some = rw (is_some a, is_some b, is_some c, is_some d) (any_of (a == 0) (b == 0) (c == 0) (d == 0) some)

-- ---- the finished route

over_ok : (body : Data) (base : BaseValue) (links : Links) (before : Route) → AreIds links → AreFields before → route_violations base links (route_over body links before) ≡ [] → IsValidRoute (route_over body links before)
unfolding text_in texts_in integer_in
over_ok body base links before ids old none =
    let after = route_over body links before in
    let told = neither (violation_if (is_missing links.service (old_as route_of base)) (codes "service") Required) (violation_if (fits_nothing after) (codes "paths") Required) none in
    let headers = list_over_ok AreOrdered (tests_at body) before.headers (tests_ok body) old.headers in
    let priority = unwrapped_ok IsPriority (integer_at (neg_ℤ (pos 1000000)) (pos 1000000) (codes "regex_priority") body) before.regex_priority (integer_ok (neg_ℤ (pos 1000000)) (pos 1000000) (codes "regex_priority") body) old.priority in
    record {
      id = old.id;
      service = unwrapped_ok IsId links.service before.service ids.service old.service;
      name = or_ok IsName (text_at text_kind.Name (codes "name") body) before.name (text_ok text_kind.Name is_name takes_name (codes "name") body) old.name;
      methods = list_over_ok (IsListOf is_method) (texts_at text_kind.Method (codes "methods") body) before.methods (texts_ok text_kind.Method is_method takes_method (codes "methods") body) old.methods;
      hosts = list_over_ok (IsListOf is_stored_route_host) (texts_at text_kind.RouteHost (codes "hosts") body) before.hosts (texts_ok text_kind.RouteHost is_stored_route_host takes_route_host (codes "hosts") body) old.hosts;
      paths = list_over_ok (IsListOf is_route_path) (texts_at text_kind.RoutePath (codes "paths") body) before.paths (texts_ok text_kind.RoutePath is_route_path takes_route_path (codes "paths") body) old.paths;
      headers = headers.valid;
      ordered = headers.ordered;
      low = priority.0;
      high = priority.1;
      attributes = attributes (length after.methods) (length after.hosts) (length after.headers) (length after.paths) (not_broken (fits_nothing after) (codes "paths") Required told.1);
    }

pub route_ok : (body : Data) (base : BaseValue) (links : Links) → HasId base → AreIds links → IsValidBase kind.Route base
    → route_violations base links (route_over body links (route_before base (stamps_of base body))) ≡ []
    → IsValidRoute (route_over body links (route_before base (stamps_of base body)))
route_ok body base links is ids ok none =
    over_ok body base links (route_before base (stamps_of base body)) ids (before_ok base (stamps_of base body) (stamps_ok kind.Route body base is ok) ok) none
