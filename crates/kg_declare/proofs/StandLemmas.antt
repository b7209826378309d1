-- Each row of a declaration stands under a row of a kind under which its own kind can stand.
use Rattle.std.proofs.Common.{ℕ, ◌+◌, List, [], ◌∷◌, map, All, Option, Some, None, unwrap_or, option_map, option_and_then, slice_get, codes, IsTrue, IfSome, refl}
use Rattle.std.proofs.lemmas.List.Elements.{All-append, All-cons, All-head, All-map, All-nil, All-tail}
use Rattle.serde_json.specs.Data.{Members}
use Rattle.kg_row_values.specs.declared.command.Command.{Command}
use Rattle.kg_row_types.specs.declared.entity.Kind.{Kind}
use Rattle.kg_row_types.specs.declared.entity.Kind.TheVariants as kind
use Rattle.kg_rows.specs.Decision.{CanStandUnder, nests}
use Rattle.kg_row_queries.specs.declared.select.Select.TheVariants.{Id}
use Rattle.kg_declared_rows.specs.Violations.{rows_at}
use Rattle.kg_declare.specs.Outcome.{inserted_id, parent_of}
use Rattle.kg_declared_rows.specs.Rows.{Row, alone, consumers, listed, first_consumer, first_route, nested, nested_in, owned, plugins, routes, row_of, rows_of, services, stripped}
use Rattle.kg_declare.specs.Inserting.{Stands}
use Rattle.kg_declared_rows.specs.declared.declared.Above.{Above}

each : {X : Type 0} (P : X → Type 0) → ((x : X) → P x) → (xs : List X) → All P xs
each P holds [] = All-nil P
each P holds (x ∷ xs) = All-cons P x xs (holds x) (each P holds xs)

-- ---- the kinds of rows

-- a row under which rows of the kind can stand
abbrev Bears : Kind → Row → Type 0
Bears lower row = IsTrue (nests row.kind lower)

listed_bear : (upper lower : Kind) (name : List ℕ) (declaration : Members) → IsTrue (nests upper lower) → All (Bears lower) (listed upper name declaration)
listed_bear upper lower name declaration fits =
    All-map (Bears lower) (row_of upper None) (unwrap_or (rows_at name declaration) [])
    (each (λ members. Bears lower (row_of upper None members)) (λ members. fits) (unwrap_or (rows_at name declaration) []))

nested_in_bear : (upper lower : Kind) (name : List ℕ) (number : ℕ) (row : Row) → IsTrue (nests upper lower)
    → All (Bears lower) (nested_in upper name number row)
nested_in_bear upper lower name number row fits =
    All-map (Bears lower) (row_of upper (Some (record { kind = row.kind; number = number }))) (unwrap_or (rows_at name row.members) [])
    (each (λ members. Bears lower (row_of upper (Some (record { kind = row.kind; number = number })) members)) (λ members. fits) (unwrap_or (rows_at name row.members) []))

nested_bear : (index : ℕ) (upper lower : Kind) (name : List ℕ) (rows : List Row) → IsTrue (nests upper lower)
    → All (Bears lower) (nested index upper name rows)
nested_bear index upper lower name [] fits = All-nil (Bears lower)
nested_bear index upper lower name (row ∷ rows) fits =
    All-append (Bears lower) (nested_in upper name index row) (nested (index + 1) upper name rows)
    (nested_in_bear upper lower name index row fits) (nested_bear (index + 1) upper lower name rows fits)

-- ---- rows under rows

listed_stand : (of_kind : Kind) (name : List ℕ) (declaration : Members) → All Stands (listed of_kind name declaration)
listed_stand of_kind name declaration =
    All-map Stands (row_of of_kind None) (unwrap_or (rows_at name declaration) [])
    (each (λ members. Stands (row_of of_kind None members)) (λ members. tt) (unwrap_or (rows_at name declaration) []))

nested_in_stand : (of_kind : Kind) (name : List ℕ) (index : ℕ) (row : Row) → Bears of_kind row → All Stands (nested_in of_kind name index row)
nested_in_stand of_kind name index row fits =
    All-map Stands (row_of of_kind (Some (record { kind = row.kind; number = index }))) (unwrap_or (rows_at name row.members) [])
    (each (λ members. Stands (row_of of_kind (Some (record { kind = row.kind; number = index })) members)) (λ members. fits) (unwrap_or (rows_at name row.members) []))

nested_stand : (index : ℕ) (of_kind : Kind) (name : List ℕ) (rows : List Row) → All (Bears of_kind) rows → All Stands (nested index of_kind name rows)
nested_stand index of_kind name [] fit = All-nil Stands
nested_stand index of_kind name (row ∷ rows) fit =
    All-append Stands (nested_in of_kind name index row) (nested (index + 1) of_kind name rows)
    (nested_in_stand of_kind name index row (All-head (Bears of_kind) row rows fit))
    (nested_stand (index + 1) of_kind name rows (All-tail (Bears of_kind) row rows fit))

alone_stand : (names : List (List ℕ)) (rows : List Row) → All Stands rows → All Stands (alone names rows)
alone_stand [] rows all = all
alone_stand (name ∷ names) rows all = alone_stand names (map (stripped name) rows) (All-map Stands (stripped name) rows all)

-- ---- all rows

routes_stand : (declaration : Members) → All Stands (routes declaration)
routes_stand declaration =
    All-append Stands (listed kind.Route (codes "routes") declaration) (nested 0 kind.Route (codes "routes") (services declaration))
    (listed_stand kind.Route (codes "routes") declaration)
    (nested_stand 0 kind.Route (codes "routes") (services declaration) (listed_bear kind.Service kind.Route (codes "services") declaration refl))

routes_bear : (declaration : Members) → All (Bears kind.Plugin) (routes declaration)
routes_bear declaration =
    All-append (Bears kind.Plugin) (listed kind.Route (codes "routes") declaration) (nested 0 kind.Route (codes "routes") (services declaration))
    (listed_bear kind.Route kind.Plugin (codes "routes") declaration refl)
    (nested_bear 0 kind.Route kind.Plugin (codes "routes") (services declaration) refl)

owned_stand : (of_kind : Kind) (name : List ℕ) (declaration : Members) → IsTrue (nests kind.Consumer of_kind) → All Stands (owned of_kind name declaration)
owned_stand of_kind name declaration fits =
    All-append Stands (listed of_kind name declaration) (nested (first_consumer declaration) of_kind name (consumers declaration))
    (listed_stand of_kind name declaration)
    (nested_stand (first_consumer declaration) of_kind name (consumers declaration) (listed_bear kind.Consumer of_kind (codes "consumers") declaration fits))

plugins_stand : (declaration : Members) → All Stands (plugins declaration)
plugins_stand declaration =
    All-append Stands _ _
    (All-append Stands _ _
    (All-append Stands _ _
    (listed_stand kind.Plugin (codes "plugins") declaration)
    (nested_stand 0 kind.Plugin (codes "plugins") (services declaration) (listed_bear kind.Service kind.Plugin (codes "services") declaration refl)))
    (nested_stand (first_route declaration) kind.Plugin (codes "plugins") (routes declaration) (routes_bear declaration)))
    (nested_stand (first_consumer declaration) kind.Plugin (codes "plugins") (consumers declaration) (listed_bear kind.Consumer kind.Plugin (codes "consumers") declaration refl))

pub rows_stand : (declaration : Members) → All Stands (rows_of declaration)
unfolding rows_of
rows_stand declaration =
    All-append Stands _ _
    (All-append Stands _ _
    (All-append Stands _ _
    (All-append Stands _ _
    (All-append Stands _ _
    (All-append Stands _ _
    (alone_stand (codes "routes" ∷ codes "plugins" ∷ []) (services declaration) (listed_stand kind.Service (codes "services") declaration))
    (alone_stand (codes "plugins" ∷ []) (routes declaration) (routes_stand declaration)))
    (alone_stand (codes "keyauth_credentials" ∷ codes "basicauth_credentials" ∷ codes "acls" ∷ codes "plugins" ∷ []) (consumers declaration) (listed_stand kind.Consumer (codes "consumers") declaration)))
    (owned_stand kind.KeyCred (codes "keyauth_credentials") declaration refl))
    (owned_stand kind.BasicCred (codes "basicauth_credentials") declaration refl))
    (owned_stand kind.Acl (codes "acls") declaration refl))
    (plugins_stand declaration)

-- ---- the parent of a draft

under_it : (of_kind : Kind) (above : Above) (id : Option ℕ) → IsTrue (nests above.kind of_kind)
    → CanStandUnder of_kind (option_map (λ id. record { kind = above.kind; select = Id id }) id)
under_it of_kind above (Some id) fits = fits
under_it of_kind above None fits = tt

pub can_stand : (commands : List Command) (row : Row) → Stands row → CanStandUnder row.kind (parent_of commands row.parent)
can_stand commands row fits = at_row row.parent fits
  where
    at_row : (parent : Option Above) → IfSome parent (λ above. IsTrue (nests above.kind row.kind)) → CanStandUnder row.kind (parent_of commands parent)
    at_row None fits = tt
    at_row (Some above) fits = under_it row.kind above (option_and_then inserted_id (slice_get commands above.number)) fits
