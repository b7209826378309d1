-- The rows of a declaration in the order in which they are inserted: kind by kind, and in a kind first
-- those of the declaration's own list, then those that are nested in other rows, by their parents' order
-- (Kong Gateway manual, declarative configuration; the order is this project's own).
use Rattle.std.specs.Prelude.{ℕ, ◌+◌, List, [], ◌∷◌, ◌++◌, fold, length, map, Option, Some, None, unwrap_or, is_none, codes, if◌then◌else◌}
use Rattle.std.specs.Str.{bytes_eq}
use Rattle.serde_json.specs.Data.{Members, no_members, member}
use Rattle.kg_row_types.specs.declared.entity.Kind.{Kind}
use Rattle.kg_row_types.specs.declared.entity.Kind.TheVariants as kind
use Rattle.kg_declared_rows.specs.Violations.{rows_at}
use Rattle.kg_declared_rows.specs.declared.declared.Above.{Above}

-- a row of the declaration: the one under which it stands, its members, and the names of those of its nested
-- lists that aren't lists of objects
pub record Row : Type 0 where
  pub kind : Kind
  pub parent : Option Above
  pub members : Members
  pub wrong : List (List ℕ)

abbrev pub row_of : Kind → Option Above → Members → Row
row_of kind parent members = record { kind = kind; parent = parent; members = members; wrong = [] }

-- the rows of the declaration's own list of this name
abbrev pub listed : Kind → List ℕ → Members → List Row
listed kind name declaration = map (row_of kind None) (unwrap_or (rows_at name declaration) [])

-- the rows that are nested under this name in the row with this number
abbrev pub nested_in : Kind → List ℕ → ℕ → Row → List Row
nested_in kind name number row =
    map (row_of kind (Some (record { kind = row.kind; number = number }))) (unwrap_or (rows_at name row.members) [])

-- those of all these rows, the first of which has this number
abbrev pub nested : ℕ → Kind → List ℕ → List Row → List Row
nested first kind name [] = []
nested first kind name (row ∷ rows) = nested_in kind name first row ++ nested (first + 1) kind name rows

-- the members without the one of this name
abbrev pub without : List ℕ → Members → Members
without name no_members = no_members
without name (member other value rest) =
    if bytes_eq name other then rest else member other value (without name rest)

-- the row without its nested list of this name
abbrev pub stripped : List ℕ → Row → Row
stripped name row = record {
  kind = row.kind;
  parent = row.parent;
  members = without name row.members;
  wrong = row.wrong ++ (if is_none (rows_at name row.members) then name ∷ [] else []);
}

-- the rows without these nested lists
abbrev pub alone : List (List ℕ) → List Row → List Row
alone names rows = fold (λ rows name. map (stripped name) rows) rows names

abbrev pub services : Members → List Row
services declaration = listed kind.Service (codes "services") declaration

abbrev pub routes : Members → List Row
routes declaration =
    listed kind.Route (codes "routes") declaration ++ nested 0 kind.Route (codes "routes") (services declaration)

abbrev pub consumers : Members → List Row
consumers declaration = listed kind.Consumer (codes "consumers") declaration

-- the number of the first route, and of the first consumer
abbrev pub first_route : Members → ℕ
first_route declaration = length (services declaration)

abbrev pub first_consumer : Members → ℕ
first_consumer declaration = length (services declaration) + length (routes declaration)

-- the credentials and groups of a kind, under this name in the declaration and in consumers
abbrev pub owned : Kind → List ℕ → Members → List Row
owned kind name declaration =
    listed kind name declaration ++ nested (first_consumer declaration) kind name (consumers declaration)

abbrev pub plugins : Members → List Row
plugins declaration =
    listed kind.Plugin (codes "plugins") declaration
    ++ nested 0 kind.Plugin (codes "plugins") (services declaration)
    ++ nested (first_route declaration) kind.Plugin (codes "plugins") (routes declaration)
    ++ nested (first_consumer declaration) kind.Plugin (codes "plugins") (consumers declaration)

-- all rows in their order, each without its nested lists
unfoldable pub rows_of : Members → List Row
rows_of declaration =
    alone (codes "routes" ∷ codes "plugins" ∷ []) (services declaration)
    ++ alone (codes "plugins" ∷ []) (routes declaration)
    ++ alone (codes "keyauth_credentials" ∷ codes "basicauth_credentials" ∷ codes "acls" ∷ codes "plugins" ∷ []) (consumers declaration)
    ++ owned kind.KeyCred (codes "keyauth_credentials") declaration
    ++ owned kind.BasicCred (codes "basicauth_credentials") declaration
    ++ owned kind.Acl (codes "acls") declaration
    ++ plugins declaration
