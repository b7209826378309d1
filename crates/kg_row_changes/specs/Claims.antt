-- What only one row may have, and which other row has it: the id of each kind, the names of services
-- and routes, usernames and custom ids, keys, a group of a consumer, a plugin in a scope (Kong Admin API,
-- unique constraints). Disabled rows count.
use Rattle.std.specs.Prelude.{ℕ, Bool, ◌&&◌, List, [], ◌∷◌, find, codes, Option, Some, None, option_map, option_and_then, if◌then◌else◌}
use Rattle.std.specs.Option.{option_or}
use Rattle.std.specs.Str.{bytes_eq}
use Rattle.kg_row_types.specs.Lookups.{is_text}
use Rattle.kg_row_types.specs.RowChanges.{has_row}
use Rattle.kg_row_types.specs.RowLists.{RowLists}
use Rattle.kg_row_types.specs.ValidRows.{same_membership, same_name_and_scope}
use Rattle.kg_row_types.specs.declared.entity.Entity.{Entity}
use Rattle.kg_row_types.specs.declared.entity.Entity.TheVariants as row
use Rattle.kg_row_types.specs.declared.entity.Kind.{Kind}
use Rattle.kg_row_types.specs.declared.entity.Kind.TheVariants as kind
use Rattle.kg_tables.specs.Others.{is_other}

-- ---- the row that has something

-- the id of the first other row that passes
abbrev pub holder : {X : Type 0} → (X → ℕ) → Option ℕ → (X → Bool) → List X → Option ℕ
holder number replaced test rows = option_map number (find (λ other. is_other replaced (number other) && test other) rows)

-- the same for a text that may be unset
abbrev pub text_holder : {X : Type 0} → (X → ℕ) → (X → Option (List ℕ)) → Option ℕ → Option (List ℕ) → List X → Option ℕ
text_holder number field replaced set rows = option_and_then (λ text. holder number replaced (λ other. is_text text (field other)) rows) set

-- the same for the id of a row
abbrev pub id_holder : Kind → ℕ → Option ℕ → RowLists → Option ℕ
id_holder kind id replaced rows = if is_other replaced id && has_row kind id rows then Some id else None

-- ---- the fields of a kind

-- what only one row may have, with the id of another row that has it: the fields in byte order
abbrev pub claims : Entity → Option ℕ → RowLists → List (List ℕ × Option ℕ)
claims (row.Service service) replaced rows =
    (codes "id", id_holder kind.Service service.id replaced rows)
    ∷ (codes "name", text_holder (λ other. other.id) (λ other. other.name) replaced service.name rows.services)
    ∷ []
claims (row.Route route) replaced rows =
    (codes "id", id_holder kind.Route route.id replaced rows)
    ∷ (codes "name", text_holder (λ other. other.id) (λ other. other.name) replaced route.name rows.routes)
    ∷ []
claims (row.Consumer consumer) replaced rows =
    (codes "custom_id", text_holder (λ other. other.id) (λ other. other.custom_id) replaced consumer.custom_id rows.consumers)
    ∷ (codes "id", id_holder kind.Consumer consumer.id replaced rows)
    ∷ (codes "username", text_holder (λ other. other.id) (λ other. other.username) replaced consumer.username rows.consumers)
    ∷ []
claims (row.KeyCred cred) replaced rows =
    (codes "id", id_holder kind.KeyCred cred.id replaced rows)
    ∷ (codes "key", holder (λ other. other.id) replaced (λ other. bytes_eq other.key cred.key) rows.key_creds)
    ∷ []
claims (row.BasicCred cred) replaced rows =
    (codes "id", id_holder kind.BasicCred cred.id replaced rows)
    ∷ (codes "username", holder (λ other. other.id) replaced (λ other. bytes_eq other.username cred.username) rows.basic_creds)
    ∷ []
claims (row.Acl membership) replaced rows =
    (codes "group", holder (λ other. other.id) replaced (λ other. same_membership other membership) rows.acls)
    ∷ (codes "id", id_holder kind.Acl membership.id replaced rows)
    ∷ []
claims (row.Plugin plugin) replaced rows =
    (codes "id", id_holder kind.Plugin plugin.id replaced rows)
    ∷ (codes "name", holder (λ other. other.id) replaced (λ other. same_name_and_scope other plugin) rows.plugins)
    ∷ []

-- the first that another row has
abbrev pub first_taken : List (List ℕ × Option ℕ) → Option (List ℕ × ℕ)
first_taken [] = None
first_taken (claim ∷ later) = option_or (option_map (λ id. (claim.0, id)) claim.1) (first_taken later)

-- the first field, in byte order, that another row than the replaced one has
abbrev pub claimed : Entity → Option ℕ → RowLists → Option (List ℕ × ℕ)
claimed new replaced rows = first_taken (claims new replaced rows)
