-- Machinery for proofs: the rows of a declaration as the code keeps them.
use Rattle.std.specs.Prelude.{◌≡◌, ℕ, ◌+◌, Bool, true, false, List, [], ◌∷◌, ◌++◌, length, map, Option, Some, None, codes}
use Rattle.serde_json.specs.Data.{Members}
use Rattle.serde_json.specs.View.{members_view}
use Rattle.kg_row_types.specs.declared.entity.Kind.TheVariants as kind
use Rattle.kg_declared_rows.specs.Rows.{Row, listed, nested, stripped}
use Rattle.kg_declared_rows.specs.declared.declared.Declared.{Declared}
use Rattle.kg_declared_rows.specs.declared.declared.Lists.{Lists}

abbrev pub seen : Declared → Row
seen row = record {
  kind = row.kind;
  parent = row.parent;
  members = members_view row.members.entries;
  wrong = map (λ name. name.now) row.wrong.items;
}

abbrev pub seen_all : List Declared → List Row
seen_all rows = map seen rows

-- the members of an object stand behind the others, and another value adds none: which of both, it tells
abbrev pub AddsObject : Option Members → List Members → List Members → Bool → Type 0
AddsObject (Some members) before after told = (told ≡ true) × (after ≡ before ++ members ∷ [])
AddsObject None before after told = told ≡ false

-- the number of the first consumer
abbrev pub consumers_begin : Lists → ℕ
consumers_begin lists = length lists.services.items + length lists.routes.items

-- the lists are the declaration's own
pub record AreListed (declaration : Members) (lists : Lists) : Type 0 where
  pub services : seen_all lists.services.items ≡ listed kind.Service (codes "services") declaration
  pub routes : seen_all lists.routes.items ≡ listed kind.Route (codes "routes") declaration
  pub consumers : seen_all lists.consumers.items ≡ listed kind.Consumer (codes "consumers") declaration
  pub keys : seen_all lists.keys.items ≡ listed kind.KeyCred (codes "keyauth_credentials") declaration
  pub logins : seen_all lists.logins.items ≡ listed kind.BasicCred (codes "basicauth_credentials") declaration
  pub acls : seen_all lists.acls.items ≡ listed kind.Acl (codes "acls") declaration
  pub plugins : seen_all lists.plugins.items ≡ listed kind.Plugin (codes "plugins") declaration

-- the routes of services, and the credentials and groups of consumers, were moved to their lists
pub record HaveNested (before after : Lists) : Type 0 where
  pub services : seen_all after.services.items ≡ map (stripped (codes "routes")) (seen_all before.services.items)
  pub routes : seen_all after.routes.items
      ≡ seen_all before.routes.items ++ nested 0 kind.Route (codes "routes") (seen_all before.services.items)
  pub consumers : seen_all after.consumers.items ≡ map (stripped (codes "acls")) (map (stripped (codes "basicauth_credentials")) (map (stripped (codes "keyauth_credentials")) (seen_all before.consumers.items)))
  pub keys : seen_all after.keys.items
      ≡ seen_all before.keys.items ++ nested (consumers_begin after) kind.KeyCred (codes "keyauth_credentials") (seen_all before.consumers.items)
  pub logins : seen_all after.logins.items
      ≡ seen_all before.logins.items ++ nested (consumers_begin after) kind.BasicCred (codes "basicauth_credentials") (seen_all before.consumers.items)
  pub acls : seen_all after.acls.items
      ≡ seen_all before.acls.items ++ nested (consumers_begin after) kind.Acl (codes "acls") (seen_all before.consumers.items)
  pub plugins : seen_all after.plugins.items ≡ seen_all before.plugins.items

-- the plugins of services, routes and consumers were moved to their list
pub record HaveNestedPlugins (before after : Lists) : Type 0 where
  pub services : seen_all after.services.items ≡ map (stripped (codes "plugins")) (seen_all before.services.items)
  pub routes : seen_all after.routes.items ≡ map (stripped (codes "plugins")) (seen_all before.routes.items)
  pub consumers : seen_all after.consumers.items ≡ map (stripped (codes "plugins")) (seen_all before.consumers.items)
  pub keys : seen_all after.keys.items ≡ seen_all before.keys.items
  pub logins : seen_all after.logins.items ≡ seen_all before.logins.items
  pub acls : seen_all after.acls.items ≡ seen_all before.acls.items
  pub plugins : seen_all after.plugins.items
      ≡ seen_all before.plugins.items ++ nested 0 kind.Plugin (codes "plugins") (seen_all before.services.items)
      ++ nested (length before.services.items) kind.Plugin (codes "plugins") (seen_all before.routes.items)
      ++ nested (consumers_begin before) kind.Plugin (codes "plugins") (seen_all before.consumers.items)

-- all lists, one behind another
abbrev pub joined : Lists → List Row
joined lists =
    seen_all lists.services.items ++ seen_all lists.routes.items ++ seen_all lists.consumers.items
    ++ seen_all lists.keys.items ++ seen_all lists.logins.items ++ seen_all lists.acls.items ++ seen_all lists.plugins.items
