-- Commands that put valid rows keep the rows valid.
use Rattle.std.proofs.Common.{◌==◌, Bool, true, false, cond, List, [], ◌∷◌, ◌++◌, All}
use Rattle.std.proofs.lemmas.List.Elements.{All-cons, All-filter, All-head, All-push, All-tail}
use Rattle.kg_row_types.specs.RowLists.{RowLists}
use Rattle.kg_row_types.specs.Tables.{replaced}
use Rattle.kg_row_types.specs.ValidRows.{AreValidRows, IsValidAcl, IsValidBasicCred, IsValidConsumer, IsValidKeyCred, IsValidPlugin, IsValidRoute, IsValidRow, IsValidService}
use Rattle.kg_row_types.specs.declared.entity.Entity.{Entity}
use Rattle.kg_row_types.specs.declared.entity.Entity.TheVariants as row
use Rattle.kg_row_changes.proofs.EachKind.{EachKind, Fewer, Said, deleted_each, with_services, with_routes, with_consumers, with_key_creds, with_basic_creds, with_acls, with_plugins}
use Rattle.kg_row_changes.specs.ValidCommands.{IsValidCommand}
use Rattle.kg_row_values.specs.Rows.{changed}
use Rattle.kg_row_values.specs.declared.command.Command.{Command}
use Rattle.kg_row_values.specs.declared.command.Command.TheVariants.{Insert, Update, Delete}

-- a member that is replaced by one of which the same is said
pub all_replaced : {X : Type 0} (P : X → Type 0) (which : X → Bool) (new : X) → P new → (xs : List X) → All P xs → All P (replaced which new xs)
all_replaced P which new holds [] all = all
all_replaced {X} P which new holds (x ∷ xs) all =
    (elim (which x) as (λ b. All P (cond {A = List X} b (new ∷ xs) (x ∷ replaced which new xs))) [
      | true ↦ All-cons P new xs holds (All-tail P x xs all)
      | false ↦ All-cons P x (replaced which new xs) (All-head P x xs all) (all_replaced P which new holds xs (All-tail P x xs all))
    ])

-- each row is valid
abbrev valid_rows : Said
valid_rows = record {
  services = All IsValidService;
  routes = All IsValidRoute;
  consumers = All IsValidConsumer;
  key_creds = All IsValidKeyCred;
  basic_creds = All IsValidBasicCred;
  acls = All IsValidAcl;
  plugins = All IsValidPlugin;
}

valid_fewer : Fewer valid_rows
valid_fewer = record {
  services = λ p rows all. All-filter p IsValidService rows all;
  routes = λ p rows all. All-filter p IsValidRoute rows all;
  consumers = λ p rows all. All-filter p IsValidConsumer rows all;
  key_creds = λ p rows all. All-filter p IsValidKeyCred rows all;
  basic_creds = λ p rows all. All-filter p IsValidBasicCred rows all;
  acls = λ p rows all. All-filter p IsValidAcl rows all;
  plugins = λ p rows all. All-filter p IsValidPlugin rows all;
}

module _ (rows : RowLists) (valid : AreValidRows rows) where
  abbrev Valid : RowLists → Type 0
  Valid later = EachKind valid_rows later

  before : Valid rows
  before = (valid.services, valid.routes, valid.consumers, valid.key_creds, valid.basic_creds, valid.acls, valid.plugins)

  inserted_valid : (new : Entity) → IsValidRow new → Valid (changed (Insert new) rows)
  inserted_valid (row.Service new) ok = with_services valid_rows rows before (rows.services ++ new ∷ []) (All-push IsValidService rows.services new valid.services ok)
  inserted_valid (row.Route new) ok = with_routes valid_rows rows before (rows.routes ++ new ∷ []) (All-push IsValidRoute rows.routes new valid.routes ok)
  inserted_valid (row.Consumer new) ok = with_consumers valid_rows rows before (rows.consumers ++ new ∷ []) (All-push IsValidConsumer rows.consumers new valid.consumers ok)
  inserted_valid (row.KeyCred new) ok = with_key_creds valid_rows rows before (rows.key_creds ++ new ∷ []) (All-push IsValidKeyCred rows.key_creds new valid.key_creds ok)
  inserted_valid (row.BasicCred new) ok = with_basic_creds valid_rows rows before (rows.basic_creds ++ new ∷ []) (All-push IsValidBasicCred rows.basic_creds new valid.basic_creds ok)
  inserted_valid (row.Acl new) ok = with_acls valid_rows rows before (rows.acls ++ new ∷ []) (All-push IsValidAcl rows.acls new valid.acls ok)
  inserted_valid (row.Plugin new) ok = with_plugins valid_rows rows before (rows.plugins ++ new ∷ []) (All-push IsValidPlugin rows.plugins new valid.plugins ok)

  updated_valid : (new : Entity) → IsValidRow new → Valid (changed (Update new) rows)
  updated_valid (row.Service new) ok =
      with_services valid_rows rows before (replaced (λ r. r.id == new.id) new rows.services) (all_replaced IsValidService (λ r. r.id == new.id) new ok rows.services valid.services)
  updated_valid (row.Route new) ok =
      with_routes valid_rows rows before (replaced (λ r. r.id == new.id) new rows.routes) (all_replaced IsValidRoute (λ r. r.id == new.id) new ok rows.routes valid.routes)
  updated_valid (row.Consumer new) ok =
      with_consumers valid_rows rows before (replaced (λ r. r.id == new.id) new rows.consumers) (all_replaced IsValidConsumer (λ r. r.id == new.id) new ok rows.consumers valid.consumers)
  updated_valid (row.KeyCred new) ok =
      with_key_creds valid_rows rows before (replaced (λ r. r.id == new.id) new rows.key_creds) (all_replaced IsValidKeyCred (λ r. r.id == new.id) new ok rows.key_creds valid.key_creds)
  updated_valid (row.BasicCred new) ok =
      with_basic_creds valid_rows rows before (replaced (λ r. r.id == new.id) new rows.basic_creds) (all_replaced IsValidBasicCred (λ r. r.id == new.id) new ok rows.basic_creds valid.basic_creds)
  updated_valid (row.Acl new) ok =
      with_acls valid_rows rows before (replaced (λ r. r.id == new.id) new rows.acls) (all_replaced IsValidAcl (λ r. r.id == new.id) new ok rows.acls valid.acls)
  updated_valid (row.Plugin new) ok =
      with_plugins valid_rows rows before (replaced (λ r. r.id == new.id) new rows.plugins) (all_replaced IsValidPlugin (λ r. r.id == new.id) new ok rows.plugins valid.plugins)

  each_valid : (done : Command) → IsValidCommand done → Valid (changed done rows)
  each_valid (Insert new) ok = inserted_valid new ok
  each_valid (Update new) ok = updated_valid new ok
  each_valid (Delete of_kind id) ok = deleted_each valid_rows valid_fewer rows before of_kind id

  pub changed_valid : (done : Command) → IsValidCommand done → AreValidRows (changed done rows)
  changed_valid done ok =
      let each = each_valid done ok in
      record { services = each.0; routes = each.1; consumers = each.2; key_creds = each.3; basic_creds = each.4; acls = each.5; plugins = each.6 }
