-- A shown row is a body that makes the row again.
use Rattle.std.specs.Prelude.{◌≡◌, ℕ, ◌/◌, [], Some, None}
use Rattle.kg_row_types.specs.Entities.{id_of_row, kind_of}
use Rattle.kg_row_types.specs.StoredPassword.{stored_password}
use Rattle.kg_row_types.specs.ValidRows.{IsValidAcl, IsValidBasicCred, IsValidConsumer, IsValidKeyCred, IsValidPlugin, IsValidRoute, IsValidService}
use Rattle.kg_row_types.specs.declared.consumer.AclRow.{AclRow}
use Rattle.kg_row_types.specs.declared.consumer.BasicCred.{BasicCred}
use Rattle.kg_row_types.specs.declared.consumer.Consumer.{Consumer}
use Rattle.kg_row_types.specs.declared.consumer.KeyCred.{KeyCred}
use Rattle.kg_row_types.specs.declared.entity.Entity.{Entity}
use Rattle.kg_row_types.specs.declared.entity.Entity.TheVariants as row
use Rattle.kg_row_types.specs.declared.entity.Kind.TheVariants as kind
use Rattle.kg_row_types.specs.declared.plugin.PluginRow.{PluginRow}
use Rattle.kg_row_types.specs.declared.route.Route.{Route}
use Rattle.kg_row_types.specs.declared.service.Service.{Service}
use Rattle.kg_field_tables.specs.BrokenRules.{field_violations}
use Rattle.kg_row_making.specs.Bases.{Again, made_at}
use Rattle.kg_row_making.specs.declared.base.Links.{Links}
use Rattle.kg_schema.specs.Finished.{row_over}
use Rattle.kg_shown_rows.specs.Shown.{shown}

-- the rows that a row names
abbrev pub named_by : Entity → Links
named_by (row.Service old) = record { service = None; route = None; consumer = None }
named_by (row.Route old) = record { service = Some old.service; route = None; consumer = None }
named_by (row.Consumer old) = record { service = None; route = None; consumer = None }
named_by (row.KeyCred old) = record { service = None; route = None; consumer = Some old.consumer }
named_by (row.BasicCred old) = record { service = None; route = None; consumer = Some old.consumer }
named_by (row.Acl old) = record { service = None; route = None; consumer = Some old.consumer }
named_by (row.Plugin old) = record { service = old.scope.service; route = old.scope.route; consumer = old.scope.consumer }

-- the row with another time of its last change, where it has one
abbrev pub changed_at : ℕ → Entity → Entity
changed_at seconds (row.Service old) = row.Service (record old { updated_at = seconds })
changed_at seconds (row.Route old) = row.Route (record old { updated_at = seconds })
changed_at seconds (row.Consumer old) = row.Consumer (record old { updated_at = seconds })
changed_at seconds other = other

-- as shown, the row breaks no rule of a field, and its body makes it again
pub record IsReadBack (old : Entity) : Type 0 where
  pub accepted : field_violations (kind_of old) (shown old) ≡ []
  pub again : (now : ℕ) → row_over (kind_of old) (shown old) (Again (id_of_row old) (made_at old) now) (named_by old) ≡ changed_at (now / 1000) old

-- as shown, a credential with a password breaks no rule of a field, and its body makes it again but for what
-- is stored of the password: that is shown in the password's place, and so it is read as a password
pub record IsReadBackButPassword (old : BasicCred) : Type 0 where
  pub accepted : field_violations kind.BasicCred (shown (row.BasicCred old)) ≡ []
  pub again : (now : ℕ) → row_over kind.BasicCred (shown (row.BasicCred old)) (Again old.id old.created_at now) (named_by (row.BasicCred old)) ≡ row.BasicCred (record old { hash = stored_password old.consumer old.hash })

-- each row is read back, where it is valid
pub record ReadsBackRows : Type 0 where
  pub services : (service : Service) → IsValidService service → IsReadBack (row.Service service)
  pub routes : (route : Route) → IsValidRoute route → IsReadBack (row.Route route)
  pub consumers : (consumer : Consumer) → IsValidConsumer consumer → IsReadBack (row.Consumer consumer)
  pub keys : (credential : KeyCred) → IsValidKeyCred credential → IsReadBack (row.KeyCred credential)
  pub basic_credentials : (credential : BasicCred) → IsValidBasicCred credential → IsReadBackButPassword credential
  pub memberships : (membership : AclRow) → IsValidAcl membership → IsReadBack (row.Acl membership)
  pub plugins : (plugin : PluginRow) → IsValidPlugin plugin → IsReadBack (row.Plugin plugin)
