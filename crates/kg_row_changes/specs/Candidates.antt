-- Machinery for proofs: keys whose values a command may change, more than those that it does, with repeats.
use Rattle.std.specs.Prelude.{ℕ, ◌==◌, List, [], ◌∷◌, ◌++◌, filter, Option, Some, None}
use Rattle.std.specs.List.{flat_map}
use Rattle.kg_row_types.specs.Entities.{kind_of, id_of_row}
use Rattle.kg_row_types.specs.Ids.{printed}
use Rattle.kg_row_types.specs.RowLists.{RowLists}
use Rattle.kg_row_types.specs.declared.consumer.AclRow.{AclRow}
use Rattle.kg_row_types.specs.declared.consumer.BasicCred.{BasicCred}
use Rattle.kg_row_types.specs.declared.consumer.Consumer.{Consumer as ConsumerRow}
use Rattle.kg_row_types.specs.declared.consumer.KeyCred.{KeyCred}
use Rattle.kg_row_types.specs.declared.entity.Entity.{Entity}
use Rattle.kg_row_types.specs.declared.entity.Entity.TheVariants as row
use Rattle.kg_row_types.specs.declared.entity.Kind.{Kind}
use Rattle.kg_row_types.specs.declared.entity.Kind.TheVariants as kind
use Rattle.kg_row_types.specs.declared.key.Key.{Key}
use Rattle.kg_row_types.specs.declared.key.Key.TheVariants.{Cred, Basic, Consumer, Named, Acls}
use Rattle.kg_row_values.specs.declared.command.Command.{Command}
use Rattle.kg_row_values.specs.declared.command.Command.TheVariants.{Insert, Update, Delete}

-- ---- the keys that look at one row

abbrev pub username_keys : Option (List ℕ) → List Key
username_keys None = []
username_keys (Some name) = Named name ∷ []

abbrev pub consumer_keys : ConsumerRow → List Key
consumer_keys consumer = Consumer consumer.id ∷ Named (printed consumer.id) ∷ username_keys consumer.username

abbrev pub cred_keys : KeyCred → List Key
cred_keys cred = Cred cred.key ∷ []

abbrev pub basic_keys : BasicCred → List Key
basic_keys cred = Basic cred.username ∷ []

abbrev pub acl_keys : AclRow → List Key
acl_keys membership = Acls membership.consumer ∷ []

abbrev pub keys_of : Entity → List Key
keys_of (row.Service service) = []
keys_of (row.Route route) = []
keys_of (row.Consumer consumer) = consumer_keys consumer
keys_of (row.KeyCred cred) = cred_keys cred
keys_of (row.BasicCred cred) = basic_keys cred
keys_of (row.Acl membership) = acl_keys membership
keys_of (row.Plugin plugin) = []

-- ---- the keys that look at rows of an id, or of a consumer

abbrev pub keys_of_id : Kind → ℕ → RowLists → List Key
keys_of_id kind.Service id rows = []
keys_of_id kind.Route id rows = []
keys_of_id kind.Consumer id rows = flat_map consumer_keys (filter (λ row. row.id == id) rows.consumers)
keys_of_id kind.KeyCred id rows = flat_map cred_keys (filter (λ row. row.id == id) rows.key_creds)
keys_of_id kind.BasicCred id rows = flat_map basic_keys (filter (λ row. row.id == id) rows.basic_creds)
keys_of_id kind.Acl id rows = flat_map acl_keys (filter (λ row. row.id == id) rows.acls)
keys_of_id kind.Plugin id rows = []

abbrev pub keys_of_credentials : ℕ → RowLists → List Key
keys_of_credentials id rows =
    flat_map cred_keys (filter (λ row. row.consumer == id) rows.key_creds)
    ++ flat_map basic_keys (filter (λ row. row.consumer == id) rows.basic_creds)
    ++ Acls id ∷ []

-- ---- the candidates of a command

-- the keys that look at what can't stand without a row
abbrev pub keys_below : Kind → ℕ → RowLists → List Key
keys_below kind.Consumer id rows = keys_of_credentials id rows
keys_below _ id rows = []

abbrev pub candidates : Command → RowLists → List Key
candidates (Insert new) rows = keys_of new
candidates (Update new) rows = keys_of_id (kind_of new) (id_of_row new) rows ++ keys_of new
candidates (Delete kind id) rows = keys_of_id kind id rows ++ keys_below kind id rows
