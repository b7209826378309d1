-- What a body is finished over: a row that isn't there yet, or an old row (Kong Admin API: POST makes a
-- row, PUT makes or replaces one, PATCH changes one).
use Rattle.std.specs.Prelude.{ℕ, ◌/◌, List, Option, Some, None, unwrap_or, option_map}
use Rattle.serde_json.specs.Data.{Data}
use Rattle.kg_row_types.specs.Entities.{id_of_row}
use Rattle.kg_row_types.specs.PluginNames.{plugin_of}
use Rattle.kg_row_types.specs.declared.consumer.AclRow.{AclRow}
use Rattle.kg_row_types.specs.declared.consumer.BasicCred.{BasicCred}
use Rattle.kg_row_types.specs.declared.consumer.Consumer.{Consumer}
use Rattle.kg_row_types.specs.declared.consumer.KeyCred.{KeyCred}
use Rattle.kg_row_types.specs.declared.entity.Entity.{Entity}
use Rattle.kg_row_types.specs.declared.entity.Entity.TheVariants as row
use Rattle.kg_row_types.specs.declared.plugin.PluginName.{PluginName}
use Rattle.kg_row_types.specs.declared.plugin.PluginRow.{PluginRow}
use Rattle.kg_row_types.specs.declared.route.Route.{Route}
use Rattle.kg_row_types.specs.declared.service.Service.{Service}
use Rattle.kg_bodies.specs.Settings.{id_at}
use Rattle.kg_row_making.specs.declared.base.Base.{Base}
use Rattle.kg_row_making.specs.declared.base.Base.TheVariants as of_base
use Rattle.kg_row_making.specs.declared.base.Stamps.{Stamps}

-- a new row with an id for it; a row that is made again, or by its id; a row that is made by its word;
-- an old row. The clock is in milliseconds, a row's times are in seconds.
pub data BaseValue : Type 0 where
  New : ℕ → ℕ → BaseValue
  Again : ℕ → ℕ → ℕ → BaseValue
  Word : ℕ → List ℕ → ℕ → BaseValue
  Old : Entity → ℕ → BaseValue

abbrev pub base_of : Base → BaseValue
base_of (of_base.New id now) = New id now
base_of (of_base.Again id created_at now) = Again id created_at now
base_of (of_base.Word id word now) = Word id word.now now
base_of (of_base.Old old now) = Old old.now now

-- the word by which the row is made
abbrev pub given_word : BaseValue → Option (List ℕ)
given_word (New id now) = None
given_word (Again id created_at now) = None
given_word (Word id word now) = Some word
given_word (Old old now) = None

-- ---- the old row, by its kind

abbrev pub service_of : Entity → Option Service
service_of (row.Service old) = Some old
service_of _ = None

abbrev pub route_of : Entity → Option Route
route_of (row.Route old) = Some old
route_of _ = None

abbrev pub consumer_of : Entity → Option Consumer
consumer_of (row.Consumer old) = Some old
consumer_of _ = None

abbrev pub key_of : Entity → Option KeyCred
key_of (row.KeyCred old) = Some old
key_of _ = None

abbrev pub basic_of : Entity → Option BasicCred
basic_of (row.BasicCred old) = Some old
basic_of _ = None

abbrev pub acl_of : Entity → Option AclRow
acl_of (row.Acl old) = Some old
acl_of _ = None

abbrev pub plugin_row_of : Entity → Option PluginRow
plugin_row_of (row.Plugin old) = Some old
plugin_row_of _ = None

-- the old row as what a reading makes of it
abbrev pub old_as : {R : Type 0} → (Entity → Option R) → BaseValue → Option R
old_as as_kind (New id now) = None
old_as as_kind (Again id created_at now) = None
old_as as_kind (Word id word now) = None
old_as as_kind (Old old now) = as_kind old

-- the consumer of the old credential or membership
abbrev pub key_owner : BaseValue → Option ℕ
key_owner base = option_map (λ old. old.consumer) (old_as key_of base)

abbrev pub basic_owner : BaseValue → Option ℕ
basic_owner base = option_map (λ old. old.consumer) (old_as basic_of base)

abbrev pub acl_owner : BaseValue → Option ℕ
acl_owner base = option_map (λ old. old.consumer) (old_as acl_of base)

-- the plugin of the old row
abbrev pub old_plugin : BaseValue → Option PluginName
old_plugin base = option_map (λ old. plugin_of old.config) (old_as plugin_row_of base)

-- ---- ids and times

-- the time at which a row was made, in seconds
abbrev pub made_at : Entity → ℕ
made_at (row.Service old) = old.created_at
made_at (row.Route old) = old.created_at
made_at (row.Consumer old) = old.created_at
made_at (row.KeyCred old) = old.created_at
made_at (row.BasicCred old) = old.created_at
made_at (row.Acl old) = old.created_at
made_at (row.Plugin old) = old.created_at

-- the id that the row has whatever the body says
abbrev pub fixed_id : BaseValue → Option ℕ
fixed_id (New id now) = None
fixed_id (Again id created_at now) = Some id
fixed_id (Word id word now) = None
fixed_id (Old old now) = Some (id_of_row old)

-- the id and the times of the finished row: where it is new, the body may name its id
abbrev pub stamps_of : BaseValue → Data → Stamps
stamps_of (New id now) body = record { id = unwrap_or (id_at body) id; created_at = now / 1000; updated_at = now / 1000 }
stamps_of (Again id created_at now) body = record { id = id; created_at = created_at; updated_at = now / 1000 }
stamps_of (Word id word now) body = record { id = unwrap_or (id_at body) id; created_at = now / 1000; updated_at = now / 1000 }
stamps_of (Old old now) body = record { id = id_of_row old; created_at = made_at old; updated_at = now / 1000 }
