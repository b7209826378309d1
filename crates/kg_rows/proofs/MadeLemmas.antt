-- The kind and the id of a row that a body makes.
use Rattle.std.proofs.Common.{◌≡◌, ℕ, Option, None, Some, refl, ◌∙◌}
use Rattle.serde_json.specs.Data.{Data}
use Rattle.kg_row_types.specs.Entities.{kind_of, id_of_row}
use Rattle.kg_row_types.specs.declared.entity.Entity.{Entity}
use Rattle.kg_row_types.specs.declared.entity.Entity.TheVariants as row
use Rattle.kg_row_types.specs.declared.entity.Kind.{Kind}
use Rattle.kg_row_types.specs.declared.entity.Kind.TheVariants as kind
use Rattle.kg_row_types.specs.declared.service.Service.{Service}
use Rattle.kg_row_making.specs.Bases.{BaseValue, Again, Old, stamps_of}
use Rattle.kg_row_making.specs.RowsBefore.{acl_before, basic_before, consumer_before, key_before, plugin_before, route_before, service_before}
use Rattle.kg_schema.specs.Finished.{address_over, row_over}
use Rattle.kg_bodies.specs.Settings.{url_at}
use Rattle.kg_row_making.specs.declared.base.Links.{Links}
use Rattle.kg_field_rules.specs.declared.url.Url.{Url}

pub kind_over : (of_kind : Kind) (body : Data) (base : BaseValue) (links : Links) → kind_of (row_over of_kind body base links) ≡ of_kind
unfolding row_over
kind_over kind.Service body base links = refl
kind_over kind.Route body base links = refl
kind_over kind.Consumer body base links = refl
kind_over kind.KeyCred body base links = refl
kind_over kind.BasicCred body base links = refl
kind_over kind.Acl body base links = refl
kind_over kind.Plugin body base links = refl

address_id : (url : Option Url) (body : Data) (before : Service) → (address_over url body before).id ≡ before.id
address_id None body before = refl
address_id (Some url) body before = refl

-- ---- over an old row

service_id : (old : Entity) (body : Data) (now : ℕ) → (service_before (Old old now) (stamps_of (Old old now) body)).id ≡ id_of_row old
service_id (row.Service old) body now = refl
service_id (row.Route old) body now = refl
service_id (row.Consumer old) body now = refl
service_id (row.KeyCred old) body now = refl
service_id (row.BasicCred old) body now = refl
service_id (row.Acl old) body now = refl
service_id (row.Plugin old) body now = refl

route_id : (old : Entity) (body : Data) (now : ℕ) → (route_before (Old old now) (stamps_of (Old old now) body)).id ≡ id_of_row old
route_id (row.Service old) body now = refl
route_id (row.Route old) body now = refl
route_id (row.Consumer old) body now = refl
route_id (row.KeyCred old) body now = refl
route_id (row.BasicCred old) body now = refl
route_id (row.Acl old) body now = refl
route_id (row.Plugin old) body now = refl

consumer_id : (old : Entity) (body : Data) (now : ℕ) → (consumer_before (Old old now) (stamps_of (Old old now) body)).id ≡ id_of_row old
consumer_id (row.Service old) body now = refl
consumer_id (row.Route old) body now = refl
consumer_id (row.Consumer old) body now = refl
consumer_id (row.KeyCred old) body now = refl
consumer_id (row.BasicCred old) body now = refl
consumer_id (row.Acl old) body now = refl
consumer_id (row.Plugin old) body now = refl

key_id : (old : Entity) (body : Data) (now : ℕ) → (key_before (Old old now) (stamps_of (Old old now) body)).id ≡ id_of_row old
key_id (row.Service old) body now = refl
key_id (row.Route old) body now = refl
key_id (row.Consumer old) body now = refl
key_id (row.KeyCred old) body now = refl
key_id (row.BasicCred old) body now = refl
key_id (row.Acl old) body now = refl
key_id (row.Plugin old) body now = refl

basic_id : (old : Entity) (body : Data) (now : ℕ) → (basic_before (Old old now) (stamps_of (Old old now) body)).id ≡ id_of_row old
basic_id (row.Service old) body now = refl
basic_id (row.Route old) body now = refl
basic_id (row.Consumer old) body now = refl
basic_id (row.KeyCred old) body now = refl
basic_id (row.BasicCred old) body now = refl
basic_id (row.Acl old) body now = refl
basic_id (row.Plugin old) body now = refl

acl_id : (old : Entity) (body : Data) (now : ℕ) → (acl_before (Old old now) (stamps_of (Old old now) body)).id ≡ id_of_row old
acl_id (row.Service old) body now = refl
acl_id (row.Route old) body now = refl
acl_id (row.Consumer old) body now = refl
acl_id (row.KeyCred old) body now = refl
acl_id (row.BasicCred old) body now = refl
acl_id (row.Acl old) body now = refl
acl_id (row.Plugin old) body now = refl

plugin_id : (old : Entity) (body : Data) (now : ℕ) → (plugin_before (Old old now) (stamps_of (Old old now) body) body).id ≡ id_of_row old
plugin_id (row.Service old) body now = refl
plugin_id (row.Route old) body now = refl
plugin_id (row.Consumer old) body now = refl
plugin_id (row.KeyCred old) body now = refl
plugin_id (row.BasicCred old) body now = refl
plugin_id (row.Acl old) body now = refl
plugin_id (row.Plugin old) body now = refl

pub id_over_old : (of_kind : Kind) (body : Data) (old : Entity) (now : ℕ) (links : Links) → id_of_row (row_over of_kind body (Old old now) links) ≡ id_of_row old
unfolding row_over
id_over_old kind.Service body old now links = address_id (url_at body) body (service_before (Old old now) (stamps_of (Old old now) body)) ∙ service_id old body now
id_over_old kind.Route body old now links = route_id old body now
id_over_old kind.Consumer body old now links = consumer_id old body now
id_over_old kind.KeyCred body old now links = key_id old body now
id_over_old kind.BasicCred body old now links = basic_id old body now
id_over_old kind.Acl body old now links = acl_id old body now
id_over_old kind.Plugin body old now links = plugin_id old body now

-- ---- made again

pub id_over_again : (of_kind : Kind) (body : Data) (id created_at now : ℕ) (links : Links) → id_of_row (row_over of_kind body (Again id created_at now) links) ≡ id
unfolding row_over
id_over_again kind.Service body id created_at now links = address_id (url_at body) body (service_before (Again id created_at now) (stamps_of (Again id created_at now) body))
id_over_again kind.Route body id created_at now links = refl
id_over_again kind.Consumer body id created_at now links = refl
id_over_again kind.KeyCred body id created_at now links = refl
id_over_again kind.BasicCred body id created_at now links = refl
id_over_again kind.Acl body id created_at now links = refl
id_over_again kind.Plugin body id created_at now links = refl
