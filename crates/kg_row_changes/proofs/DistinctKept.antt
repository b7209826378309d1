-- Consistent commands leave to one row what only one may have.
use Rattle.std.proofs.Common.{◌≡◌, ℕ, ◌==◌, nat_eq, true, false, not, ◌&&◌, List, [], ◌∷◌, ◌++◌, codes, map, Option, Some, None, is_none, option_map, refl, sym, ap₂, true≢false}
use Rattle.std.specs.List.{IsDistinct, filter_map}
use Rattle.std.specs.Option.{option_or}
use Rattle.std.specs.Str.{bytes_eq}
use Rattle.kg_row_types.specs.Entities.{kind_of, id_of_row}
use Rattle.kg_row_types.specs.PluginNames.{plugin_of, plugin_text}
use Rattle.kg_row_types.specs.RowChanges.{has_row}
use Rattle.kg_row_types.specs.RowLists.{RowLists}
use Rattle.kg_row_types.specs.Tables.{replaced}
use Rattle.kg_row_types.specs.ValidRows.{HasDistinctRows, same_id, same_membership, same_name_and_scope}
use Rattle.kg_row_types.specs.declared.consumer.AclRow.{AclRow}
use Rattle.kg_row_types.specs.declared.consumer.BasicCred.{BasicCred}
use Rattle.kg_row_types.specs.declared.consumer.Consumer.{Consumer}
use Rattle.kg_row_types.specs.declared.consumer.KeyCred.{KeyCred}
use Rattle.kg_row_types.specs.declared.entity.Entity.{Entity}
use Rattle.kg_row_types.specs.declared.entity.Entity.TheVariants as row
use Rattle.kg_row_types.specs.declared.entity.Kind.TheVariants as kind
use Rattle.kg_row_types.specs.declared.plugin.PluginRow.{PluginRow}
use Rattle.kg_row_types.specs.declared.route.Route.{Route}
use Rattle.kg_row_types.specs.declared.service.Service.{Service}
use Rattle.kg_row_changes.proofs.DistinctLemmas.{both_first, both_second, bytes_flip, distinct_filter, ids_filter, ids_push, ids_replaced, key_filter, key_push, key_replaced, number_flips, text_filter, text_push, text_replaced, untrue, whole_push, whole_replaced}
use Rattle.kg_row_changes.proofs.EachKind.{EachKind, Fewer, Said, deleted_each, with_services, with_routes, with_consumers, with_key_creds, with_basic_creds, with_acls, with_plugins}
use Rattle.kg_row_changes.specs.Allowed.{has_named_rows, is_consistent, is_unique}
use Rattle.kg_row_changes.specs.Claims.{first_taken, holder, id_holder, text_holder}
use Rattle.kg_row_values.specs.Rows.{changed}
use Rattle.kg_row_values.specs.declared.command.Command.{Command}
use Rattle.kg_row_values.specs.declared.command.Command.TheVariants.{Insert, Update, Delete}

-- ---- rows that are alike in either order

membership_flips : (a b : AclRow) → same_membership a b ≡ same_membership b a
membership_flips a b = ap₂ (λ p q. p && q) (number_flips a.consumer b.consumer) (bytes_flip a.group b.group)

id_flips : (a b : Option ℕ) → same_id a b ≡ same_id b a
id_flips None None = refl
id_flips None (Some b) = refl
id_flips (Some a) None = refl
id_flips (Some a) (Some b) = number_flips a b

place_flips : (a b : PluginRow) → same_name_and_scope a b ≡ same_name_and_scope b a
place_flips a b =
    ap₂ (λ p q. p && q) (bytes_flip (plugin_text (plugin_of a.config)) (plugin_text (plugin_of b.config)))
    (ap₂ (λ p q. p && q) (ap₂ (λ p q. p && q) (id_flips a.scope.service b.scope.service) (id_flips a.scope.route b.scope.route)) (id_flips a.scope.consumer b.scope.consumer))

-- ---- claims

-- where nothing is taken, none of the claims has a holder
not_taken : (claim : List ℕ × Option ℕ) (later : List (List ℕ × Option ℕ)) → is_none (first_taken (claim ∷ later)) ≡ true → (claim.1 ≡ None) × (is_none (first_taken later) ≡ true)
not_taken claim later free =
    (elim claim.1 as (λ o. is_none (option_or (option_map (λ id. (claim.0, id)) o) (first_taken later)) ≡ true → (o ≡ None) × (is_none (first_taken later) ≡ true)) [
      | None ↦ λ rest. (refl, rest)
      | Some id ↦ λ wrong. absurd (true≢false (sym wrong))
    ]) free

first_free : (a : List ℕ × Option ℕ) (later : List (List ℕ × Option ℕ)) → is_none (first_taken (a ∷ later)) ≡ true → a.1 ≡ None
first_free a later free = (not_taken a later free).0

second_free : (a b : List ℕ × Option ℕ) (later : List (List ℕ × Option ℕ)) → is_none (first_taken (a ∷ b ∷ later)) ≡ true → b.1 ≡ None
second_free a b later free = first_free b later (not_taken a (b ∷ later) free).1

third_free : (a b c : List ℕ × Option ℕ) (later : List (List ℕ × Option ℕ)) → is_none (first_taken (a ∷ b ∷ c ∷ later)) ≡ true → c.1 ≡ None
third_free a b c later free = second_free b c later (not_taken a (b ∷ c ∷ later) free).1

-- ---- commands

-- no two rows of a kind share what only one of them may have
abbrev distinct_rows : Said
distinct_rows = record {
  services = λ rows. IsDistinct nat_eq (map (λ r. r.id) rows) × IsDistinct bytes_eq (filter_map (λ r. r.name) rows);
  routes = λ rows. IsDistinct nat_eq (map (λ r. r.id) rows) × IsDistinct bytes_eq (filter_map (λ r. r.name) rows);
  consumers = λ rows. IsDistinct nat_eq (map (λ r. r.id) rows) × IsDistinct bytes_eq (filter_map (λ r. r.username) rows) × IsDistinct bytes_eq (filter_map (λ r. r.custom_id) rows);
  key_creds = λ rows. IsDistinct nat_eq (map (λ r. r.id) rows) × IsDistinct bytes_eq (map (λ r. r.key) rows);
  basic_creds = λ rows. IsDistinct nat_eq (map (λ r. r.id) rows) × IsDistinct bytes_eq (map (λ r. r.username) rows);
  acls = λ rows. IsDistinct nat_eq (map (λ r. r.id) rows) × IsDistinct same_membership rows;
  plugins = λ rows. IsDistinct nat_eq (map (λ r. r.id) rows) × IsDistinct same_name_and_scope rows;
}

distinct_fewer : Fewer distinct_rows
distinct_fewer = record {
  services = λ p rows all. (ids_filter (λ r. r.id) p rows all.0, text_filter (λ r. r.id) (λ r. r.name) p rows all.1);
  routes = λ p rows all. (ids_filter (λ r. r.id) p rows all.0, text_filter (λ r. r.id) (λ r. r.name) p rows all.1);
  consumers = λ p rows all. (ids_filter (λ r. r.id) p rows all.0, text_filter (λ r. r.id) (λ r. r.username) p rows all.1, text_filter (λ r. r.id) (λ r. r.custom_id) p rows all.2);
  key_creds = λ p rows all. (ids_filter (λ r. r.id) p rows all.0, key_filter (λ r. r.id) (λ r. r.key) p rows all.1);
  basic_creds = λ p rows all. (ids_filter (λ r. r.id) p rows all.0, key_filter (λ r. r.id) (λ r. r.username) p rows all.1);
  acls = λ p rows all. (ids_filter (λ r. r.id) p rows all.0, distinct_filter same_membership p rows all.1);
  plugins = λ p rows all. (ids_filter (λ r. r.id) p rows all.0, distinct_filter same_name_and_scope p rows all.1);
}

module _ (rows : RowLists) (distinct : HasDistinctRows rows) where
  free_service_names : (new : Service) → is_unique (row.Service new) rows ≡ true → text_holder {X = Service} (λ other. other.id) (λ other. other.name) (Some new.id) new.name rows.services ≡ None
  free_service_names new free =
      second_free (codes "id", id_holder kind.Service new.id (Some new.id) rows) (codes "name", text_holder {X = Service} (λ other. other.id) (λ other. other.name) (Some new.id) new.name rows.services) ([]) free

  free_route_names : (new : Route) → is_unique (row.Route new) rows ≡ true → text_holder {X = Route} (λ other. other.id) (λ other. other.name) (Some new.id) new.name rows.routes ≡ None
  free_route_names new free =
      second_free (codes "id", id_holder kind.Route new.id (Some new.id) rows) (codes "name", text_holder {X = Route} (λ other. other.id) (λ other. other.name) (Some new.id) new.name rows.routes) ([]) free

  free_usernames : (new : Consumer) → is_unique (row.Consumer new) rows ≡ true → text_holder {X = Consumer} (λ other. other.id) (λ other. other.username) (Some new.id) new.username rows.consumers ≡ None
  free_usernames new free =
      third_free (codes "custom_id", text_holder {X = Consumer} (λ other. other.id) (λ other. other.custom_id) (Some new.id) new.custom_id rows.consumers) (codes "id", id_holder kind.Consumer new.id (Some new.id) rows) (codes "username", text_holder {X = Consumer} (λ other. other.id) (λ other. other.username) (Some new.id) new.username rows.consumers) [] free

  free_custom_ids : (new : Consumer) → is_unique (row.Consumer new) rows ≡ true → text_holder {X = Consumer} (λ other. other.id) (λ other. other.custom_id) (Some new.id) new.custom_id rows.consumers ≡ None
  free_custom_ids new free =
      first_free (codes "custom_id", text_holder {X = Consumer} (λ other. other.id) (λ other. other.custom_id) (Some new.id) new.custom_id rows.consumers) ((codes "id", id_holder kind.Consumer new.id (Some new.id) rows) ∷ (codes "username", text_holder {X = Consumer} (λ other. other.id) (λ other. other.username) (Some new.id) new.username rows.consumers) ∷ []) free

  free_keys : (new : KeyCred) → is_unique (row.KeyCred new) rows ≡ true → holder {X = KeyCred} (λ other. other.id) (Some new.id) (λ other. bytes_eq other.key new.key) rows.key_creds ≡ None
  free_keys new free =
      second_free (codes "id", id_holder kind.KeyCred new.id (Some new.id) rows) (codes "key", holder {X = KeyCred} (λ other. other.id) (Some new.id) (λ other. bytes_eq other.key new.key) rows.key_creds) ([]) free

  free_basic_usernames : (new : BasicCred) → is_unique (row.BasicCred new) rows ≡ true → holder {X = BasicCred} (λ other. other.id) (Some new.id) (λ other. bytes_eq other.username new.username) rows.basic_creds ≡ None
  free_basic_usernames new free =
      second_free (codes "id", id_holder kind.BasicCred new.id (Some new.id) rows) (codes "username", holder {X = BasicCred} (λ other. other.id) (Some new.id) (λ other. bytes_eq other.username new.username) rows.basic_creds) ([]) free

  free_memberships : (new : AclRow) → is_unique (row.Acl new) rows ≡ true → holder {X = AclRow} (λ other. other.id) (Some new.id) (λ other. same_membership other new) rows.acls ≡ None
  free_memberships new free =
      first_free (codes "group", holder {X = AclRow} (λ other. other.id) (Some new.id) (λ other. same_membership other new) rows.acls) ((codes "id", id_holder kind.Acl new.id (Some new.id) rows) ∷ []) free

  free_places : (new : PluginRow) → is_unique (row.Plugin new) rows ≡ true → holder {X = PluginRow} (λ other. other.id) (Some new.id) (λ other. same_name_and_scope other new) rows.plugins ≡ None
  free_places new free =
      second_free (codes "id", id_holder kind.Plugin new.id (Some new.id) rows) (codes "name", holder {X = PluginRow} (λ other. other.id) (Some new.id) (λ other. same_name_and_scope other new) rows.plugins) ([]) free

  abbrev Distinct : RowLists → Type 0
  Distinct later = EachKind distinct_rows later

  before : Distinct rows
  before = (
    (distinct.ids.services, distinct.service_names),
    (distinct.ids.routes, distinct.route_names),
    (distinct.ids.consumers, distinct.usernames, distinct.custom_ids),
    (distinct.ids.key_creds, distinct.keys),
    (distinct.ids.basic_creds, distinct.basic_usernames),
    (distinct.ids.acls, distinct.memberships),
    (distinct.ids.plugins, distinct.places),
  )

  inserted_distinct : (new : Entity) → has_row (kind_of new) (id_of_row new) rows ≡ false → is_unique new rows ≡ true → Distinct (changed (Insert new) rows)
  inserted_distinct (row.Service new) fresh free =
      with_services distinct_rows rows before (rows.services ++ new ∷ []) (
        ids_push {X = Service} (λ r. r.id) new rows.services fresh distinct.ids.services,
        text_push {X = Service} (λ r. r.id) (λ r. r.name) new rows.services fresh (free_service_names new free) distinct.service_names,
      )
  inserted_distinct (row.Route new) fresh free =
      with_routes distinct_rows rows before (rows.routes ++ new ∷ []) (
        ids_push {X = Route} (λ r. r.id) new rows.routes fresh distinct.ids.routes,
        text_push {X = Route} (λ r. r.id) (λ r. r.name) new rows.routes fresh (free_route_names new free) distinct.route_names,
      )
  inserted_distinct (row.Consumer new) fresh free =
      with_consumers distinct_rows rows before (rows.consumers ++ new ∷ []) (
        ids_push {X = Consumer} (λ r. r.id) new rows.consumers fresh distinct.ids.consumers,
        text_push {X = Consumer} (λ r. r.id) (λ r. r.username) new rows.consumers fresh (free_usernames new free) distinct.usernames,
        text_push {X = Consumer} (λ r. r.id) (λ r. r.custom_id) new rows.consumers fresh (free_custom_ids new free) distinct.custom_ids,
      )
  inserted_distinct (row.KeyCred new) fresh free =
      with_key_creds distinct_rows rows before (rows.key_creds ++ new ∷ []) (
        ids_push {X = KeyCred} (λ r. r.id) new rows.key_creds fresh distinct.ids.key_creds,
        key_push {X = KeyCred} (λ r. r.id) (λ r. r.key) new rows.key_creds fresh (free_keys new free) distinct.keys,
      )
  inserted_distinct (row.BasicCred new) fresh free =
      with_basic_creds distinct_rows rows before (rows.basic_creds ++ new ∷ []) (
        ids_push {X = BasicCred} (λ r. r.id) new rows.basic_creds fresh distinct.ids.basic_creds,
        key_push {X = BasicCred} (λ r. r.id) (λ r. r.username) new rows.basic_creds fresh (free_basic_usernames new free) distinct.basic_usernames,
      )
  inserted_distinct (row.Acl new) fresh free =
      with_acls distinct_rows rows before (rows.acls ++ new ∷ []) (
        ids_push {X = AclRow} (λ r. r.id) new rows.acls fresh distinct.ids.acls,
        whole_push {X = AclRow} (λ r. r.id) same_membership membership_flips new rows.acls fresh (free_memberships new free) distinct.memberships,
      )
  inserted_distinct (row.Plugin new) fresh free =
      with_plugins distinct_rows rows before (rows.plugins ++ new ∷ []) (
        ids_push {X = PluginRow} (λ r. r.id) new rows.plugins fresh distinct.ids.plugins,
        whole_push {X = PluginRow} (λ r. r.id) same_name_and_scope place_flips new rows.plugins fresh (free_places new free) distinct.places,
      )

  updated_distinct : (new : Entity) → is_unique new rows ≡ true → Distinct (changed (Update new) rows)
  updated_distinct (row.Service new) free =
      with_services distinct_rows rows before (replaced (λ r. r.id == new.id) new rows.services) (
        ids_replaced {X = Service} (λ r. r.id) new rows.services distinct.ids.services,
        text_replaced {X = Service} (λ r. r.id) (λ r. r.name) new rows.services distinct.ids.services (free_service_names new free) distinct.service_names,
      )
  updated_distinct (row.Route new) free =
      with_routes distinct_rows rows before (replaced (λ r. r.id == new.id) new rows.routes) (
        ids_replaced {X = Route} (λ r. r.id) new rows.routes distinct.ids.routes,
        text_replaced {X = Route} (λ r. r.id) (λ r. r.name) new rows.routes distinct.ids.routes (free_route_names new free) distinct.route_names,
      )
  updated_distinct (row.Consumer new) free =
      with_consumers distinct_rows rows before (replaced (λ r. r.id == new.id) new rows.consumers) (
        ids_replaced {X = Consumer} (λ r. r.id) new rows.consumers distinct.ids.consumers,
        text_replaced {X = Consumer} (λ r. r.id) (λ r. r.username) new rows.consumers distinct.ids.consumers (free_usernames new free) distinct.usernames,
        text_replaced {X = Consumer} (λ r. r.id) (λ r. r.custom_id) new rows.consumers distinct.ids.consumers (free_custom_ids new free) distinct.custom_ids,
      )
  updated_distinct (row.KeyCred new) free =
      with_key_creds distinct_rows rows before (replaced (λ r. r.id == new.id) new rows.key_creds) (
        ids_replaced {X = KeyCred} (λ r. r.id) new rows.key_creds distinct.ids.key_creds,
        key_replaced {X = KeyCred} (λ r. r.id) (λ r. r.key) new rows.key_creds distinct.ids.key_creds (free_keys new free) distinct.keys,
      )
  updated_distinct (row.BasicCred new) free =
      with_basic_creds distinct_rows rows before (replaced (λ r. r.id == new.id) new rows.basic_creds) (
        ids_replaced {X = BasicCred} (λ r. r.id) new rows.basic_creds distinct.ids.basic_creds,
        key_replaced {X = BasicCred} (λ r. r.id) (λ r. r.username) new rows.basic_creds distinct.ids.basic_creds (free_basic_usernames new free) distinct.basic_usernames,
      )
  updated_distinct (row.Acl new) free =
      with_acls distinct_rows rows before (replaced (λ r. r.id == new.id) new rows.acls) (
        ids_replaced {X = AclRow} (λ r. r.id) new rows.acls distinct.ids.acls,
        whole_replaced {X = AclRow} (λ r. r.id) same_membership membership_flips new rows.acls distinct.ids.acls (free_memberships new free) distinct.memberships,
      )
  updated_distinct (row.Plugin new) free =
      with_plugins distinct_rows rows before (replaced (λ r. r.id == new.id) new rows.plugins) (
        ids_replaced {X = PluginRow} (λ r. r.id) new rows.plugins distinct.ids.plugins,
        whole_replaced {X = PluginRow} (λ r. r.id) same_name_and_scope place_flips new rows.plugins distinct.ids.plugins (free_places new free) distinct.places,
      )

  each_distinct : (done : Command) → is_consistent rows done ≡ true → Distinct (changed done rows)
  each_distinct (Insert new) consistent =
      let fresh = not (has_row (kind_of new) (id_of_row new) rows) in
      inserted_distinct new (untrue _ (both_first fresh (has_named_rows new rows) (both_first (fresh && has_named_rows new rows) (is_unique new rows) consistent)))
      (both_second (fresh && has_named_rows new rows) (is_unique new rows) consistent)
  each_distinct (Update new) consistent =
      updated_distinct new (both_second (has_row (kind_of new) (id_of_row new) rows && has_named_rows new rows) (is_unique new rows) consistent)
  each_distinct (Delete of_kind id) consistent = deleted_each distinct_rows distinct_fewer rows before of_kind id

  pub changed_distinct : (done : Command) → is_consistent rows done ≡ true → HasDistinctRows (changed done rows)
  changed_distinct done consistent =
      let each = each_distinct done consistent in
      record {
        ids = record { services = each.0.0; routes = each.1.0; consumers = each.2.0; key_creds = each.3.0; basic_creds = each.4.0; acls = each.5.0; plugins = each.6.0 };
        service_names = each.0.1;
        route_names = each.1.1;
        usernames = each.2.1;
        custom_ids = each.2.2;
        keys = each.3.1;
        basic_usernames = each.4.1;
        memberships = each.5.1;
        places = each.6.1;
      }
