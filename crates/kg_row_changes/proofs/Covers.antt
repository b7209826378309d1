-- The candidates of a command cover what it changes: a key that is none of them keeps its value.
use Rattle.std.proofs.Common.{◌≡◌, ℕ, Bool, true, false, cond, ◌||◌, ◌==◌, List, [], ◌∷◌, ◌++◌, Option, None, Some, filter, find, map, refl, sym, ap, ◌∙◌, ap₂, unwrap_or, option_and_then, if◌then◌else◌}
use Rattle.std.proofs.lemmas.Bool.{eqb-true}
use Rattle.std.specs.List.{list_any, flat_map}
use Rattle.std.specs.Option.{option_or}
use Rattle.std.specs.Str.{bytes_eq}
use Rattle.kg_row_types.specs.Ids.{id_of, printed}
use Rattle.kg_row_types.specs.Lookups.{is_text, printed_id_of, named, consumer_with_username}
use Rattle.kg_row_types.specs.RowLists.{RowLists}
use Rattle.kg_row_types.specs.declared.consumer.AclRow.{AclRow}
use Rattle.kg_row_types.specs.declared.consumer.BasicCred.{BasicCred}
use Rattle.kg_row_types.specs.declared.consumer.Consumer.{Consumer as ConsumerRow}
use Rattle.kg_row_types.specs.declared.consumer.KeyCred.{KeyCred}
use Rattle.kg_row_types.specs.declared.entity.Entity.TheVariants as row
use Rattle.kg_row_types.specs.declared.entity.Kind.TheVariants as kind
use Rattle.kg_row_types.specs.declared.key.Key.{Key}
use Rattle.kg_row_types.specs.declared.key.Key.TheVariants.{Cred, Basic, Consumer, Named, Acls}
use Rattle.kg_row_types.specs.declared.value.Value.TheVariants as value
use Rattle.kg_row_values.specs.ByteOrder.{in_byte_order}
use Rattle.kg_row_changes.specs.Candidates.{candidates, keys_of_id, keys_of_credentials, consumer_keys, username_keys, cred_keys, basic_keys, acl_keys}
use Rattle.kg_row_values.specs.Rows.{changed}
use Rattle.kg_row_values.specs.Values.{value_of}
use Rattle.kg_row_values.specs.declared.command.Command.{Command}
use Rattle.kg_row_values.specs.declared.command.Command.TheVariants.{Insert, Update, Delete}
use Rattle.kg_row_values.proofs.Searches.{or_left, or_right, filter_past_push, filter_past_filter, filter_past_replaced, find_by_filter, none_of_all, none_of_front, none_of_back}

-- the key is this one
abbrev pub same_key : Key → Key → Bool
same_key (Cred t) (Cred u) = bytes_eq u t
same_key (Basic t) (Basic u) = bytes_eq u t
same_key (Consumer i) (Consumer j) = j == i
same_key (Named t) (Named u) = bytes_eq u t
same_key (Acls i) (Acls j) = j == i
same_key _ _ = false

-- ---- each list, at the rows that pass a test of which the keys tell

module _ (q : Key → Bool) (p : KeyCred → Bool) (covers : (c : KeyCred) → list_any q (cred_keys c) ≡ false → p c ≡ false) where
  kept_creds : (command : Command) (rows : RowLists) → list_any q (candidates command rows) ≡ false → filter p (changed command rows).key_creds ≡ filter p rows.key_creds
  kept_creds (Insert (row.KeyCred new)) rows none = filter_past_push p new (covers new none) rows.key_creds
  kept_creds (Update (row.KeyCred new)) rows none =
      let old = filter (λ r. r.id == new.id) rows.key_creds in
      filter_past_replaced p (λ r. r.id == new.id) new (covers new (none_of_back q (flat_map cred_keys old) (cred_keys new) none)) rows.key_creds
      (none_of_all q cred_keys p covers old (none_of_front q (flat_map cred_keys old) (cred_keys new) none))
  kept_creds (Delete kind.KeyCred id) rows none =
      let old = filter (λ r. r.id == id) rows.key_creds in
      filter_past_filter p (λ r. r.id == id) rows.key_creds
      (none_of_all q cred_keys p covers old (none_of_front q (flat_map cred_keys old) [] none))
  kept_creds (Delete kind.Consumer id) rows none =
      let old = filter (λ r. r.consumer == id) rows.key_creds in
      let basics = flat_map basic_keys (filter (λ r. r.consumer == id) rows.basic_creds) in
      filter_past_filter p (λ r. r.consumer == id) rows.key_creds
      (none_of_all q cred_keys p covers old
      (none_of_front q (flat_map cred_keys old) basics
      (none_of_front q (flat_map cred_keys old ++ basics) (Acls id ∷ [])
      (none_of_back q (keys_of_id kind.Consumer id rows) (keys_of_credentials id rows) none))))
  kept_creds (Delete _ id) rows none = refl
  kept_creds (Insert _) rows none = refl
  kept_creds (Update _) rows none = refl

module _ (q : Key → Bool) (p : BasicCred → Bool) (covers : (c : BasicCred) → list_any q (basic_keys c) ≡ false → p c ≡ false) where
  kept_basics : (command : Command) (rows : RowLists) → list_any q (candidates command rows) ≡ false → filter p (changed command rows).basic_creds ≡ filter p rows.basic_creds
  kept_basics (Insert (row.BasicCred new)) rows none = filter_past_push p new (covers new none) rows.basic_creds
  kept_basics (Update (row.BasicCred new)) rows none =
      let old = filter (λ r. r.id == new.id) rows.basic_creds in
      filter_past_replaced p (λ r. r.id == new.id) new (covers new (none_of_back q (flat_map basic_keys old) (basic_keys new) none)) rows.basic_creds
      (none_of_all q basic_keys p covers old (none_of_front q (flat_map basic_keys old) (basic_keys new) none))
  kept_basics (Delete kind.BasicCred id) rows none =
      let old = filter (λ r. r.id == id) rows.basic_creds in
      filter_past_filter p (λ r. r.id == id) rows.basic_creds
      (none_of_all q basic_keys p covers old (none_of_front q (flat_map basic_keys old) [] none))
  kept_basics (Delete kind.Consumer id) rows none =
      let old = filter (λ r. r.consumer == id) rows.basic_creds in
      let first = flat_map cred_keys (filter (λ r. r.consumer == id) rows.key_creds) in
      filter_past_filter p (λ r. r.consumer == id) rows.basic_creds
      (none_of_all q basic_keys p covers old
      (none_of_back q first (flat_map basic_keys old)
      (none_of_front q (first ++ flat_map basic_keys old) (Acls id ∷ [])
      (none_of_back q (keys_of_id kind.Consumer id rows) (keys_of_credentials id rows) none))))
  kept_basics (Delete _ id) rows none = refl
  kept_basics (Insert _) rows none = refl
  kept_basics (Update _) rows none = refl

module _ (q : Key → Bool) (p : ConsumerRow → Bool) (covers : (c : ConsumerRow) → list_any q (consumer_keys c) ≡ false → p c ≡ false) where
  kept_consumers : (command : Command) (rows : RowLists) → list_any q (candidates command rows) ≡ false → filter p (changed command rows).consumers ≡ filter p rows.consumers
  kept_consumers (Insert (row.Consumer new)) rows none = filter_past_push p new (covers new none) rows.consumers
  kept_consumers (Update (row.Consumer new)) rows none =
      let old = filter (λ r. r.id == new.id) rows.consumers in
      filter_past_replaced p (λ r. r.id == new.id) new (covers new (none_of_back q (flat_map consumer_keys old) (consumer_keys new) none)) rows.consumers
      (none_of_all q consumer_keys p covers old (none_of_front q (flat_map consumer_keys old) (consumer_keys new) none))
  kept_consumers (Delete kind.Consumer id) rows none =
      let old = filter (λ r. r.id == id) rows.consumers in
      filter_past_filter p (λ r. r.id == id) rows.consumers
      (none_of_all q consumer_keys p covers old (none_of_front q (flat_map consumer_keys old) (keys_of_credentials id rows) none))
  kept_consumers (Delete _ id) rows none = refl
  kept_consumers (Insert _) rows none = refl
  kept_consumers (Update _) rows none = refl

-- the rows of one consumer are none of another's
none_of_other : (i id : ℕ) → (id == i) ≡ false → (acls : List AclRow) → list_any (λ r. r.consumer == i) (filter (λ r. r.consumer == id) acls) ≡ false
none_of_other i id other [] = refl
none_of_other i id other (a ∷ acls) =
    (elim (a.consumer == id) as (λ b. (a.consumer == id) ≡ b → list_any (λ r. r.consumer == i) (cond {A = List AclRow} b (a ∷ filter (λ r. r.consumer == id) acls) (filter (λ r. r.consumer == id) acls)) ≡ false) [
      | true ↦ λ same. ap (λ b. b || list_any (λ r. r.consumer == i) (filter (λ r. r.consumer == id) acls)) (ap (λ c. c == i) (eqb-true a.consumer id same) ∙ other) ∙ none_of_other i id other acls
      | false ↦ λ _. none_of_other i id other acls
    ]) refl

module _ (i : ℕ) where
  abbrev in_groups : AclRow → Bool
  in_groups r = r.consumer == i

  covers_acl : (a : AclRow) → list_any (same_key (Acls i)) (acl_keys a) ≡ false → in_groups a ≡ false
  covers_acl a none = or_left (a.consumer == i) false none

  kept_acls : (command : Command) (rows : RowLists) → list_any (same_key (Acls i)) (candidates command rows) ≡ false → filter in_groups (changed command rows).acls ≡ filter in_groups rows.acls
  kept_acls (Insert (row.Acl new)) rows none = filter_past_push in_groups new (covers_acl new none) rows.acls
  kept_acls (Update (row.Acl new)) rows none =
      let old = filter (λ r. r.id == new.id) rows.acls in
      filter_past_replaced in_groups (λ r. r.id == new.id) new (covers_acl new (none_of_back (same_key (Acls i)) (flat_map acl_keys old) (acl_keys new) none)) rows.acls
      (none_of_all (same_key (Acls i)) acl_keys in_groups covers_acl old (none_of_front (same_key (Acls i)) (flat_map acl_keys old) (acl_keys new) none))
  kept_acls (Delete kind.Acl id) rows none =
      let old = filter (λ r. r.id == id) rows.acls in
      filter_past_filter in_groups (λ r. r.id == id) rows.acls
      (none_of_all (same_key (Acls i)) acl_keys in_groups covers_acl old (none_of_front (same_key (Acls i)) (flat_map acl_keys old) [] none))
  kept_acls (Delete kind.Consumer id) rows none =
      let creds = flat_map cred_keys (filter (λ r. r.consumer == id) rows.key_creds) in
      let basics = flat_map basic_keys (filter (λ r. r.consumer == id) rows.basic_creds) in
      let last = none_of_back (same_key (Acls i)) (creds ++ basics) (Acls id ∷ [])
      (none_of_back (same_key (Acls i)) (keys_of_id kind.Consumer id rows) (keys_of_credentials id rows) none) in
      filter_past_filter in_groups (λ r. r.consumer == id) rows.acls (none_of_other i id (or_left (id == i) false last) rows.acls)
  kept_acls (Delete _ id) rows none = refl
  kept_acls (Insert _) rows none = refl
  kept_acls (Update _) rows none = refl

-- ---- each key

covers_cred : (t : List ℕ) (c : KeyCred) → list_any (same_key (Cred t)) (cred_keys c) ≡ false → bytes_eq c.key t ≡ false
covers_cred t c none = or_left (bytes_eq c.key t) false none

covers_basic : (t : List ℕ) (c : BasicCred) → list_any (same_key (Basic t)) (basic_keys c) ≡ false → bytes_eq c.username t ≡ false
covers_basic t c none = or_left (bytes_eq c.username t) false none

covers_id : (i : ℕ) (c : ConsumerRow) → list_any (same_key (Consumer i)) (consumer_keys c) ≡ false → (c.id == i) ≡ false
covers_id i c none = or_left (c.id == i) _ none

-- the printed id of a consumer is one of its keys
covers_printed : (t : List ℕ) (i : ℕ) → bytes_eq (printed i) t ≡ true → (c : ConsumerRow) → list_any (same_key (Named t)) (consumer_keys c) ≡ false → (c.id == i) ≡ false
covers_printed t i is c none =
    (elim (c.id == i) as (λ b. (c.id == i) ≡ b → b ≡ false) [
      | true ↦ λ same. sym is ∙ ap (λ n. bytes_eq (printed n) t) (sym (eqb-true c.id i same)) ∙ or_left (bytes_eq (printed c.id) t) (list_any (same_key (Named t)) (username_keys c.username)) none
      | false ↦ λ _. refl
    ]) refl

-- and so is its username
covers_username : (t : List ℕ) (c : ConsumerRow) → list_any (same_key (Named t)) (consumer_keys c) ≡ false → is_text t c.username ≡ false
covers_username t c none =
    let last = or_right (bytes_eq (printed c.id) t) (list_any (same_key (Named t)) (username_keys c.username)) none in
    (elim c.username as (λ name. list_any (same_key (Named t)) (username_keys name) ≡ false → is_text t name ≡ false) [
      | None ↦ λ _. refl
      | Some name ↦ λ h. or_left (bytes_eq name t) false h
    ]) last

-- a text that is an id printed is that id's
printed_is : (t : List ℕ) (read : Option ℕ) (i : ℕ) → option_and_then (λ id. if bytes_eq (printed id) t then Some id else None) read ≡ Some i → bytes_eq (printed i) t ≡ true
printed_is t None i is = cc
printed_is t (Some id) i is =
    (elim (bytes_eq (printed id) t) as (λ b. bytes_eq (printed id) t ≡ b → cond {A = Option ℕ} b (Some id) None ≡ Some i → bytes_eq (printed i) t ≡ true) [
      | true ↦ λ same h. ap (λ n. bytes_eq (printed n) t) (sym (ap (λ o. unwrap_or o 0) h)) ∙ same
      | false ↦ λ _ h. cc
    ]) refl is

-- the consumer that a text names
kept_named : (t : List ℕ) (before after : List ConsumerRow)
    → ((i : ℕ) → printed_id_of t ≡ Some i → filter (λ r. r.id == i) after ≡ filter (λ r. r.id == i) before)
    → filter (λ r. is_text t r.username) after ≡ filter (λ r. is_text t r.username) before
    → named t after ≡ named t before
kept_named t before after by_id by_name =
    let last : consumer_with_username t after ≡ consumer_with_username t before = find_by_filter (λ r. is_text t r.username) after before by_name in
    (elim (printed_id_of t) as (λ read. printed_id_of t ≡ read
    → option_or (option_and_then (λ id. find (λ r. r.id == id) after) read) (consumer_with_username t after)
    ≡ option_or (option_and_then (λ id. find (λ r. r.id == id) before) read) (consumer_with_username t before)) [
      | None ↦ λ _. last
      | Some i ↦ λ is. ap₂ option_or (find_by_filter (λ r. r.id == i) after before (by_id i is)) last
    ]) refl

-- a key that is no candidate keeps its value
pub kept : (k : Key) (command : Command) (rows : RowLists) → list_any (same_key k) (candidates command rows) ≡ false → value_of (changed command rows) k ≡ value_of rows k
kept (Cred t) command rows none =
    ap value.Cred (find_by_filter (λ r. bytes_eq r.key t) (changed command rows).key_creds rows.key_creds
    (kept_creds (same_key (Cred t)) (λ r. bytes_eq r.key t) (covers_cred t) command rows none))
kept (Basic t) command rows none =
    ap value.Basic (find_by_filter (λ r. bytes_eq r.username t) (changed command rows).basic_creds rows.basic_creds
    (kept_basics (same_key (Basic t)) (λ r. bytes_eq r.username t) (covers_basic t) command rows none))
kept (Consumer i) command rows none =
    ap value.Consumer (find_by_filter (λ r. r.id == i) (changed command rows).consumers rows.consumers
    (kept_consumers (same_key (Consumer i)) (λ r. r.id == i) (covers_id i) command rows none))
kept (Named t) command rows none =
    ap value.Consumer (kept_named t rows.consumers (changed command rows).consumers
    (λ i is. kept_consumers (same_key (Named t)) (λ r. r.id == i) (covers_printed t i (printed_is t (id_of t) i is)) command rows none)
    (kept_consumers (same_key (Named t)) (λ r. is_text t r.username) (covers_username t) command rows none))
kept (Acls i) command rows none = ap (λ rest. value.Acls (in_byte_order (map (λ r. r.group) rest))) (kept_acls i command rows none)
