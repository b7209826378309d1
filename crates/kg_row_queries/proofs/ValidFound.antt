-- A row that is found among valid rows is valid.
use Rattle.std.proofs.Common.{◌≡◌, ◌⊎◌, inl, inr, ⊎_elim, ℕ, ◌==◌, Bool, true, false, cond, List, [], ◌∷◌, All, find, Option, None, Some, option_map, option_and_then, IfSome, sym, ap, subst, true≢false}
use Rattle.std.proofs.lemmas.List.Elements.{All-filter, All-head, All-tail}
use Rattle.std.specs.Option.{option_or}
use Rattle.std.specs.Str.{bytes_eq}
use Rattle.kg_row_types.specs.Ids.{id_of}
use Rattle.kg_row_types.specs.Lookups.{is_text}
use Rattle.kg_tables.specs.References.{refers}
use Rattle.kg_row_types.specs.RowLists.{RowLists}
use Rattle.kg_row_types.specs.ValidRows.{AreValidRows, IsValidAcl, IsValidBasicCred, IsValidConsumer, IsValidKeyCred, IsValidPlugin, IsValidRoute, IsValidRow, IsValidService}
use Rattle.kg_row_types.specs.declared.consumer.AclRow.{AclRow}
use Rattle.kg_row_types.specs.declared.consumer.BasicCred.{BasicCred}
use Rattle.kg_row_types.specs.declared.consumer.KeyCred.{KeyCred}
use Rattle.kg_row_types.specs.declared.plugin.PluginRow.{PluginRow}
use Rattle.kg_row_types.specs.declared.entity.Entity.{Entity}
use Rattle.kg_row_types.specs.declared.entity.Entity.TheVariants as row
use Rattle.kg_row_types.specs.declared.entity.Kind.{Kind}
use Rattle.kg_row_types.specs.declared.entity.Kind.TheVariants as kind
use Rattle.kg_row_queries.specs.Selections.{is_owned_under, is_route_under, row_with_id, row_with_word, rows_in, selected}
use Rattle.kg_row_queries.specs.declared.collection.Collection.{Collection}
use Rattle.kg_row_queries.specs.declared.collection.Collection.TheVariants.{Anywhere, Under}
use Rattle.kg_row_queries.specs.RowRefs.{row_at}
use Rattle.kg_row_queries.specs.declared.row_ref.RowRef.{RowRef}
use Rattle.kg_row_queries.specs.declared.select.Select.{Select}
use Rattle.kg_row_queries.specs.declared.select.Select.TheVariants.{Id, Word as Worded}

unwrapped : {X : Type 0} {x y : X} → Some x ≡ Some y → x ≡ y
unwrapped {X} {x} same = ap (λ o. elim o [ None ↦ x | Some z ↦ z ]) same

no_row : {X : Type 0} {x : X} → None ≡ Some x → true ≡ false
no_row same = ap (λ o. elim o [ None ↦ true | Some z ↦ false ]) same

-- ---- a row that was found

-- what is said of each row is said of the one that a search gives
found_is : {X : Type 0} (P : X → Type 0) (Q : Entity → Type 0) (f : X → Entity) → ((x : X) → P x → Q (f x)) → (p : X → Bool) (xs : List X) (old : Entity)
    → All P xs → option_map f (find p xs) ≡ Some old → Q old
found_is P Q f as_row p [] old all is = absurd (true≢false (no_row is))
found_is {X} P Q f as_row p (x ∷ xs) old all is =
    (elim (p x) as (λ b. option_map f (cond {A = Option X} b (Some x) (find p xs)) ≡ Some old → Q old) [
      | true ↦ λ same. subst Q (unwrapped same) (as_row x (All-head P x xs all))
      | false ↦ λ later. found_is P Q f as_row p xs old (All-tail P x xs all) later
    ]) is

either : {X : Type 0} (a b : Option X) (x : X) → option_or a b ≡ Some x → (a ≡ Some x) ⊎ (b ≡ Some x)
either None b x is = inr is
either (Some y) b x is = inl is

module _ (rows : RowLists) (valid : AreValidRows rows) (old : Entity) where
  valid_by_id : (of_kind : Kind) (id : ℕ) → row_with_id of_kind id rows ≡ Some old → IsValidRow old
  valid_by_id kind.Service id is = found_is IsValidService IsValidRow row.Service (λ r v. v) (λ r. r.id == id) rows.services old valid.services is
  valid_by_id kind.Route id is = found_is IsValidRoute IsValidRow row.Route (λ r v. v) (λ r. r.id == id) rows.routes old valid.routes is
  valid_by_id kind.Consumer id is = found_is IsValidConsumer IsValidRow row.Consumer (λ r v. v) (λ r. r.id == id) rows.consumers old valid.consumers is
  valid_by_id kind.KeyCred id is = found_is IsValidKeyCred IsValidRow row.KeyCred (λ r v. v) (λ r. r.id == id) rows.key_creds old valid.key_creds is
  valid_by_id kind.BasicCred id is = found_is IsValidBasicCred IsValidRow row.BasicCred (λ r v. v) (λ r. r.id == id) rows.basic_creds old valid.basic_creds is
  valid_by_id kind.Acl id is = found_is IsValidAcl IsValidRow row.Acl (λ r v. v) (λ r. r.id == id) rows.acls old valid.acls is
  valid_by_id kind.Plugin id is = found_is IsValidPlugin IsValidRow row.Plugin (λ r v. v) (λ r. r.id == id) rows.plugins old valid.plugins is

  valid_by_key : (text : List ℕ) → option_map row.KeyCred (find {X = KeyCred} (λ r. bytes_eq r.key text) rows.key_creds) ≡ Some old → IsValidRow old
  valid_by_key text is = found_is IsValidKeyCred IsValidRow row.KeyCred (λ r v. v) (λ r. bytes_eq r.key text) rows.key_creds old valid.key_creds is

  valid_by_key_word : (text : List ℕ) (told : Option ℕ) → option_or (option_and_then (λ id. row_with_id kind.KeyCred id rows) told) (option_map row.KeyCred (find {X = KeyCred} (λ r. bytes_eq r.key text) rows.key_creds)) ≡ Some old
      → IsValidRow old
  valid_by_key_word text None is = valid_by_key text is
  valid_by_key_word text (Some id) is =
      ⊎_elim (λ by_id. valid_by_id kind.KeyCred id by_id) (λ by_key. valid_by_key text by_key)
      (either (row_with_id kind.KeyCred id rows) (option_map row.KeyCred (find {X = KeyCred} (λ r. bytes_eq r.key text) rows.key_creds)) old is)

  valid_by_word : (of_kind : Kind) (text : List ℕ) → row_with_word of_kind text rows ≡ Some old → IsValidRow old
  valid_by_word kind.Service text is = found_is IsValidService IsValidRow row.Service (λ r v. v) (λ r. is_text text r.name) rows.services old valid.services is
  valid_by_word kind.Route text is = found_is IsValidRoute IsValidRow row.Route (λ r v. v) (λ r. is_text text r.name) rows.routes old valid.routes is
  valid_by_word kind.Consumer text is = found_is IsValidConsumer IsValidRow row.Consumer (λ r v. v) (λ r. is_text text r.username) rows.consumers old valid.consumers is
  valid_by_word kind.KeyCred text is = valid_by_key_word text (id_of text) is
  valid_by_word kind.BasicCred text is = found_is IsValidBasicCred IsValidRow row.BasicCred (λ r v. v) (λ r. bytes_eq r.username text) rows.basic_creds old valid.basic_creds is
  valid_by_word kind.Acl text is = found_is IsValidAcl IsValidRow row.Acl (λ r v. v) (λ r. bytes_eq r.group text) rows.acls old valid.acls is
  valid_by_word kind.Plugin text is = absurd (true≢false (no_row is))

  selected_valid : (of_kind : Kind) (select : Select) → selected of_kind select rows ≡ Some old → IsValidRow old
  selected_valid of_kind (Id id) is = valid_by_id of_kind id is
  selected_valid of_kind (Worded text) is = valid_by_word of_kind text is

-- the rows in a collection are valid
valid_in : (rows : RowLists) (collection : Collection) → AreValidRows rows → AreValidRows (rows_in collection rows)
valid_in rows Anywhere valid = valid
valid_in rows (Under upper above) valid = record {
  services = valid.services;
  routes = All-filter (is_route_under upper above) IsValidRoute rows.routes valid.routes;
  consumers = valid.consumers;
  key_creds = All-filter (λ (r : KeyCred). is_owned_under upper above r.consumer) IsValidKeyCred rows.key_creds valid.key_creds;
  basic_creds = All-filter (λ (r : BasicCred). is_owned_under upper above r.consumer) IsValidBasicCred rows.basic_creds valid.basic_creds;
  acls = All-filter (λ (r : AclRow). is_owned_under upper above r.consumer) IsValidAcl rows.acls valid.acls;
  plugins = All-filter (λ (r : PluginRow). refers upper above r.scope) IsValidPlugin rows.plugins valid.plugins;
}

-- a row that was found in a collection is valid
pub found_valid : (rows : RowLists) (of_kind : Kind) (collection : Collection) (select : Select) (found : Option RowRef) → option_map row_at found ≡ selected of_kind select (rows_in collection rows)
    → AreValidRows rows → IfSome found (λ row. IsValidRow (row_at row))
found_valid rows of_kind collection select None is valid = tt
found_valid rows of_kind collection select (Some row) is valid = selected_valid (rows_in collection rows) (valid_in rows collection valid) (row_at row) of_kind select (sym is)
