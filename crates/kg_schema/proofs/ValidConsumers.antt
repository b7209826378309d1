-- Finished consumers, credentials and memberships are valid.
use Rattle.std.proofs.Common.{◌≡◌, inl, inr, ℕ, ◌==◌, Bool, true, false, not, ◌&&◌, ◌||◌, List, [], ◌++◌, length, Option, Some, None, is_none, is_some, unwrap_or, codes, refl}
use Rattle.std.specs.Option.{option_map_or}
use Rattle.std.specs.Prelude.{IfSome, IsTrue}
use Rattle.serde_json.specs.Data.{Data}
use Rattle.kg_row_types.specs.StoredPassword.{stored_password}
use Rattle.kg_row_types.specs.Ids.{IsId}
use Rattle.kg_row_types.specs.ValidRows.{IsValidAcl, IsValidBasicCred, IsValidConsumer, IsValidKeyCred}
use Rattle.kg_row_types.specs.TextForms.{is_free_text, is_hash, is_username}
use Rattle.kg_row_types.specs.declared.consumer.Consumer.{Consumer}
use Rattle.kg_row_types.specs.declared.entity.Entity.TheVariants as row
use Rattle.kg_row_types.specs.declared.entity.Kind.TheVariants as kind
use Rattle.kg_schema.proofs.StoredPasswords.{stored_password_ok}
use Rattle.kg_schema.proofs.ReadTexts.{takes_accepted, takes_free_text, takes_username, text_ok}
use Rattle.kg_schema.proofs.ValidIds.{stamps_ok}
use Rattle.kg_schema.proofs.ValidParts.{OrEmpty, filled, neither, not_broken, or_ok, unwrapped_ok}
use Rattle.kg_row_making.specs.Bases.{BaseValue, New, Again, Word, Old, acl_owner, basic_owner, key_owner, stamps_of}
use Rattle.kg_schema.specs.Between.{acl_violations, basic_violations, consumer_violations, violation_if, key_violations, owner_violations}
use Rattle.kg_row_making.specs.RowsBefore.{acl_before, basic_before, consumer_before, key_before}
use Rattle.kg_schema.specs.Finished.{acl_over, basic_over, consumer_over, key_over}
use Rattle.kg_bodies.specs.TableSettings.{text_in}
use Rattle.kg_bodies.specs.Settings.{text_at}
use Rattle.kg_schema.specs.ValidBases.{AreIds, HasId, IsValidBase}
use Rattle.kg_row_making.specs.declared.base.Links.{Links}
use Rattle.kg_row_making.specs.declared.base.Stamps.{Stamps}
use Rattle.kg_field_rules.specs.declared.rule.Rule.TheVariants.{Required}
use Rattle.kg_field_rules.specs.declared.text_kind.TextKind.TheVariants as text_kind

abbrev IsFree : List ℕ → Type 0
IsFree text = IsTrue (is_free_text text)

abbrev IsUsername : List ℕ → Type 0
IsUsername text = IsTrue (is_username text)

-- ---- consumers

-- what stands in a consumer before a body sets anything
record AreFields (consumer : Consumer) : Type 0 where
  id : IsId consumer.id
  username : IfSome consumer.username IsUsername
  custom_id : IfSome consumer.custom_id IsFree

consumer_before_ok : (base : BaseValue) (stamps : Stamps) → IsId stamps.id → IsValidBase kind.Consumer base → AreFields (consumer_before base stamps)
consumer_before_ok (New id now) stamps is ok = record { id = is; username = tt; custom_id = tt }
consumer_before_ok (Again id created_at now) stamps is ok = record { id = is; username = tt; custom_id = tt }
consumer_before_ok (Word id text now) stamps is ok = record { id = is; username = takes_accepted text_kind.Username is_username takes_username text ok; custom_id = tt }
consumer_before_ok (Old (row.Consumer old) now) stamps is ok = record { id = ok.id; username = ok.username; custom_id = ok.custom_id }
consumer_before_ok (Old old now) stamps is ok = record { id = is; username = tt; custom_id = tt }

either_known : (a b : Bool) → (not a && not b) ≡ false → (a || b) ≡ true
either_known true b known = refl
either_known false true known = refl
either_known false false known = cc

consumer_over_ok : (body : Data) (before : Consumer) → AreFields before → consumer_violations (consumer_over body before) ≡ [] → IsValidConsumer (consumer_over body before)
unfolding text_in
consumer_over_ok body before old none =
    let after = consumer_over body before in
    record {
      id = old.id;
      username = or_ok IsUsername (text_at text_kind.Username (codes "username") body) before.username (text_ok text_kind.Username is_username takes_username (codes "username") body) old.username;
      custom_id = or_ok IsFree (text_at text_kind.FreeText (codes "custom_id") body) before.custom_id (text_ok text_kind.FreeText is_free_text takes_free_text (codes "custom_id") body) old.custom_id;
      known = either_known (is_some after.username) (is_some after.custom_id) (not_broken (is_none after.username && is_none after.custom_id) (codes "username") Required none);
    }

pub consumer_ok : (body : Data) (base : BaseValue) → HasId base → IsValidBase kind.Consumer base
    → consumer_violations (consumer_over body (consumer_before base (stamps_of base body))) ≡ []
    → IsValidConsumer (consumer_over body (consumer_before base (stamps_of base body)))
consumer_ok body base is ok none =
    consumer_over_ok body (consumer_before base (stamps_of base body)) (consumer_before_ok base (stamps_of base body) (stamps_ok kind.Consumer body base is ok) ok) none

-- ---- keys

key_before_ok : (base : BaseValue) (stamps : Stamps) → IsValidBase kind.KeyCred base → OrEmpty IsFree (key_before base stamps).key
key_before_ok (New id now) stamps ok = inr refl
key_before_ok (Again id created_at now) stamps ok = inr refl
key_before_ok (Word id text now) stamps ok = inl (takes_accepted text_kind.FreeText is_free_text takes_free_text text ok)
key_before_ok (Old (row.KeyCred old) now) stamps ok = inl ok.key
key_before_ok (Old old now) stamps ok = inr refl

-- a text that is required: the one that a body sets, or the one that stood there
set_or_before : (name : List ℕ) (body : Data) (before : List ℕ) → OrEmpty IsFree before → (length (unwrap_or (text_at text_kind.FreeText name body) before) == 0) ≡ false
    → IsFree (unwrap_or (text_at text_kind.FreeText name body) before)
set_or_before name body before old some =
    filled IsFree (unwrap_or (text_at text_kind.FreeText name body) before)
    (unwrapped_ok (OrEmpty IsFree) (text_at text_kind.FreeText name body) before (weaker (text_at text_kind.FreeText name body) (text_ok text_kind.FreeText is_free_text takes_free_text name body)) old)
    some
  where
    weaker : (o : Option (List ℕ)) → IfSome o IsFree → IfSome o (OrEmpty IsFree)
    weaker None ok = tt
    weaker (Some text) ok = inl ok

key_ids_ok : (base : BaseValue) (stamps : Stamps) → IsId stamps.id → IsValidBase kind.KeyCred base → IsId (key_before base stamps).id × IsId (key_before base stamps).consumer
key_ids_ok (New id now) stamps is ok = (is, is)
key_ids_ok (Again id created_at now) stamps is ok = (is, is)
key_ids_ok (Word id text now) stamps is ok = (is, is)
key_ids_ok (Old (row.KeyCred old) now) stamps is ok = (ok.id, ok.consumer)
key_ids_ok (Old old now) stamps is ok = (is, is)

pub key_ok : (body : Data) (base : BaseValue) (links : Links) → HasId base → AreIds links → IsValidBase kind.KeyCred base
    → key_violations base links (key_over body links (key_before base (stamps_of base body))) ≡ []
    → IsValidKeyCred (key_over body links (key_before base (stamps_of base body)))
unfolding text_in
key_ok body base links is ids ok none =
    let own = key_ids_ok base (stamps_of base body) (stamps_ok kind.KeyCred body base is ok) ok in
    let before = key_before base (stamps_of base body) in
    let after = key_over body links before in
    let told = neither (owner_violations links (key_owner base)) (violation_if (length after.key == 0) (codes "key") Required) none in
    record { id = own.0; consumer = unwrapped_ok IsId links.consumer before.consumer ids.consumer own.1; key = set_or_before (codes "key") body before.key (key_before_ok base (stamps_of base body) ok) (not_broken (length after.key == 0) (codes "key") Required told.1) }

-- ---- passwords

basic_username_ok : (base : BaseValue) (stamps : Stamps) → IsValidBase kind.BasicCred base → OrEmpty IsFree (basic_before base stamps).username
basic_username_ok (New id now) stamps ok = inr refl
basic_username_ok (Again id created_at now) stamps ok = inr refl
basic_username_ok (Word id text now) stamps ok = inl (takes_accepted text_kind.FreeText is_free_text takes_free_text text ok)
basic_username_ok (Old (row.BasicCred old) now) stamps ok = inl ok.username
basic_username_ok (Old old now) stamps ok = inr refl

abbrev IsHash : List ℕ → Type 0
IsHash text = IsTrue (is_hash text)

basic_hash_ok : (base : BaseValue) (stamps : Stamps) → IsValidBase kind.BasicCred base → OrEmpty IsHash (basic_before base stamps).hash
basic_hash_ok (New id now) stamps ok = inr refl
basic_hash_ok (Again id created_at now) stamps ok = inr refl
basic_hash_ok (Word id text now) stamps ok = inr refl
basic_hash_ok (Old (row.BasicCred old) now) stamps ok = inl ok.hash
basic_hash_ok (Old old now) stamps ok = inr refl

hash_over_ok : (consumer : ℕ) (password : Option (List ℕ)) (before : List ℕ) → OrEmpty IsHash before → OrEmpty IsHash (option_map_or (stored_password consumer) password before)
hash_over_ok consumer None before old = old
hash_over_ok consumer (Some password) before old = inl (stored_password_ok consumer password)

basic_ids_ok : (base : BaseValue) (stamps : Stamps) → IsId stamps.id → IsValidBase kind.BasicCred base → IsId (basic_before base stamps).id × IsId (basic_before base stamps).consumer
basic_ids_ok (New id now) stamps is ok = (is, is)
basic_ids_ok (Again id created_at now) stamps is ok = (is, is)
basic_ids_ok (Word id text now) stamps is ok = (is, is)
basic_ids_ok (Old (row.BasicCred old) now) stamps is ok = (ok.id, ok.consumer)
basic_ids_ok (Old old now) stamps is ok = (is, is)

pub basic_ok : (body : Data) (base : BaseValue) (links : Links) → HasId base → AreIds links → IsValidBase kind.BasicCred base
    → basic_violations base links (basic_over body links (basic_before base (stamps_of base body))) ≡ []
    → IsValidBasicCred (basic_over body links (basic_before base (stamps_of base body)))
unfolding text_in
basic_ok body base links is ids ok none =
    let own = basic_ids_ok base (stamps_of base body) (stamps_ok kind.BasicCred body base is ok) ok in
    let before = basic_before base (stamps_of base body) in
    let after = basic_over body links before in
    let names = neither (owner_violations links (basic_owner base) ++ violation_if (length after.username == 0) (codes "username") Required) (violation_if (length after.hash == 0) (codes "password") Required) none in
    let told = neither (owner_violations links (basic_owner base)) (violation_if (length after.username == 0) (codes "username") Required) names.0 in
    record {
      id = own.0;
      consumer = unwrapped_ok IsId links.consumer before.consumer ids.consumer own.1;
      username = set_or_before (codes "username") body before.username (basic_username_ok base (stamps_of base body) ok) (not_broken (length after.username == 0) (codes "username") Required told.1);
      hash = filled IsHash after.hash (hash_over_ok (unwrap_or links.consumer before.consumer) (text_at text_kind.FreeText (codes "password") body) before.hash (basic_hash_ok base (stamps_of base body) ok)) (not_broken (length after.hash == 0) (codes "password") Required names.1);
    }

-- ---- memberships

acl_before_ok : (base : BaseValue) (stamps : Stamps) → IsValidBase kind.Acl base → OrEmpty IsFree (acl_before base stamps).group
acl_before_ok (New id now) stamps ok = inr refl
acl_before_ok (Again id created_at now) stamps ok = inr refl
acl_before_ok (Word id text now) stamps ok = inl (takes_accepted text_kind.FreeText is_free_text takes_free_text text ok)
acl_before_ok (Old (row.Acl old) now) stamps ok = inl ok.group
acl_before_ok (Old old now) stamps ok = inr refl

acl_ids_ok : (base : BaseValue) (stamps : Stamps) → IsId stamps.id → IsValidBase kind.Acl base → IsId (acl_before base stamps).id × IsId (acl_before base stamps).consumer
acl_ids_ok (New id now) stamps is ok = (is, is)
acl_ids_ok (Again id created_at now) stamps is ok = (is, is)
acl_ids_ok (Word id text now) stamps is ok = (is, is)
acl_ids_ok (Old (row.Acl old) now) stamps is ok = (ok.id, ok.consumer)
acl_ids_ok (Old old now) stamps is ok = (is, is)

pub acl_ok : (body : Data) (base : BaseValue) (links : Links) → HasId base → AreIds links → IsValidBase kind.Acl base
    → acl_violations base links (acl_over body links (acl_before base (stamps_of base body))) ≡ []
    → IsValidAcl (acl_over body links (acl_before base (stamps_of base body)))
unfolding text_in
acl_ok body base links is ids ok none =
    let own = acl_ids_ok base (stamps_of base body) (stamps_ok kind.Acl body base is ok) ok in
    let before = acl_before base (stamps_of base body) in
    let after = acl_over body links before in
    let told = neither (owner_violations links (acl_owner base)) (violation_if (length after.group == 0) (codes "group") Required) none in
    record { id = own.0; consumer = unwrapped_ok IsId links.consumer before.consumer ids.consumer own.1; group = set_or_before (codes "group") body before.group (acl_before_ok base (stamps_of base body) ok) (not_broken (length after.group == 0) (codes "group") Required told.1) }
