-- A row that was found is there.
use Rattle.std.proofs.Common.{◌≡◌, ◌⊎◌, inl, inr, ⊎_elim, ℕ, Bool, true, false, cond, ◌||◌, ◌==◌, List, [], ◌∷◌, filter, find, Option, None, Some, option_map, option_and_then, refl, ap, subst, ◌∙◌, true≢false}
use Rattle.std.proofs.lemmas.Bool.{eq-eqb}
use Rattle.std.specs.List.{list_any}
use Rattle.std.specs.Option.{option_or}
use Rattle.std.specs.Str.{bytes_eq}
use Rattle.kg_row_types.specs.Entities.{id_of_row}
use Rattle.kg_row_types.specs.RowLists.{RowLists}
use Rattle.kg_row_types.specs.declared.consumer.AclRow.{AclRow}
use Rattle.kg_row_types.specs.declared.consumer.BasicCred.{BasicCred}
use Rattle.kg_row_types.specs.declared.consumer.Consumer.{Consumer}
use Rattle.kg_row_types.specs.declared.consumer.KeyCred.{KeyCred}
use Rattle.kg_row_types.specs.declared.entity.Entity.{Entity}
use Rattle.kg_row_types.specs.declared.entity.Entity.TheVariants as row
use Rattle.kg_row_types.specs.declared.entity.Kind.{Kind}
use Rattle.kg_row_types.specs.declared.entity.Kind.TheVariants as kind
use Rattle.kg_row_types.specs.declared.plugin.PluginRow.{PluginRow}
use Rattle.kg_row_types.specs.declared.route.Route.{Route}
use Rattle.kg_row_types.specs.declared.service.Service.{Service}
use Rattle.kg_row_types.specs.Ids.{id_of}
use Rattle.kg_row_types.specs.Lookups.{is_text}
use Rattle.kg_row_types.specs.RowChanges.{has_row}
use Rattle.kg_tables.specs.References.{refers}
use Rattle.kg_row_queries.specs.Selections.{is_owned_under, is_route_under, row_with_id, row_with_word, rows_in, rows_under, selected}
use Rattle.kg_row_queries.specs.declared.collection.Collection.{Collection}
use Rattle.kg_row_queries.specs.declared.collection.Collection.TheVariants.{Anywhere, Under}
use Rattle.kg_row_queries.specs.declared.select.Select.{Select}
use Rattle.kg_row_queries.specs.declared.select.Select.TheVariants.{Id, Word}

same_number : (n : ℕ) → (n == n) ≡ true
same_number n = eq-eqb n n refl

or_back : (a b : Bool) → b ≡ true → (a || b) ≡ true
or_back true b holds = refl
or_back false b holds = holds

unwrapped : {X : Type 0} {x y : X} → Some x ≡ Some y → x ≡ y
unwrapped {X} {x} same = ap (λ o. elim o [ None ↦ x | Some z ↦ z ]) same

no_row : {X : Type 0} {x : X} → None ≡ Some x → true ≡ false
no_row same = ap (λ o. elim o [ None ↦ true | Some z ↦ false ]) same

-- what a search gives passes a test of its number
there : {X : Type 0} (number : X → ℕ) (p : X → Bool) (xs : List X) (x : X) → find p xs ≡ Some x → list_any (λ y. number y == number x) xs ≡ true
there number p [] x is = absurd (true≢false (no_row is))
there {X} number p (y ∷ ys) x is =
    (elim (p y) as (λ b. cond {A = Option X} b (Some y) (find p ys) ≡ Some x → ((number y == number x) || list_any (λ z. number z == number x) ys) ≡ true) [
      | true ↦ λ same. ap (λ n. (n == number x) || list_any (λ z. number z == number x) ys) (ap number (unwrapped same))
          ∙ ap (λ b. b || list_any (λ z. number z == number x) ys) (same_number (number x))
      | false ↦ λ later. or_back (number y == number x) (list_any (λ z. number z == number x) ys) (there number p ys x later)
    ]) is

-- what passes among some passes among all
among_all : {X : Type 0} (p q : X → Bool) (xs : List X) → list_any p (filter q xs) ≡ true → list_any p xs ≡ true
among_all p q [] some = some
among_all {X} p q (x ∷ xs) some =
    (elim (q x) as (λ b. list_any p (cond {A = List X} b (x ∷ filter q xs) (filter q xs)) ≡ true → (p x || list_any p xs) ≡ true) [
      | true ↦ λ holds. first_or_later (p x) (list_any p (filter q xs)) (list_any p xs) (among_all p q xs) holds
      | false ↦ λ holds. or_back (p x) (list_any p xs) (among_all p q xs holds)
    ]) some
  where
    first_or_later : (a b c : Bool) → (b ≡ true → c ≡ true) → (a || b) ≡ true → (a || c) ≡ true
    first_or_later true b c next holds = refl
    first_or_later false b c next holds = next holds

-- a row that a search gives, as a row of any kind
found_there : {X : Type 0} (f : X → Entity) (number : X → ℕ) → ((x : X) → number x ≡ id_of_row (f x)) → (p : X → Bool) (xs : List X) (old : Entity)
    → option_map f (find p xs) ≡ Some old → list_any (λ y. number y == id_of_row old) xs ≡ true
found_there {X} f number same p xs old is =
    (elim (find p xs) as (λ o. find p xs ≡ o → option_map f o ≡ Some old → list_any (λ y. number y == id_of_row old) xs ≡ true) [
      | None ↦ λ _ none. absurd (true≢false (no_row none))
      | Some x ↦ λ found row_is. subst (λ n. list_any (λ y. number y == n) xs ≡ true) (same x ∙ ap id_of_row (unwrapped row_is)) (there number p xs x found)
    ]) refl is

either : {X : Type 0} (a b : Option X) (x : X) → option_or a b ≡ Some x → (a ≡ Some x) ⊎ (b ≡ Some x)
either None b x is = inr is
either (Some y) b x is = inl is

module _ (rows : RowLists) (old : Entity) where
  there_by_id : (of_kind : Kind) (id : ℕ) → row_with_id of_kind id rows ≡ Some old → has_row of_kind (id_of_row old) rows ≡ true
  there_by_id kind.Service id is = found_there {X = Service} row.Service (λ r. r.id) (λ r. refl) (λ r. r.id == id) rows.services old is
  there_by_id kind.Route id is = found_there {X = Route} row.Route (λ r. r.id) (λ r. refl) (λ r. r.id == id) rows.routes old is
  there_by_id kind.Consumer id is = found_there {X = Consumer} row.Consumer (λ r. r.id) (λ r. refl) (λ r. r.id == id) rows.consumers old is
  there_by_id kind.KeyCred id is = found_there {X = KeyCred} row.KeyCred (λ r. r.id) (λ r. refl) (λ r. r.id == id) rows.key_creds old is
  there_by_id kind.BasicCred id is = found_there {X = BasicCred} row.BasicCred (λ r. r.id) (λ r. refl) (λ r. r.id == id) rows.basic_creds old is
  there_by_id kind.Acl id is = found_there {X = AclRow} row.Acl (λ r. r.id) (λ r. refl) (λ r. r.id == id) rows.acls old is
  there_by_id kind.Plugin id is = found_there {X = PluginRow} row.Plugin (λ r. r.id) (λ r. refl) (λ r. r.id == id) rows.plugins old is

  there_by_key : (text : List ℕ) (told : Option ℕ) → option_or (option_and_then (λ id. row_with_id kind.KeyCred id rows) told) (option_map row.KeyCred (find {X = KeyCred} (λ r. bytes_eq r.key text) rows.key_creds)) ≡ Some old
      → has_row kind.KeyCred (id_of_row old) rows ≡ true
  there_by_key text None is = found_there {X = KeyCred} row.KeyCred (λ r. r.id) (λ r. refl) (λ r. bytes_eq r.key text) rows.key_creds old is
  there_by_key text (Some id) is =
      ⊎_elim (λ by_id. there_by_id kind.KeyCred id by_id)
      (λ by_key. found_there {X = KeyCred} row.KeyCred (λ r. r.id) (λ r. refl) (λ r. bytes_eq r.key text) rows.key_creds old by_key)
      (either (row_with_id kind.KeyCred id rows) (option_map row.KeyCred (find {X = KeyCred} (λ r. bytes_eq r.key text) rows.key_creds)) old is)

  there_by_word : (of_kind : Kind) (text : List ℕ) → row_with_word of_kind text rows ≡ Some old → has_row of_kind (id_of_row old) rows ≡ true
  there_by_word kind.Service text is = found_there {X = Service} row.Service (λ r. r.id) (λ r. refl) (λ r. is_text text r.name) rows.services old is
  there_by_word kind.Route text is = found_there {X = Route} row.Route (λ r. r.id) (λ r. refl) (λ r. is_text text r.name) rows.routes old is
  there_by_word kind.Consumer text is = found_there {X = Consumer} row.Consumer (λ r. r.id) (λ r. refl) (λ r. is_text text r.username) rows.consumers old is
  there_by_word kind.KeyCred text is = there_by_key text (id_of text) is
  there_by_word kind.BasicCred text is = found_there {X = BasicCred} row.BasicCred (λ r. r.id) (λ r. refl) (λ r. bytes_eq r.username text) rows.basic_creds old is
  there_by_word kind.Acl text is = found_there {X = AclRow} row.Acl (λ r. r.id) (λ r. refl) (λ r. bytes_eq r.group text) rows.acls old is
  there_by_word kind.Plugin text is = absurd (true≢false (no_row is))

  pub selected_there : (of_kind : Kind) (select : Select) → selected of_kind select rows ≡ Some old → has_row of_kind (id_of_row old) rows ≡ true
  selected_there of_kind (Id id) is = there_by_id of_kind id is
  selected_there of_kind (Word text) is = there_by_word of_kind text is

-- a row that stands under another is one of all
module _ (rows : RowLists) (upper : Kind) (above : ℕ) where
  under_is_there : (of_kind : Kind) (id : ℕ) → has_row of_kind id (rows_under upper above rows) ≡ true → has_row of_kind id rows ≡ true
  under_is_there kind.Service id holds = holds
  under_is_there kind.Route id holds = among_all {X = Route} (λ r. r.id == id) (is_route_under upper above) rows.routes holds
  under_is_there kind.Consumer id holds = holds
  under_is_there kind.KeyCred id holds = among_all {X = KeyCred} (λ r. r.id == id) (λ r. is_owned_under upper above r.consumer) rows.key_creds holds
  under_is_there kind.BasicCred id holds = among_all {X = BasicCred} (λ r. r.id == id) (λ r. is_owned_under upper above r.consumer) rows.basic_creds holds
  under_is_there kind.Acl id holds = among_all {X = AclRow} (λ r. r.id == id) (λ r. is_owned_under upper above r.consumer) rows.acls holds
  under_is_there kind.Plugin id holds = among_all {X = PluginRow} (λ r. r.id == id) (λ r. refers upper above r.scope) rows.plugins holds

pub is_there : (rows : RowLists) (collection : Collection) (of_kind : Kind) (select : Select) (old : Entity) → selected of_kind select (rows_in collection rows) ≡ Some old → has_row of_kind (id_of_row old) rows ≡ true
is_there rows Anywhere of_kind select old is = selected_there rows old of_kind select is
is_there rows (Under upper above) of_kind select old is = under_is_there rows upper above of_kind (id_of_row old) (selected_there (rows_under upper above rows) old of_kind select is)
