-- What no other row has is unique, and what doesn't dangle is there.
use Rattle.std.proofs.Common.{◌≡◌, ℕ, Bool, true, false, cond, not, ◌&&◌, ◌||◌, ◌==◌, List, [], ◌∷◌, find, Option, None, Some, is_none, option_map, codes, if◌then◌else◌, refl, sym, ap, ap₂, ◌∙◌, true≢false}
use Rattle.std.specs.Option.{option_or}
use Rattle.std.specs.Str.{bytes_eq}
use Rattle.kg_row_types.specs.Entities.{kind_of, id_of_row}
use Rattle.kg_row_types.specs.Lookups.{is_text}
use Rattle.kg_row_types.specs.RowChanges.{has_row}
use Rattle.kg_row_types.specs.RowLists.{RowLists}
use Rattle.kg_row_types.specs.declared.entity.Entity.{Entity}
use Rattle.kg_row_types.specs.declared.entity.Entity.TheVariants as row
use Rattle.kg_row_types.specs.declared.entity.Kind.{Kind}
use Rattle.kg_row_types.specs.declared.entity.Kind.TheVariants as kind
use Rattle.kg_row_types.specs.ValidRows.{same_membership, same_name_and_scope}
use Rattle.kg_row_types.specs.declared.consumer.AclRow.{AclRow}
use Rattle.kg_row_types.specs.declared.consumer.BasicCred.{BasicCred}
use Rattle.kg_row_types.specs.declared.consumer.Consumer.{Consumer}
use Rattle.kg_row_types.specs.declared.consumer.KeyCred.{KeyCred}
use Rattle.kg_row_types.specs.declared.plugin.PluginRow.{PluginRow}
use Rattle.kg_row_types.specs.declared.route.Route.{Route}
use Rattle.kg_row_types.specs.declared.service.Service.{Service}
use Rattle.kg_row_changes.specs.Allowed.{has_if_set, has_named_rows, is_unique}
use Rattle.kg_row_changes.specs.Claims.{claimed, first_taken, holder, id_holder, text_holder}
use Rattle.kg_rows.specs.References.{is_dangling, is_missing, links_of, dangling_field}
use Rattle.kg_rows.specs.declared.target.Target.{Target}
use Rattle.kg_rows.specs.declared.target.Targets.{Targets}
use Rattle.kg_row_making.specs.declared.base.Links.{Links}
use Rattle.kg_rows.proofs.AnswerLemmas.{unmapped}

-- ---- options and tests

some_is_not_none : {A : Type 0} {x : A} → Some x ≡ None → false ≡ true
some_is_not_none same = ap (λ o. elim o [ None ↦ true | Some y ↦ false ]) same

pub or_first : {A : Type 0} (a b : Option A) → option_or a b ≡ None → a ≡ None
or_first None b none = refl
or_first (Some x) b none = none

pub or_second : {A : Type 0} (a b : Option A) → option_or a b ≡ None → b ≡ None
or_second None b none = none
or_second (Some x) b none = absurd (true≢false (sym (some_is_not_none none)))

-- ---- rows that are there

present : (lost there : Bool) → (lost || not there) ≡ false → there ≡ true
present true there none = absurd (true≢false none)
present false true none = refl
present false false none = absurd (true≢false none)

kept_reference : (of_kind : Kind) (rows : RowLists) (above : Option ℕ) (target : Target) (named : Option ℕ)
    → is_dangling of_kind rows above target named ≡ false → has_if_set of_kind named rows ≡ true
kept_reference of_kind rows above target None none = refl
kept_reference of_kind rows above target (Some id) none = present (is_missing above target) (has_row of_kind id rows) none

pub record NoneDangles (a b c : Bool) : Type 0 where
  pub first : a ≡ false
  pub second : b ≡ false
  pub third : c ≡ false

none_dangles : {A : Type 0} (a b c : Bool) (x y z : A) → (if a then Some x else (if b then Some y else (if c then Some z else None))) ≡ None → NoneDangles a b c
none_dangles true b c x y z none = absurd (true≢false (sym (some_is_not_none none)))
none_dangles false true c x y z none = absurd (true≢false (sym (some_is_not_none none)))
none_dangles false false true x y z none = absurd (true≢false (sym (some_is_not_none none)))
none_dangles false false false x y z none = record { first = refl; second = refl; third = refl }

pub record KeepsLinks (rows : RowLists) (named : Links) : Type 0 where
  pub consumer : has_if_set kind.Consumer named.consumer rows ≡ true
  pub route : has_if_set kind.Route named.route rows ≡ true
  pub service : has_if_set kind.Service named.service rows ≡ true

keeps_links : (rows : RowLists) (above : Links) (targets : Targets) (named : Links) → dangling_field rows above targets named ≡ None → KeepsLinks rows named
keeps_links rows above targets named none =
    let all = none_dangles (is_dangling kind.Consumer rows above.consumer targets.consumer named.consumer) (is_dangling kind.Route rows above.route targets.route named.route) (is_dangling kind.Service rows above.service targets.service named.service) (codes "consumer") (codes "route") (codes "service") none in
    record {
      consumer = kept_reference kind.Consumer rows above.consumer targets.consumer named.consumer all.first;
      route = kept_reference kind.Route rows above.route targets.route named.route all.second;
      service = kept_reference kind.Service rows above.service targets.service named.service all.third;
    }

both : (a b : Bool) → a ≡ true → b ≡ true → (a && b) ≡ true
both a b x y = ap₂ (λ p q. p && q) x y

named_rows : (new : Entity) (rows : RowLists) → KeepsLinks rows (links_of new) → has_named_rows new rows ≡ true
named_rows (row.Service service) rows kept = refl
named_rows (row.Route route) rows kept = kept.service
named_rows (row.Consumer consumer) rows kept = refl
named_rows (row.KeyCred cred) rows kept = kept.consumer
named_rows (row.BasicCred cred) rows kept = kept.consumer
named_rows (row.Acl membership) rows kept = kept.consumer
named_rows (row.Plugin plugin) rows kept = both _ _ (both _ _ kept.service kept.route) kept.consumer

pub has_what_it_names : (new : Entity) (rows : RowLists) (above : Links) (targets : Targets) → dangling_field rows above targets (links_of new) ≡ None → has_named_rows new rows ≡ true
has_what_it_names new rows above targets none = named_rows new rows (keeps_links rows above targets (links_of new) none)

-- ---- what is unique

and_false : (a : Bool) → (a && false) ≡ false
and_false true = refl
and_false false = refl

-- a claim that isn't taken, before others
none_first : (a : List ℕ × Option ℕ) (later : List (List ℕ × Option ℕ)) → first_taken (a ∷ later) ≡ None → a.1 ≡ None
none_first a later none = unmapped (λ id. (a.0, id)) a.1 (or_first (option_map (λ id. (a.0, id)) a.1) (first_taken later) none)

none_later : (a : List ℕ × Option ℕ) (later : List (List ℕ × Option ℕ)) → first_taken (a ∷ later) ≡ None → first_taken later ≡ None
none_later a later none = or_second (option_map (λ id. (a.0, id)) a.1) (first_taken later) none

-- a claim that is weaker
still_free : (a b : List ℕ × Option ℕ) (before after : List (List ℕ × Option ℕ)) → (a.1 ≡ None → b.1 ≡ None) → (first_taken before ≡ None → first_taken after ≡ None)
    → first_taken (a ∷ before) ≡ None → first_taken (b ∷ after) ≡ None
still_free a b before after one more none =
    ap (λ o. option_or (option_map (λ id. (b.0, id)) o) (first_taken after)) (one (none_first a before none)) ∙ more (none_later a before none)

-- what no row has, no other row has
other_holder : {X : Type 0} (number : X → ℕ) (id : ℕ) (test : X → Bool) (xs : List X) → holder number None test xs ≡ None → holder number (Some id) test xs ≡ None
other_holder number id test [] none = refl
other_holder {X} number id test (x ∷ xs) none =
    (elim (test x) as (λ b. option_map number (cond {A = Option X} b (Some x) (find test xs)) ≡ None
    → option_map number (cond {A = Option X} (not (number x == id) && b) (Some x) (find (λ y. not (number y == id) && test y) xs)) ≡ None) [
      | true ↦ λ some. absurd (true≢false (sym (some_is_not_none some)))
      | false ↦ λ rest.
          ap (λ c. option_map number (cond {A = Option X} c (Some x) (find (λ y. not (number y == id) && test y) xs))) (and_false (not (number x == id)))
          ∙ other_holder number id test xs rest
    ]) none

other_text : {X : Type 0} (number : X → ℕ) (field : X → Option (List ℕ)) (id : ℕ) (set : Option (List ℕ)) (xs : List X)
    → text_holder number field None set xs ≡ None → text_holder number field (Some id) set xs ≡ None
other_text number field id None xs none = refl
other_text number field id (Some text) xs none = other_holder number id (λ other. is_text text (field other)) xs none

unset : (b : Bool) (id : ℕ) → (if b then Some id else None) ≡ None → b ≡ false
unset true id none = absurd (true≢false (sym (some_is_not_none none)))
unset false id none = refl

module _ (rows : RowLists) where
  other_id : (of_kind : Kind) (id : ℕ) → id_holder of_kind id None rows ≡ None → id_holder of_kind id (Some id) rows ≡ None
  other_id of_kind id none =
      ap (λ b. if not (id == id) && b then Some id else None) (unset (has_row of_kind id rows) id none)
      ∙ ap (λ b. if b then Some id else None) (and_false (not (id == id)))

  -- two claims, and three
  two : (a b c d : List ℕ × Option ℕ) → (a.1 ≡ None → c.1 ≡ None) → (b.1 ≡ None → d.1 ≡ None) → first_taken (a ∷ b ∷ []) ≡ None → first_taken (c ∷ d ∷ []) ≡ None
  two a b c d one other none = still_free a c (b ∷ []) (d ∷ []) one (still_free b d [] [] other (λ rest. rest)) none

  three : (a b c d e f : List ℕ × Option ℕ) → (a.1 ≡ None → d.1 ≡ None) → (b.1 ≡ None → e.1 ≡ None) → (c.1 ≡ None → f.1 ≡ None)
      → first_taken (a ∷ b ∷ c ∷ []) ≡ None → first_taken (d ∷ e ∷ f ∷ []) ≡ None
  three a b c d e f one other last none = still_free a d (b ∷ c ∷ []) (e ∷ f ∷ []) one (two b c e f other last) none

  abbrev id_claim : Kind → ℕ → Option ℕ → List ℕ × Option ℕ
  id_claim of_kind id replaced = (codes "id", id_holder of_kind id replaced rows)

  abbrev service_name : Service → Option ℕ → List ℕ × Option ℕ
  service_name new replaced = (codes "name", text_holder (λ other. other.id) (λ other. other.name) replaced new.name rows.services)

  abbrev route_name : Route → Option ℕ → List ℕ × Option ℕ
  route_name new replaced = (codes "name", text_holder (λ other. other.id) (λ other. other.name) replaced new.name rows.routes)

  abbrev custom_id : Consumer → Option ℕ → List ℕ × Option ℕ
  custom_id new replaced = (codes "custom_id", text_holder (λ other. other.id) (λ other. other.custom_id) replaced new.custom_id rows.consumers)

  abbrev username : Consumer → Option ℕ → List ℕ × Option ℕ
  username new replaced = (codes "username", text_holder (λ other. other.id) (λ other. other.username) replaced new.username rows.consumers)

  abbrev key : KeyCred → Option ℕ → List ℕ × Option ℕ
  key new replaced = (codes "key", holder (λ other. other.id) replaced (λ other. bytes_eq other.key new.key) rows.key_creds)

  abbrev login : BasicCred → Option ℕ → List ℕ × Option ℕ
  login new replaced = (codes "username", holder (λ other. other.id) replaced (λ other. bytes_eq other.username new.username) rows.basic_creds)

  abbrev group : AclRow → Option ℕ → List ℕ × Option ℕ
  group new replaced = (codes "group", holder (λ other. other.id) replaced (λ other. same_membership other new) rows.acls)

  abbrev name_and_scope : PluginRow → Option ℕ → List ℕ × Option ℕ
  name_and_scope new replaced = (codes "name", holder (λ other. other.id) replaced (λ other. same_name_and_scope other new) rows.plugins)

  free_of_others : (new : Entity) → claimed new None rows ≡ None → claimed new (Some (id_of_row new)) rows ≡ None
  free_of_others (row.Service new) none =
      two (id_claim kind.Service new.id None) (service_name new None) (id_claim kind.Service new.id (Some new.id)) (service_name new (Some new.id)) (other_id kind.Service new.id)
      (other_text {X = Service} (λ other. other.id) (λ other. other.name) new.id new.name rows.services) none
  free_of_others (row.Route new) none =
      two (id_claim kind.Route new.id None) (route_name new None) (id_claim kind.Route new.id (Some new.id)) (route_name new (Some new.id)) (other_id kind.Route new.id)
      (other_text {X = Route} (λ other. other.id) (λ other. other.name) new.id new.name rows.routes) none
  free_of_others (row.Consumer new) none =
      three (custom_id new None) (id_claim kind.Consumer new.id None) (username new None) (custom_id new (Some new.id)) (id_claim kind.Consumer new.id (Some new.id)) (username new (Some new.id))
      (other_text {X = Consumer} (λ other. other.id) (λ other. other.custom_id) new.id new.custom_id rows.consumers) (other_id kind.Consumer new.id)
      (other_text {X = Consumer} (λ other. other.id) (λ other. other.username) new.id new.username rows.consumers) none
  free_of_others (row.KeyCred new) none =
      two (id_claim kind.KeyCred new.id None) (key new None) (id_claim kind.KeyCred new.id (Some new.id)) (key new (Some new.id)) (other_id kind.KeyCred new.id)
      (other_holder {X = KeyCred} (λ other. other.id) new.id (λ other. bytes_eq other.key new.key) rows.key_creds) none
  free_of_others (row.BasicCred new) none =
      two (id_claim kind.BasicCred new.id None) (login new None) (id_claim kind.BasicCred new.id (Some new.id)) (login new (Some new.id)) (other_id kind.BasicCred new.id)
      (other_holder {X = BasicCred} (λ other. other.id) new.id (λ other. bytes_eq other.username new.username) rows.basic_creds) none
  free_of_others (row.Acl new) none =
      two (group new None) (id_claim kind.Acl new.id None) (group new (Some new.id)) (id_claim kind.Acl new.id (Some new.id))
      (other_holder {X = AclRow} (λ other. other.id) new.id (λ other. same_membership other new) rows.acls) (other_id kind.Acl new.id) none
  free_of_others (row.Plugin new) none =
      two (id_claim kind.Plugin new.id None) (name_and_scope new None) (id_claim kind.Plugin new.id (Some new.id)) (name_and_scope new (Some new.id)) (other_id kind.Plugin new.id)
      (other_holder {X = PluginRow} (λ other. other.id) new.id (λ other. same_name_and_scope other new) rows.plugins) none

  -- a row in the place of one of its id, and a new one
  pub is_unique_old : (new : Entity) → claimed new (Some (id_of_row new)) rows ≡ None → is_unique new rows ≡ true
  is_unique_old new none = ap is_none none

  pub is_unique_new : (new : Entity) → claimed new None rows ≡ None → is_unique new rows ≡ true
  is_unique_new new none = is_unique_old new (free_of_others new none)

  -- ---- new ids

  new_id : (of_kind : Kind) (id : ℕ) → id_holder of_kind id None rows ≡ None → has_row of_kind id rows ≡ false
  new_id of_kind id none = unset (has_row of_kind id rows) id none

  pub has_new_id : (new : Entity) → claimed new None rows ≡ None → has_row (kind_of new) (id_of_row new) rows ≡ false
  has_new_id (row.Service new) none = new_id kind.Service new.id (none_first (id_claim kind.Service new.id None) (service_name new None ∷ []) none)
  has_new_id (row.Route new) none = new_id kind.Route new.id (none_first (id_claim kind.Route new.id None) (route_name new None ∷ []) none)
  has_new_id (row.Consumer new) none =
      new_id kind.Consumer new.id (none_first (id_claim kind.Consumer new.id None) (username new None ∷ [])
      (none_later (custom_id new None) (id_claim kind.Consumer new.id None ∷ username new None ∷ []) none))
  has_new_id (row.KeyCred new) none = new_id kind.KeyCred new.id (none_first (id_claim kind.KeyCred new.id None) (key new None ∷ []) none)
  has_new_id (row.BasicCred new) none = new_id kind.BasicCred new.id (none_first (id_claim kind.BasicCred new.id None) (login new None ∷ []) none)
  has_new_id (row.Acl new) none = new_id kind.Acl new.id (none_first (id_claim kind.Acl new.id None) [] (none_later (group new None) (id_claim kind.Acl new.id None ∷ []) none))
  has_new_id (row.Plugin new) none = new_id kind.Plugin new.id (none_first (id_claim kind.Plugin new.id None) (name_and_scope new None ∷ []) none)
