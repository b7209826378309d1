-- Consistent commands leave what rows name there.
use Rattle.std.proofs.Common.{◌≡◌, ℕ, ◌==◌, Bool, true, false, cond, not, ◌&&◌, ◌||◌, List, [], ◌∷◌, ◌++◌, All, IfSome, filter, Option, Some, None, refl, sym, ap, ◌∙◌}
use Rattle.std.specs.Prelude.{⊤}
use Rattle.std.proofs.lemmas.Bool.{eqb-true}
use Rattle.std.proofs.lemmas.List.Elements.{All-cons, All-filter, All-head, All-nil, All-push, All-tail}
use Rattle.std.proofs.lemmas.List.Folds.{list_any-append}
use Rattle.std.specs.List.{list_any}
use Rattle.kg_row_types.specs.Entities.{kind_of, id_of_row}
use Rattle.kg_row_types.specs.RowChanges.{has_row, names_row, refers_to}
use Rattle.kg_row_types.specs.RowLists.{RowLists}
use Rattle.kg_row_types.specs.Tables.{replaced}
use Rattle.kg_row_types.specs.ValidRows.{HasReferences, has_consumer, has_route, has_service}
use Rattle.kg_row_types.specs.declared.consumer.AclRow.{AclRow}
use Rattle.kg_row_types.specs.declared.consumer.BasicCred.{BasicCred}
use Rattle.kg_row_types.specs.declared.consumer.KeyCred.{KeyCred}
use Rattle.kg_row_types.specs.declared.entity.Entity.{Entity}
use Rattle.kg_row_types.specs.declared.entity.Entity.TheVariants as row
use Rattle.kg_row_types.specs.declared.entity.Kind.{Kind}
use Rattle.kg_row_types.specs.declared.entity.Kind.TheVariants as kind
use Rattle.kg_row_types.specs.declared.plugin.PluginRow.{PluginRow}
use Rattle.kg_row_types.specs.declared.route.Route.{Route}
use Rattle.kg_row_changes.proofs.DistinctLemmas.{both_first, both_second, number_flips, untrue}
use Rattle.kg_row_values.proofs.Searches.{or_left, or_right}
use Rattle.kg_row_changes.proofs.EachKind.{EachKind, Fewer, Said, deleted_each, with_services, with_routes, with_consumers, with_key_creds, with_basic_creds, with_acls, with_plugins}
use Rattle.kg_row_changes.proofs.ValidKept.{all_replaced}
use Rattle.kg_row_changes.specs.Allowed.{has_if_set, has_named_rows, has_scope, is_consistent, is_unique, is_unused}
use Rattle.kg_row_values.specs.Rows.{changed}
use Rattle.kg_row_values.specs.declared.command.Command.{Command}
use Rattle.kg_row_values.specs.declared.command.Command.TheVariants.{Insert, Update, Delete}

-- ---- lists

module _ {X : Type 0} where
  all_weaker : (P Q : X → Type 0) → ((x : X) → P x → Q x) → (xs : List X) → All P xs → All Q xs
  all_weaker P Q weaker [] all = All-nil Q
  all_weaker P Q weaker (x ∷ xs) all = All-cons Q x xs (weaker x (All-head P x xs all)) (all_weaker P Q weaker xs (All-tail P x xs all))

  all_left : (p : X → Bool) (P Q : X → Type 0) → ((x : X) → p x ≡ true → P x → Q x) → (xs : List X) → All P xs → All Q (filter p xs)
  all_left p P Q weaker [] all = All-nil Q
  all_left p P Q weaker (x ∷ xs) all =
      (elim (p x) as (λ b. p x ≡ b → All Q (cond {A = List X} b (x ∷ filter p xs) (filter p xs))) [
        | true ↦ λ passes. All-cons Q x (filter p xs) (weaker x passes (All-head P x xs all)) (all_left p P Q weaker xs (All-tail P x xs all))
        | false ↦ λ _. all_left p P Q weaker xs (All-tail P x xs all)
      ]) refl

  -- none of the members passes, and of each something is said
  all_failing : (p : X → Bool) (P Q : X → Type 0) → ((x : X) → p x ≡ false → P x → Q x) → (xs : List X) → list_any p xs ≡ false → All P xs → All Q xs
  all_failing p P Q weaker [] none all = All-nil Q
  all_failing p P Q weaker (x ∷ xs) none all =
      All-cons Q x xs (weaker x (or_left (p x) (list_any p xs) none) (All-head P x xs all))
      (all_failing p P Q weaker xs (or_right (p x) (list_any p xs) none) (All-tail P x xs all))

  any_push : (p : X → Bool) (new : X) (xs : List X) → list_any p xs ≡ true → list_any p (xs ++ new ∷ []) ≡ true
  any_push p new xs some = list_any-append p xs (new ∷ []) ∙ ap (λ b. b || list_any p (new ∷ [])) some

  module _ (number : X → ℕ) where
    abbrev has_number : ℕ → List X → Bool
    has_number id xs = list_any (λ x. number x == id) xs

    -- the row of an id is replaced by one of this id
    number_replaced : (new : X) (id : ℕ) (xs : List X) → has_number id (replaced (λ x. number x == number new) new xs) ≡ has_number id xs
    number_replaced new id [] = refl
    number_replaced new id (x ∷ xs) =
        (elim (number x == number new) as (λ b. (number x == number new) ≡ b → has_number id (cond {A = List X} b (new ∷ xs) (x ∷ replaced (λ y. number y == number new) new xs)) ≡ has_number id (x ∷ xs)) [
          | true ↦ λ is. ap (λ n. (n == id) || has_number id xs) (sym (eqb-true (number x) (number new) is))
          | false ↦ λ _. ap (λ b. (number x == id) || b) (number_replaced new id xs)
        ]) refl

    -- rows of another id are taken out
    number_left : (gone id : ℕ) → (id == gone) ≡ false → (xs : List X) → has_number id xs ≡ true → has_number id (filter (λ x. not (number x == gone)) xs) ≡ true
    number_left gone id other [] some = some
    number_left gone id other (x ∷ xs) some =
        (elim (number x == gone) as (λ b. (number x == gone) ≡ b → has_number id (cond {A = List X} (not b) (x ∷ filter (λ y. not (number y == gone)) xs) (filter (λ y. not (number y == gone)) xs)) ≡ true) [
          | true ↦ λ is. number_left gone id other xs (sym (ap (λ n. (n == id) || has_number id xs) (eqb-true (number x) gone is) ∙ ap (λ b. b || has_number id xs) (number_flips gone id ∙ other)) ∙ some)
          | false ↦ λ _. first_or_later (number x == id) (has_number id xs) (has_number id (filter (λ y. not (number y == gone)) xs)) (number_left gone id other xs) some
        ]) refl
      where
        first_or_later : (a b c : Bool) → (b ≡ true → c ≡ true) → (a || b) ≡ true → (a || c) ≡ true
        first_or_later true b c next holds = refl
        first_or_later false b c next holds = next holds

-- ---- references

-- what a reference names is there before, and after
if_set_weaker : (P Q : ℕ → Type 0) → ((id : ℕ) → P id → Q id) → (o : Option ℕ) → IfSome o P → IfSome o Q
if_set_weaker P Q weaker None holds = tt
if_set_weaker P Q weaker (Some id) holds = weaker id holds

if_set_left : (gone : ℕ) (P Q : ℕ → Type 0) → ((id : ℕ) → (id == gone) ≡ false → P id → Q id) → (o : Option ℕ) → not (refers_to gone o) ≡ true → IfSome o P → IfSome o Q
if_set_left gone P Q weaker None other holds = tt
if_set_left gone P Q weaker (Some id) other holds = weaker id (untrue (id == gone) other) holds

if_set_named : (of_kind : Kind) (rows : RowLists) (o : Option ℕ) → has_if_set of_kind o rows ≡ true → IfSome o (λ id. has_row of_kind id rows ≡ true)
if_set_named of_kind rows None holds = tt
if_set_named of_kind rows (Some id) holds = holds

-- the services, routes and consumers of the rows are there later
abbrev Stay : RowLists → RowLists → Type 0
Stay rows later =
    ((id : ℕ) → has_service id rows ≡ true → has_service id later ≡ true)
    × ((id : ℕ) → has_route id rows ≡ true → has_route id later ≡ true)
    × ((id : ℕ) → has_consumer id rows ≡ true → has_consumer id later ≡ true)

module _ (there : RowLists) where
  abbrev NamesService : PluginRow → Type 0
  NamesService r = IfSome r.scope.service (λ id. has_service id there ≡ true)

  abbrev NamesRoute : PluginRow → Type 0
  NamesRoute r = IfSome r.scope.route (λ id. has_route id there ≡ true)

  abbrev NamesConsumer : PluginRow → Type 0
  NamesConsumer r = IfSome r.scope.consumer (λ id. has_consumer id there ≡ true)

  -- what the rows of each kind name is there
  abbrev named_rows : Said
  named_rows = record {
    services = λ _. ⊤;
    routes = All (λ (r : Route). has_service r.service there ≡ true);
    consumers = λ _. ⊤;
    key_creds = All (λ (r : KeyCred). has_consumer r.consumer there ≡ true);
    basic_creds = All (λ (r : BasicCred). has_consumer r.consumer there ≡ true);
    acls = All (λ (r : AclRow). has_consumer r.consumer there ≡ true);
    plugins = λ rows. All NamesService rows × All NamesRoute rows × All NamesConsumer rows;
  }

  fewer_named : Fewer named_rows
  fewer_named = record {
    services = λ p rows all. tt;
    routes = λ p rows all. All-filter p (λ (r : Route). has_service r.service there ≡ true) rows all;
    consumers = λ p rows all. tt;
    key_creds = λ p rows all. All-filter p (λ (r : KeyCred). has_consumer r.consumer there ≡ true) rows all;
    basic_creds = λ p rows all. All-filter p (λ (r : BasicCred). has_consumer r.consumer there ≡ true) rows all;
    acls = λ p rows all. All-filter p (λ (r : AclRow). has_consumer r.consumer there ≡ true) rows all;
    plugins = λ p rows all. (All-filter p NamesService rows all.0, All-filter p NamesRoute rows all.1, All-filter p NamesConsumer rows all.2);
  }

  -- what a new scope names is there
  scope_named : (plugin : PluginRow) → has_scope plugin.scope there ≡ true → NamesService plugin × NamesRoute plugin × NamesConsumer plugin
  scope_named plugin named =
      let at_service = has_if_set kind.Service plugin.scope.service there in
      let at_route = has_if_set kind.Route plugin.scope.route there in
      let at_consumer = has_if_set kind.Consumer plugin.scope.consumer there in
      let first = both_first (at_service && at_route) at_consumer named in (
        if_set_named kind.Service there plugin.scope.service (both_first at_service at_route first),
        if_set_named kind.Route there plugin.scope.route (both_second at_service at_route first),
        if_set_named kind.Consumer there plugin.scope.consumer (both_second (at_service && at_route) at_consumer named),
      )

module _ (rows : RowLists) (refers : HasReferences rows) where
  before : EachKind (named_rows rows) rows
  before = (
    tt,
    refers.routes,
    tt,
    refers.key_creds,
    refers.basic_creds,
    refers.acls,
    (refers.services_of_plugins, refers.routes_of_plugins, refers.consumers_of_plugins),
  )

  -- what is named stays there
  stays_named : (later : RowLists) → Stay rows later → EachKind (named_rows later) rows
  stays_named later stay = (
    tt,
    all_weaker (λ r. has_service r.service rows ≡ true) (λ r. has_service r.service later ≡ true) (λ r. stay.0 r.service) rows.routes refers.routes,
    tt,
    all_weaker (λ r. has_consumer r.consumer rows ≡ true) (λ r. has_consumer r.consumer later ≡ true) (λ r. stay.2 r.consumer) rows.key_creds refers.key_creds,
    all_weaker (λ r. has_consumer r.consumer rows ≡ true) (λ r. has_consumer r.consumer later ≡ true) (λ r. stay.2 r.consumer) rows.basic_creds refers.basic_creds,
    all_weaker (λ r. has_consumer r.consumer rows ≡ true) (λ r. has_consumer r.consumer later ≡ true) (λ r. stay.2 r.consumer) rows.acls refers.acls,
    (
      all_weaker (NamesService rows) (NamesService later) (λ r. if_set_weaker (λ id. has_service id rows ≡ true) (λ id. has_service id later ≡ true) stay.0 r.scope.service) rows.plugins refers.services_of_plugins,
      all_weaker (NamesRoute rows) (NamesRoute later) (λ r. if_set_weaker (λ id. has_route id rows ≡ true) (λ id. has_route id later ≡ true) stay.1 r.scope.route) rows.plugins refers.routes_of_plugins,
      all_weaker (NamesConsumer rows) (NamesConsumer later) (λ r. if_set_weaker (λ id. has_consumer id rows ≡ true) (λ id. has_consumer id later ≡ true) stay.2 r.scope.consumer) rows.plugins refers.consumers_of_plugins,
    ),
  )

  abbrev Refers : Command → Type 0
  Refers command = EachKind (named_rows (changed command rows)) (changed command rows)

  -- ---- rows that are inserted

  stay_inserted : (new : Entity) → Stay rows (changed (Insert new) rows)
  stay_inserted (row.Service new) = (λ id. any_push (λ r. r.id == id) new rows.services, λ id there. there, λ id there. there)
  stay_inserted (row.Route new) = (λ id there. there, λ id. any_push (λ r. r.id == id) new rows.routes, λ id there. there)
  stay_inserted (row.Consumer new) = (λ id there. there, λ id there. there, λ id. any_push (λ r. r.id == id) new rows.consumers)
  stay_inserted (row.KeyCred new) = (λ id there. there, λ id there. there, λ id there. there)
  stay_inserted (row.BasicCred new) = (λ id there. there, λ id there. there, λ id there. there)
  stay_inserted (row.Acl new) = (λ id there. there, λ id there. there, λ id there. there)
  stay_inserted (row.Plugin new) = (λ id there. there, λ id there. there, λ id there. there)

  inserted_refers : (new : Entity) → has_named_rows new rows ≡ true → EachKind (named_rows (changed (Insert new) rows)) rows → Refers (Insert new)
  inserted_refers (row.Service new) named each = with_services (named_rows (changed (Insert (row.Service new)) rows)) rows each (rows.services ++ new ∷ []) tt
  inserted_refers (row.Route new) named each =
      with_routes (named_rows (changed (Insert (row.Route new)) rows)) rows each (rows.routes ++ new ∷ []) (All-push (λ (r : Route). has_service r.service rows ≡ true) rows.routes new refers.routes named)
  inserted_refers (row.Consumer new) named each = with_consumers (named_rows (changed (Insert (row.Consumer new)) rows)) rows each (rows.consumers ++ new ∷ []) tt
  inserted_refers (row.KeyCred new) named each =
      with_key_creds (named_rows (changed (Insert (row.KeyCred new)) rows)) rows each (rows.key_creds ++ new ∷ []) (All-push (λ (r : KeyCred). has_consumer r.consumer rows ≡ true) rows.key_creds new refers.key_creds named)
  inserted_refers (row.BasicCred new) named each =
      with_basic_creds (named_rows (changed (Insert (row.BasicCred new)) rows)) rows each (rows.basic_creds ++ new ∷ []) (All-push (λ (r : BasicCred). has_consumer r.consumer rows ≡ true) rows.basic_creds new refers.basic_creds named)
  inserted_refers (row.Acl new) named each =
      with_acls (named_rows (changed (Insert (row.Acl new)) rows)) rows each (rows.acls ++ new ∷ []) (All-push (λ (r : AclRow). has_consumer r.consumer rows ≡ true) rows.acls new refers.acls named)
  inserted_refers (row.Plugin new) named each =
      let named_all = scope_named rows new named in
      with_plugins (named_rows (changed (Insert (row.Plugin new)) rows)) rows each (rows.plugins ++ new ∷ []) (
        All-push (NamesService rows) rows.plugins new refers.services_of_plugins named_all.0,
        All-push (NamesRoute rows) rows.plugins new refers.routes_of_plugins named_all.1,
        All-push (NamesConsumer rows) rows.plugins new refers.consumers_of_plugins named_all.2,
      )

  -- ---- rows that are replaced

  stay_updated : (new : Entity) → Stay rows (changed (Update new) rows)
  stay_updated (row.Service new) = (λ id there. number_replaced (λ r. r.id) new id rows.services ∙ there, λ id there. there, λ id there. there)
  stay_updated (row.Route new) = (λ id there. there, λ id there. number_replaced (λ r. r.id) new id rows.routes ∙ there, λ id there. there)
  stay_updated (row.Consumer new) = (λ id there. there, λ id there. there, λ id there. number_replaced (λ r. r.id) new id rows.consumers ∙ there)
  stay_updated (row.KeyCred new) = (λ id there. there, λ id there. there, λ id there. there)
  stay_updated (row.BasicCred new) = (λ id there. there, λ id there. there, λ id there. there)
  stay_updated (row.Acl new) = (λ id there. there, λ id there. there, λ id there. there)
  stay_updated (row.Plugin new) = (λ id there. there, λ id there. there, λ id there. there)

  updated_refers : (new : Entity) → has_named_rows new rows ≡ true → EachKind (named_rows (changed (Update new) rows)) rows → Refers (Update new)
  updated_refers (row.Service new) named each = with_services (named_rows (changed (Update (row.Service new)) rows)) rows each (replaced (λ r. r.id == new.id) new rows.services) tt
  updated_refers (row.Route new) named each =
      with_routes (named_rows (changed (Update (row.Route new)) rows)) rows each (replaced (λ r. r.id == new.id) new rows.routes) (all_replaced (λ (r : Route). has_service r.service rows ≡ true) (λ r. r.id == new.id) new named rows.routes refers.routes)
  updated_refers (row.Consumer new) named each = with_consumers (named_rows (changed (Update (row.Consumer new)) rows)) rows each (replaced (λ r. r.id == new.id) new rows.consumers) tt
  updated_refers (row.KeyCred new) named each =
      with_key_creds (named_rows (changed (Update (row.KeyCred new)) rows)) rows each (replaced (λ r. r.id == new.id) new rows.key_creds) (all_replaced (λ (r : KeyCred). has_consumer r.consumer rows ≡ true) (λ r. r.id == new.id) new named rows.key_creds refers.key_creds)
  updated_refers (row.BasicCred new) named each =
      with_basic_creds (named_rows (changed (Update (row.BasicCred new)) rows)) rows each (replaced (λ r. r.id == new.id) new rows.basic_creds) (all_replaced (λ (r : BasicCred). has_consumer r.consumer rows ≡ true) (λ r. r.id == new.id) new named rows.basic_creds refers.basic_creds)
  updated_refers (row.Acl new) named each =
      with_acls (named_rows (changed (Update (row.Acl new)) rows)) rows each (replaced (λ r. r.id == new.id) new rows.acls) (all_replaced (λ (r : AclRow). has_consumer r.consumer rows ≡ true) (λ r. r.id == new.id) new named rows.acls refers.acls)
  updated_refers (row.Plugin new) named each =
      let named_all = scope_named rows new named in
      with_plugins (named_rows (changed (Update (row.Plugin new)) rows)) rows each (replaced (λ r. r.id == new.id) new rows.plugins) (
        all_replaced (NamesService rows) (λ r. r.id == new.id) new named_all.0 rows.plugins refers.services_of_plugins,
        all_replaced (NamesRoute rows) (λ r. r.id == new.id) new named_all.1 rows.plugins refers.routes_of_plugins,
        all_replaced (NamesConsumer rows) (λ r. r.id == new.id) new named_all.2 rows.plugins refers.consumers_of_plugins,
      )

  -- ---- rows that are taken out

  deleted_refers : (of_kind : Kind) (id : ℕ) → is_unused of_kind id rows ≡ true → Refers (Delete of_kind id)
  deleted_refers kind.Service id unused =
      let later = changed (Delete kind.Service id) rows in
      let stay : (other : ℕ) → (other == id) ≡ false → has_service other rows ≡ true → has_service other later ≡ true = λ other apart. number_left (λ r. r.id) id other apart rows.services in
      let unnamed : PluginRow → Bool = λ plugin. not (names_row kind.Service id plugin) in (
        tt,
        all_failing (λ r. r.service == id) (λ (r : Route). has_service r.service rows ≡ true) (λ r. has_service r.service later ≡ true) (λ r. stay r.service) rows.routes (untrue _ unused) refers.routes,
        tt,
        refers.key_creds,
        refers.basic_creds,
        refers.acls,
        (
          all_left unnamed (NamesService rows) (NamesService later) (λ r. if_set_left id (λ other. has_service other rows ≡ true) (λ other. has_service other later ≡ true) stay r.scope.service) rows.plugins refers.services_of_plugins,
          All-filter unnamed (NamesRoute rows) rows.plugins refers.routes_of_plugins,
          All-filter unnamed (NamesConsumer rows) rows.plugins refers.consumers_of_plugins,
        ),
      )
  deleted_refers kind.Route id unused =
      let later = changed (Delete kind.Route id) rows in
      let stay : (other : ℕ) → (other == id) ≡ false → has_route other rows ≡ true → has_route other later ≡ true = λ other apart. number_left (λ r. r.id) id other apart rows.routes in
      let unnamed : PluginRow → Bool = λ plugin. not (names_row kind.Route id plugin) in (
        tt,
        All-filter (λ r. not (r.id == id)) (λ (r : Route). has_service r.service rows ≡ true) rows.routes refers.routes,
        tt,
        refers.key_creds,
        refers.basic_creds,
        refers.acls,
        (
          All-filter unnamed (NamesService rows) rows.plugins refers.services_of_plugins,
          all_left unnamed (NamesRoute rows) (NamesRoute later) (λ r. if_set_left id (λ other. has_route other rows ≡ true) (λ other. has_route other later ≡ true) stay r.scope.route) rows.plugins refers.routes_of_plugins,
          All-filter unnamed (NamesConsumer rows) rows.plugins refers.consumers_of_plugins,
        ),
      )
  deleted_refers kind.Consumer id unused =
      let later = changed (Delete kind.Consumer id) rows in
      let stay : (other : ℕ) → (other == id) ≡ false → has_consumer other rows ≡ true → has_consumer other later ≡ true = λ other apart. number_left (λ r. r.id) id other apart rows.consumers in
      let unnamed : PluginRow → Bool = λ plugin. not (names_row kind.Consumer id plugin) in (
        tt,
        refers.routes,
        tt,
        all_left (λ r. not (r.consumer == id)) (λ (r : KeyCred). has_consumer r.consumer rows ≡ true) (λ r. has_consumer r.consumer later ≡ true) (λ r apart. stay r.consumer (untrue (r.consumer == id) apart)) rows.key_creds refers.key_creds,
        all_left (λ r. not (r.consumer == id)) (λ (r : BasicCred). has_consumer r.consumer rows ≡ true) (λ r. has_consumer r.consumer later ≡ true) (λ r apart. stay r.consumer (untrue (r.consumer == id) apart)) rows.basic_creds refers.basic_creds,
        all_left (λ r. not (r.consumer == id)) (λ (r : AclRow). has_consumer r.consumer rows ≡ true) (λ r. has_consumer r.consumer later ≡ true) (λ r apart. stay r.consumer (untrue (r.consumer == id) apart)) rows.acls refers.acls,
        (
          All-filter unnamed (NamesService rows) rows.plugins refers.services_of_plugins,
          All-filter unnamed (NamesRoute rows) rows.plugins refers.routes_of_plugins,
          all_left unnamed (NamesConsumer rows) (NamesConsumer later) (λ r. if_set_left id (λ other. has_consumer other rows ≡ true) (λ other. has_consumer other later ≡ true) stay r.scope.consumer) rows.plugins refers.consumers_of_plugins,
        ),
      )
  deleted_refers kind.KeyCred id unused = deleted_each (named_rows rows) (fewer_named rows) rows before kind.KeyCred id
  deleted_refers kind.BasicCred id unused = deleted_each (named_rows rows) (fewer_named rows) rows before kind.BasicCred id
  deleted_refers kind.Acl id unused = deleted_each (named_rows rows) (fewer_named rows) rows before kind.Acl id
  deleted_refers kind.Plugin id unused = deleted_each (named_rows rows) (fewer_named rows) rows before kind.Plugin id

  each_refers : (done : Command) → is_consistent rows done ≡ true → Refers done
  each_refers (Insert new) consistent =
      let fresh = not (has_row (kind_of new) (id_of_row new) rows) in
      inserted_refers new (both_second fresh (has_named_rows new rows) (both_first (fresh && has_named_rows new rows) (is_unique new rows) consistent))
      (stays_named (changed (Insert new) rows) (stay_inserted new))
  each_refers (Update new) consistent =
      let there = has_row (kind_of new) (id_of_row new) rows in
      updated_refers new (both_second there (has_named_rows new rows) (both_first (there && has_named_rows new rows) (is_unique new rows) consistent))
      (stays_named (changed (Update new) rows) (stay_updated new))
  each_refers (Delete of_kind id) consistent = deleted_refers of_kind id (both_second (has_row of_kind id rows) (is_unused of_kind id rows) consistent)

  pub changed_refers : (done : Command) → is_consistent rows done ≡ true → HasReferences (changed done rows)
  changed_refers done consistent =
      let each = each_refers done consistent in
      record {
        routes = each.1;
        key_creds = each.3;
        basic_creds = each.4;
        acls = each.5;
        services_of_plugins = each.6.0;
        routes_of_plugins = each.6.1;
        consumers_of_plugins = each.6.2;
      }
