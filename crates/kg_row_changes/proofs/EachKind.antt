-- Something said of the list of each kind, where lists are changed.
use Rattle.std.proofs.Common.{ℕ, ◌==◌, Bool, not, List, filter}
use Rattle.kg_row_types.specs.RowChanges.{names_row, removed, without_credentials_of, without_plugins_of}
use Rattle.kg_row_types.specs.RowLists.{RowLists}
use Rattle.kg_row_types.specs.declared.consumer.AclRow.{AclRow}
use Rattle.kg_row_types.specs.declared.consumer.BasicCred.{BasicCred}
use Rattle.kg_row_types.specs.declared.consumer.Consumer.{Consumer}
use Rattle.kg_row_types.specs.declared.consumer.KeyCred.{KeyCred}
use Rattle.kg_row_types.specs.declared.entity.Kind.{Kind}
use Rattle.kg_row_types.specs.declared.entity.Kind.TheVariants as kind
use Rattle.kg_row_types.specs.declared.plugin.PluginRow.{PluginRow}
use Rattle.kg_row_types.specs.declared.route.Route.{Route}
use Rattle.kg_row_types.specs.declared.service.Service.{Service}
use Rattle.kg_row_values.specs.Rows.{deleted}

-- what is said of the list of each kind
pub record Said : Type 1 where
  pub services : List Service → Type 0
  pub routes : List Route → Type 0
  pub consumers : List Consumer → Type 0
  pub key_creds : List KeyCred → Type 0
  pub basic_creds : List BasicCred → Type 0
  pub acls : List AclRow → Type 0
  pub plugins : List PluginRow → Type 0

module _ (said : Said) where
  -- it is so of each list
  abbrev pub EachKind : RowLists → Type 0
  EachKind rows =
      said.services rows.services
      × said.routes rows.routes
      × said.consumers rows.consumers
      × said.key_creds rows.key_creds
      × said.basic_creds rows.basic_creds
      × said.acls rows.acls
      × said.plugins rows.plugins

  module _ (rows : RowLists) (each : EachKind rows) where
    pub with_services : (list : List Service) → said.services list → EachKind (record rows { services = list })
    with_services list so = (so, each.1, each.2, each.3, each.4, each.5, each.6)

    pub with_routes : (list : List Route) → said.routes list → EachKind (record rows { routes = list })
    with_routes list so = (each.0, so, each.2, each.3, each.4, each.5, each.6)

    pub with_consumers : (list : List Consumer) → said.consumers list → EachKind (record rows { consumers = list })
    with_consumers list so = (each.0, each.1, so, each.3, each.4, each.5, each.6)

    pub with_key_creds : (list : List KeyCred) → said.key_creds list → EachKind (record rows { key_creds = list })
    with_key_creds list so = (each.0, each.1, each.2, so, each.4, each.5, each.6)

    pub with_basic_creds : (list : List BasicCred) → said.basic_creds list → EachKind (record rows { basic_creds = list })
    with_basic_creds list so = (each.0, each.1, each.2, each.3, so, each.5, each.6)

    pub with_acls : (list : List AclRow) → said.acls list → EachKind (record rows { acls = list })
    with_acls list so = (each.0, each.1, each.2, each.3, each.4, so, each.6)

    pub with_plugins : (list : List PluginRow) → said.plugins list → EachKind (record rows { plugins = list })
    with_plugins list so = (each.0, each.1, each.2, each.3, each.4, each.5, so)

-- what is said of a list is so of fewer of its rows
pub record Fewer (said : Said) : Type 0 where
  pub services : (p : Service → Bool) (rows : List Service) → said.services rows → said.services (filter p rows)
  pub routes : (p : Route → Bool) (rows : List Route) → said.routes rows → said.routes (filter p rows)
  pub consumers : (p : Consumer → Bool) (rows : List Consumer) → said.consumers rows → said.consumers (filter p rows)
  pub key_creds : (p : KeyCred → Bool) (rows : List KeyCred) → said.key_creds rows → said.key_creds (filter p rows)
  pub basic_creds : (p : BasicCred → Bool) (rows : List BasicCred) → said.basic_creds rows → said.basic_creds (filter p rows)
  pub acls : (p : AclRow → Bool) (rows : List AclRow) → said.acls rows → said.acls (filter p rows)
  pub plugins : (p : PluginRow → Bool) (rows : List PluginRow) → said.plugins rows → said.plugins (filter p rows)

module _ (said : Said) (fewer : Fewer said) where
  removed_each : (rows : RowLists) → EachKind said rows → (of_kind : Kind) (id : ℕ) → EachKind said (removed of_kind id rows)
  removed_each rows each kind.Service id = with_services said rows each (filter (λ row. not (row.id == id)) rows.services) (fewer.services (λ row. not (row.id == id)) rows.services each.0)
  removed_each rows each kind.Route id = with_routes said rows each (filter (λ row. not (row.id == id)) rows.routes) (fewer.routes (λ row. not (row.id == id)) rows.routes each.1)
  removed_each rows each kind.Consumer id = with_consumers said rows each (filter (λ row. not (row.id == id)) rows.consumers) (fewer.consumers (λ row. not (row.id == id)) rows.consumers each.2)
  removed_each rows each kind.KeyCred id = with_key_creds said rows each (filter (λ row. not (row.id == id)) rows.key_creds) (fewer.key_creds (λ row. not (row.id == id)) rows.key_creds each.3)
  removed_each rows each kind.BasicCred id = with_basic_creds said rows each (filter (λ row. not (row.id == id)) rows.basic_creds) (fewer.basic_creds (λ row. not (row.id == id)) rows.basic_creds each.4)
  removed_each rows each kind.Acl id = with_acls said rows each (filter (λ row. not (row.id == id)) rows.acls) (fewer.acls (λ row. not (row.id == id)) rows.acls each.5)
  removed_each rows each kind.Plugin id = with_plugins said rows each (filter (λ row. not (row.id == id)) rows.plugins) (fewer.plugins (λ row. not (row.id == id)) rows.plugins each.6)

  -- without the plugins that name a row
  left_each : (rows : RowLists) → EachKind said rows → (of_kind : Kind) (id : ℕ) → EachKind said (without_plugins_of of_kind id rows)
  left_each rows each of_kind id =
      let unnamed : PluginRow → Bool = λ plugin. not (names_row of_kind id plugin) in
      with_plugins said rows each (filter unnamed rows.plugins) (fewer.plugins unnamed rows.plugins each.6)

  -- without the credentials and the groups of a consumer
  alone_each : (rows : RowLists) → EachKind said rows → (id : ℕ) → EachKind said (without_credentials_of id rows)
  alone_each rows each id = (
    each.0,
    each.1,
    each.2,
    fewer.key_creds (λ row. not (row.consumer == id)) rows.key_creds each.3,
    fewer.basic_creds (λ row. not (row.consumer == id)) rows.basic_creds each.4,
    fewer.acls (λ row. not (row.consumer == id)) rows.acls each.5,
    each.6,
  )

  -- without a row and what can't stand without it
  pub deleted_each : (rows : RowLists) → EachKind said rows → (of_kind : Kind) (id : ℕ) → EachKind said (deleted of_kind id rows)
  deleted_each rows each kind.Service id = left_each (removed kind.Service id rows) (removed_each rows each kind.Service id) kind.Service id
  deleted_each rows each kind.Route id = left_each (removed kind.Route id rows) (removed_each rows each kind.Route id) kind.Route id
  deleted_each rows each kind.Consumer id =
      let gone = removed kind.Consumer id rows in
      left_each (without_credentials_of id gone) (alone_each gone (removed_each rows each kind.Consumer id) id) kind.Consumer id
  deleted_each rows each kind.KeyCred id = removed_each rows each kind.KeyCred id
  deleted_each rows each kind.BasicCred id = removed_each rows each kind.BasicCred id
  deleted_each rows each kind.Acl id = removed_each rows each kind.Acl id
  deleted_each rows each kind.Plugin id = removed_each rows each kind.Plugin id
