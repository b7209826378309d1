-- The rules between the fields of a body, its base and the rows that it names (Kong Admin API, the
-- entities' pages and the page of each plugin; the words are this project's own).
use Rattle.std.specs.Prelude.{ℕ, ◌==◌, Bool, false, not, ◌&&◌, ◌||◌, List, [], ◌∷◌, ◌++◌, length, Option, Some, None, is_some, is_none, codes, if◌then◌else◌}
use Rattle.std.specs.Option.{option_map_or}
use Rattle.std.specs.Str.{bytes_eq}
use Rattle.serde_json.specs.Data.{Data}
use Rattle.serde_json.specs.Find.{as_object, get}
use Rattle.kg_row_types.specs.PluginNames.{same_plugin}
use Rattle.kg_row_types.specs.declared.config.Acl.{Acl}
use Rattle.kg_row_types.specs.declared.config.Config.{Config}
use Rattle.kg_row_types.specs.declared.config.Config.TheVariants as config_of
use Rattle.kg_row_types.specs.declared.config.IpRestriction.{IpRestriction}
use Rattle.kg_row_types.specs.declared.config.RateLimiting.{RateLimiting}
use Rattle.kg_row_types.specs.declared.config.Termination.{Termination}
use Rattle.kg_row_types.specs.ValidRows.{is_for_no_consumer}
use Rattle.kg_row_types.specs.declared.consumer.AclRow.{AclRow}
use Rattle.kg_row_types.specs.declared.consumer.BasicCred.{BasicCred}
use Rattle.kg_row_types.specs.declared.consumer.Consumer.{Consumer}
use Rattle.kg_row_types.specs.declared.consumer.KeyCred.{KeyCred}
use Rattle.kg_row_types.specs.declared.entity.Entity.{Entity}
use Rattle.kg_row_types.specs.declared.entity.Entity.TheVariants as row
use Rattle.kg_row_types.specs.declared.entity.Kind.{Kind}
use Rattle.kg_row_types.specs.declared.entity.Kind.TheVariants as kind
use Rattle.kg_row_types.specs.declared.plugin.PluginName.{PluginName}
use Rattle.kg_row_types.specs.declared.plugin.PluginRow.{PluginRow}
use Rattle.kg_row_types.specs.declared.route.Route.{Route}
use Rattle.kg_row_types.specs.declared.service.Service.{Service}
use Rattle.kg_row_making.specs.Bases.{BaseValue, acl_owner, basic_owner, fixed_id, given_word, key_owner, old_as, old_plugin, route_of}
use Rattle.kg_field_tables.specs.BrokenRules.{violations_in, named_plugin}
use Rattle.kg_schema.specs.Finished.{row_over}
use Rattle.kg_field_tables.specs.Judging.{is_set}
use Rattle.kg_field_rules.specs.Rules.{BrokenRule}
use Rattle.kg_bodies.specs.Settings.{id_at, inside}
use Rattle.kg_bodies.specs.TableSettings.{text_in}
use Rattle.kg_field_rules.specs.TextRules.{text_rule}
use Rattle.kg_row_making.specs.declared.base.Links.{Links}
use Rattle.kg_row_making.specs.declared.base.ParentField.{ParentField}
use Rattle.kg_row_making.specs.declared.base.ParentField.TheVariants as parent
use Rattle.kg_field_rules.specs.declared.rule.Rule.{Rule}
use Rattle.kg_field_rules.specs.declared.rule.Rule.TheVariants.{Required, Fixed, Exclusive}
use Rattle.kg_field_tables.specs.FieldTables.{field_of, table_of}
use Rattle.kg_field_tables.specs.declared.shape.Shape.TheVariants as shape
use Rattle.kg_field_tables.specs.declared.table.Field.{Field}
use Rattle.kg_field_tables.specs.declared.table.Field.TheVariants.{Judged}
use Rattle.kg_field_tables.specs.declared.table.Table.TheVariants as table

-- the rule at this field, if it is broken
abbrev pub violation_if : Bool → List ℕ → Rule → List BrokenRule
violation_if broken field rule = if broken then (field, rule) ∷ [] else []

-- ---- what the base and the parent fix

-- both are there and differ
abbrev pub differ : {A : Type 0} → (A → A → Bool) → Option A → Option A → Bool
differ same a b = option_map_or (λ x. option_map_or (λ y. not (same x y)) b false) a false

abbrev pub same_number : ℕ → ℕ → Bool
same_number a b = a == b

-- the body names another id than the row has
abbrev pub id_violations : Data → BaseValue → List BrokenRule
id_violations body base = violation_if (differ same_number (id_at body) (fixed_id base)) (codes "id") Fixed

-- the field that a word stands for: a plugin has none
abbrev pub word_field : Kind → Option (List ℕ)
word_field kind.Service = Some (codes "name")
word_field kind.Route = Some (codes "name")
word_field kind.Consumer = Some (codes "username")
word_field kind.KeyCred = Some (codes "key")
word_field kind.BasicCred = Some (codes "username")
word_field kind.Acl = Some (codes "group")
word_field kind.Plugin = None

-- a text that breaks no rule of a field of texts
abbrev pub takes_text : Field → List ℕ → Bool
takes_text (Judged (shape.Text spelled) value) text = is_none (text_rule spelled text)
takes_text _ text = false

-- a text by which a row of this kind can be made
abbrev pub accepts_word : Kind → List ℕ → Bool
accepts_word kind text = option_map_or (λ field. takes_text (field_of (table_of kind None) field) text) (word_field kind) false

-- the body says another word than the one by which the row is made
abbrev pub word_violations : Kind → Data → BaseValue → List BrokenRule
word_violations kind body base =
    option_map_or (λ field. violation_if (differ bytes_eq (text_in (table_of kind None) field body) (given_word base)) field Fixed) (word_field kind) []

-- the field that names a parent
abbrev pub parent_text : ParentField → List ℕ
parent_text parent.Service = codes "service"
parent_text parent.Route = codes "route"
parent_text parent.Consumer = codes "consumer"

-- the body names another parent than the one under which the row stands
abbrev pub parent_violations : Option ParentField → List BrokenRule
parent_violations contradicted = option_map_or (λ field. (parent_text field, Fixed) ∷ []) contradicted []

-- ---- the finished row, by its kind

abbrev pub is_set_at : List ℕ → Data → Bool
is_set_at name body = option_map_or is_set (get name body) false

-- a url stands beside a part of it
abbrev pub doubles_url : Data → Bool
doubles_url body =
    is_set_at (codes "url") body
    && (is_set_at (codes "protocol") body || is_set_at (codes "host") body || is_set_at (codes "port") body || is_set_at (codes "path") body)

abbrev pub service_violations : Data → Service → List BrokenRule
service_violations body service =
    violation_if (doubles_url body) (codes "url") Exclusive
    ++ violation_if (length service.host == 0) (codes "host") Required

-- neither the caller nor the old row names the row that is needed
abbrev pub is_missing : {R : Type 0} → Option ℕ → Option R → Bool
is_missing link old = is_none old && is_none link

-- nothing is set that a request can fit
abbrev pub fits_nothing : Route → Bool
fits_nothing route =
    length route.methods == 0 && length route.hosts == 0 && length route.headers == 0 && length route.paths == 0

abbrev pub route_violations : BaseValue → Links → Route → List BrokenRule
route_violations base links route =
    violation_if (is_missing links.service (old_as route_of base)) (codes "service") Required
    ++ violation_if (fits_nothing route) (codes "paths") Required

abbrev pub consumer_violations : Consumer → List BrokenRule
consumer_violations consumer =
    violation_if (is_none consumer.username && is_none consumer.custom_id) (codes "username") Required

-- the consumer of a credential or of a membership is required, and never another than the old one
abbrev pub owner_violations : Links → Option ℕ → List BrokenRule
owner_violations links old =
    violation_if (is_missing links.consumer old) (codes "consumer") Required
    ++ violation_if (differ same_number links.consumer old) (codes "consumer") Fixed

abbrev pub key_violations : BaseValue → Links → KeyCred → List BrokenRule
key_violations base links credential =
    owner_violations links (key_owner base)
    ++ violation_if (length credential.key == 0) (codes "key") Required

abbrev pub basic_violations : BaseValue → Links → BasicCred → List BrokenRule
basic_violations base links credential =
    owner_violations links (basic_owner base)
    ++ violation_if (length credential.username == 0) (codes "username") Required
    ++ violation_if (length credential.hash == 0) (codes "password") Required

abbrev pub acl_violations : BaseValue → Links → AclRow → List BrokenRule
acl_violations base links membership =
    owner_violations links (acl_owner base)
    ++ violation_if (length membership.group == 0) (codes "group") Required

-- ---- plugins

abbrev pub has_both : List (List ℕ) → List (List ℕ) → Bool
has_both a b = not (length a == 0) && not (length b == 0)

abbrev pub has_neither : List (List ℕ) → List (List ℕ) → Bool
has_neither a b = length a == 0 && length b == 0

abbrev pub groups_violations : Acl → List BrokenRule
groups_violations config =
    violation_if (has_both config.allow config.deny) (codes "config.allow") Exclusive
    ++ violation_if (has_neither config.allow config.deny) (codes "config.allow") Required

abbrev pub ip_restriction_violations : IpRestriction → List BrokenRule
ip_restriction_violations config = violation_if (has_neither config.allow config.deny) (codes "config.allow") Required

abbrev pub rate_limiting_violations : RateLimiting → List BrokenRule
rate_limiting_violations config =
    violation_if (is_none config.second && is_none config.minute && is_none config.hour && is_none config.day) (codes "config.minute") Required

abbrev pub termination_violations : Termination → List BrokenRule
termination_violations config =
    violation_if (is_some config.message && is_some config.body) (codes "config.message") Exclusive
    ++ violation_if (is_some config.content_type && is_none config.body) (codes "config.body") Required

-- the rules between the fields of a config
abbrev pub config_violations : Config → List BrokenRule
config_violations (config_of.Acl config) = groups_violations config
config_violations (config_of.IpRestriction config) = ip_restriction_violations config
config_violations (config_of.RateLimiting config) = rate_limiting_violations config
config_violations (config_of.RequestTermination config) = termination_violations config
config_violations _ = []

-- the violations of the fields of a plugin's config
abbrev pub config_field_violations : Data → PluginName → List BrokenRule
config_field_violations config name =
    option_map_or (λ members. violations_in members (table.Config name) (codes "config.")) (as_object config) []

-- where the old row alone tells the plugin, the fields of its config are judged by that name
abbrev pub unnamed_config_violations : Data → BaseValue → List BrokenRule
unnamed_config_violations body base =
    if is_none (named_plugin body)
    then option_map_or (config_field_violations (inside (codes "config") body)) (old_plugin base) []
    else []

-- the rules between the fields of a plugin whose name is known
abbrev pub known_plugin_violations : PluginRow → List BrokenRule
known_plugin_violations plugin =
    violation_if (is_for_no_consumer plugin.config && is_some plugin.scope.consumer) (codes "consumer") Fixed
    ++ config_violations plugin.config

abbrev pub plugin_violations : Data → BaseValue → PluginRow → List BrokenRule
plugin_violations body base plugin =
    unnamed_config_violations body base
    ++ (if is_none (named_plugin body) && is_none (old_plugin base)
    then (codes "name", Required) ∷ []
    else known_plugin_violations plugin)

-- ---- all rules

abbrev pub row_violations : Data → BaseValue → Links → Entity → List BrokenRule
row_violations body base links (row.Service service) = service_violations body service
row_violations body base links (row.Route route) = route_violations base links route
row_violations body base links (row.Consumer consumer) = consumer_violations consumer
row_violations body base links (row.KeyCred credential) = key_violations base links credential
row_violations body base links (row.BasicCred credential) = basic_violations base links credential
row_violations body base links (row.Acl membership) = acl_violations base links membership
row_violations body base links (row.Plugin plugin) = plugin_violations body base plugin

-- the body names another plugin than the old row has
abbrev pub is_renamed : Kind → Data → BaseValue → Bool
is_renamed kind.Plugin body base = differ same_plugin (named_plugin body) (old_plugin base)
is_renamed _ body base = false

-- the rules between fields that a body breaks over a base, with the rows that it names; `contradicted` is the
-- field of its parent, where the body names another one. Of a body that renames a plugin only that is told.
unfoldable pub violations_between : Kind → Data → BaseValue → Links → Option ParentField → List BrokenRule
violations_between kind body base links contradicted =
    if is_renamed kind body base
    then (codes "name", Fixed) ∷ []
    else id_violations body base
    ++ word_violations kind body base
    ++ parent_violations contradicted
    ++ row_violations body base links (row_over kind body base links)
