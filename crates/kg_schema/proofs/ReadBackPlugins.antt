-- A shown plugin makes the plugin again.
use Rattle.std.proofs.Common.{◌≡◌, ℕ, List, [], Option, Some, None, unwrap_or, refl, ap, ◌∙◌}
use Rattle.std.specs.Prelude.{IfSome}
use Rattle.serde_json.specs.Data.{string}
use Rattle.kg_row_types.specs.Ids.{IsId}
use Rattle.kg_row_types.specs.PluginNames.{plugin_named, plugin_of, plugin_text}
use Rattle.kg_row_types.specs.ValidRows.{IsValidPlugin}
use Rattle.kg_row_types.specs.declared.config.Config.{Config}
use Rattle.kg_row_types.specs.declared.entity.Entity.{Entity}
use Rattle.kg_row_types.specs.declared.entity.Entity.TheVariants as row
use Rattle.kg_row_types.specs.declared.entity.Kind.TheVariants as kind
use Rattle.kg_row_types.specs.declared.plugin.PluginName.{PluginName}
use Rattle.kg_row_types.specs.declared.plugin.PluginName.TheVariants as plugin
use Rattle.kg_row_types.specs.declared.plugin.PluginRow.{PluginRow}
use Rattle.kg_field_rules.specs.declared.text_kind.Choice.TheVariants as choice
use Rattle.kg_field_tables.specs.BrokenRules.{field_violations, violations_in, violations_inside}
use Rattle.kg_field_tables.specs.Judging.{judged}
use Rattle.kg_field_tables.specs.declared.reference.Mention.{Mention}
use Rattle.kg_field_tables.specs.declared.reference.Mention.TheVariants as mention
use Rattle.kg_field_tables.specs.declared.shape.Shape.TheVariants as shape
use Rattle.kg_field_tables.specs.declared.default_value.DefaultValue.TheVariants.{Unset}
use Rattle.kg_field_tables.specs.declared.table.Field.TheVariants.{Judged}
use Rattle.kg_field_tables.specs.declared.table.Table.TheVariants as table
use Rattle.kg_row_making.specs.Bases.{Again}
use Rattle.kg_row_making.specs.FinishedConfigs.{config_over, default_config}
use Rattle.kg_schema.proofs.ReadBackConfigs.{config_read_back}
use Rattle.kg_schema.proofs.ReadBackParts.{none_broken, or_none, printed_id, reference_rule}
use Rattle.kg_schema.specs.Finished.{row_over}
use Rattle.kg_schema.specs.ReadBack.{IsReadBack, named_by}
use Rattle.kg_shown_rows.specs.Shown.{plugin_members, shown}
use Rattle.kg_shown_rows.specs.ShownConfigs.{shown_config}
use Rattle.kg_shown_rows.specs.ShownParts.{members_of, shown_link}

-- ---- the name

named_again : (name : PluginName) → plugin_named (plugin_text name) ≡ Some name
named_again plugin.Cors = refl
named_again plugin.KeyAuth = refl
named_again plugin.BasicAuth = refl
named_again plugin.IpRestriction = refl
named_again plugin.RequestSizeLimiting = refl
named_again plugin.Acl = refl
named_again plugin.RateLimiting = refl
named_again plugin.RequestTransformer = refl
named_again plugin.ResponseTransformer = refl
named_again plugin.RequestTermination = refl

name_rule : (name : PluginName) → judged (shape.OneOf choice.Plugin) (string (plugin_text name)) ≡ None
name_rule plugin.Cors = refl
name_rule plugin.KeyAuth = refl
name_rule plugin.BasicAuth = refl
name_rule plugin.IpRestriction = refl
name_rule plugin.RequestSizeLimiting = refl
name_rule plugin.Acl = refl
name_rule plugin.RateLimiting = refl
name_rule plugin.RequestTransformer = refl
name_rule plugin.ResponseTransformer = refl
name_rule plugin.RequestTermination = refl

-- ---- the scope

link_rule : (how : Mention) (link : Option ℕ) → IfSome link IsId → judged (shape.Reference how) (shown_link link) ≡ None
link_rule how None is = refl
link_rule how (Some id) is = reference_rule how id is

link_inside : (how : Mention) (link : Option ℕ) (path : List ℕ) → violations_inside (shown_link link) (Judged (shape.Reference how) Unset) path ≡ []
link_inside how None path = refl
link_inside how (Some id) path = refl

-- ---- the whole plugin

module _ (old : PluginRow) (valid : IsValidPlugin old) where
  members_accepted : violations_in (members_of (plugin_members old)) (table.Plugin (Some (plugin_of old.config))) [] ≡ []
  members_accepted = none_broken (table.Plugin (Some (plugin_of old.config))) [] (plugin_members old) (
    record { rule = refl; inside = (config_read_back old.config valid.config).accepted _ },
    (
      record { rule = link_rule mention.Username old.scope.consumer valid.scope.consumer; inside = link_inside mention.Username old.scope.consumer _ },
      (
        record { rule = refl; inside = refl },
        (
          record { rule = refl; inside = refl },
          (
            record { rule = printed_id old.id valid.id; inside = refl },
            (
              record { rule = name_rule (plugin_of old.config); inside = refl },
              (
                record { rule = link_rule mention.Name old.scope.route valid.scope.route; inside = link_inside mention.Name old.scope.route _ },
                (
                  record { rule = link_rule mention.Name old.scope.service valid.scope.service; inside = link_inside mention.Name old.scope.service _ },
                  tt,
                ),
              ),
            ),
          ),
        ),
      ),
    ),
  )

  accepted : field_violations kind.Plugin (shown (row.Plugin old)) ≡ []
  accepted = ap (λ found. violations_in (members_of (plugin_members old)) (table.Plugin found) []) (named_again (plugin_of old.config)) ∙ members_accepted

  -- the plugin with what is read
  abbrev made : Option ℕ → Option ℕ → Option ℕ → Config → Entity
  made service route consumer config = row.Plugin (record {
    id = old.id;
    scope = record { service = service; route = route; consumer = consumer };
    enabled = old.enabled;
    config = config;
    created_at = old.created_at;
  })

  same : (service service_read route route_read consumer consumer_read : Option ℕ) (config config_read : Config)
      → service_read ≡ service → route_read ≡ route → consumer_read ≡ consumer → config_read ≡ config
      → made service_read route_read consumer_read config_read ≡ made service route consumer config
  same service service_read route route_read consumer consumer_read config config_read a b c d = rw (a, b, c, d) refl

  again : (now : ℕ) → row_over kind.Plugin (shown (row.Plugin old)) (Again old.id old.created_at now) (named_by (row.Plugin old)) ≡ row.Plugin old
  unfolding row_over
  again now =
      same old.scope.service _ old.scope.route _ old.scope.consumer _ old.config _
      (or_none old.scope.service) (or_none old.scope.route) (or_none old.scope.consumer)
      (
      ap (λ found. config_over (shown_config old.config) (default_config (unwrap_or found plugin.Cors))) (named_again (plugin_of old.config))
      ∙ (config_read_back old.config valid.config).again
      )

pub plugin_read_back : (old : PluginRow) → IsValidPlugin old → IsReadBack (row.Plugin old)
plugin_read_back old valid = record { accepted = accepted old valid; again = again old valid }
