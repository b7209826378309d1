-- A finished plugin is valid.
use Rattle.std.proofs.Common.{◌≡◌, Bool, true, false, not, ◌&&◌, ◌||◌, List, [], ◌∷◌, None, is_none, is_some, unwrap_or, codes, if◌then◌else◌, refl}
use Rattle.serde_json.specs.Data.{Data}
use Rattle.kg_row_types.specs.Ids.{IsId}
use Rattle.kg_row_types.specs.ValidRows.{IsValidPlugin, IsValidScope, is_for_no_consumer}
use Rattle.kg_row_types.specs.declared.entity.Entity.TheVariants as row
use Rattle.kg_row_types.specs.declared.entity.Kind.TheVariants as kind
use Rattle.kg_row_types.specs.declared.plugin.PluginName.TheVariants as plugin
use Rattle.kg_row_types.specs.declared.plugin.PluginRow.{PluginRow}
use Rattle.kg_schema.proofs.ValidConfigs.{IsConfigBefore, config_ok, default_before, valid_before}
use Rattle.kg_schema.proofs.ValidIds.{stamps_ok}
use Rattle.kg_schema.proofs.ValidParts.{neither, not_broken, or_ok}
use Rattle.kg_row_making.specs.Bases.{BaseValue, New, Again, Word, Old, old_plugin, stamps_of}
use Rattle.kg_schema.specs.Between.{config_violations, violation_if, known_plugin_violations, plugin_violations, unnamed_config_violations}
use Rattle.kg_field_tables.specs.BrokenRules.{named_plugin}
use Rattle.kg_row_making.specs.RowsBefore.{plugin_before}
use Rattle.kg_schema.specs.Finished.{plugin_over}
use Rattle.kg_field_rules.specs.Rules.{BrokenRule}
use Rattle.kg_bodies.specs.Settings.{inside}
use Rattle.kg_schema.specs.ValidBases.{AreIds, HasId, IsValidBase}
use Rattle.kg_row_making.specs.declared.base.Links.{Links}
use Rattle.kg_row_making.specs.declared.base.Stamps.{Stamps}
use Rattle.kg_field_rules.specs.declared.rule.Rule.TheVariants.{Fixed, Required}

-- the ids in a plugin before a body sets anything
record HasIds (plugin : PluginRow) : Type 0 where
  id : IsId plugin.id
  scope : IsValidScope plugin.scope

no_scope : IsValidScope (record { service = None; route = None; consumer = None })
no_scope = record { service = tt; route = tt; consumer = tt }

ids_ok : (base : BaseValue) (stamps : Stamps) (body : Data) → IsId stamps.id → IsValidBase kind.Plugin base → HasIds (plugin_before base stamps body)
ids_ok (New id now) stamps body is ok = record { id = is; scope = no_scope }
ids_ok (Again id created_at now) stamps body is ok = record { id = is; scope = no_scope }
ids_ok (Word id text now) stamps body is ok = record { id = is; scope = no_scope }
ids_ok (Old (row.Plugin old) now) stamps body is ok = record { id = ok.id; scope = ok.scope }
ids_ok (Old old now) stamps body is ok = record { id = is; scope = no_scope }

before_ok : (base : BaseValue) (stamps : Stamps) (body : Data) → IsValidBase kind.Plugin base → IsConfigBefore (plugin_before base stamps body).config
before_ok (New id now) stamps body ok = default_before (unwrap_or (named_plugin body) plugin.Cors)
before_ok (Again id created_at now) stamps body ok = default_before (unwrap_or (named_plugin body) plugin.Cors)
before_ok (Word id text now) stamps body ok = default_before (unwrap_or (named_plugin body) plugin.Cors)
before_ok (Old (row.Plugin old) now) stamps body ok = valid_before old.config ok.config
before_ok (Old old now) stamps body ok = default_before (unwrap_or (named_plugin body) plugin.Cors)

-- where nothing is told of a plugin, its name is known
known : (nameless : Bool) (violations : List BrokenRule) → (if nameless then (codes "name", Required) ∷ [] else violations) ≡ [] → violations ≡ []
known true violations none = cc
known false violations none = none

free : (barred named : Bool) → (barred && named) ≡ false → (not named || not barred) ≡ true
free true true ok = cc
free true false ok = refl
free false true ok = refl
free false false ok = refl

over_ok : (body : Data) (base : BaseValue) (links : Links) (before : PluginRow) → AreIds links → HasIds before → IsConfigBefore before.config → plugin_violations body base (plugin_over body links before) ≡ [] → IsValidPlugin (plugin_over body links before)
over_ok body base links before ids own old none =
    let after = plugin_over body links before in
    let waited = neither (unnamed_config_violations body base) (if is_none (named_plugin body) && is_none (old_plugin base) then (codes "name", Required) ∷ [] else known_plugin_violations after) none in
    let all = known (is_none (named_plugin body) && is_none (old_plugin base)) (known_plugin_violations after) waited.1 in
    let told = neither (violation_if (is_for_no_consumer after.config && is_some after.scope.consumer) (codes "consumer") Fixed) (config_violations after.config) all in
    record {
      id = own.id;
      scope = record {
        service = or_ok IsId links.service before.scope.service ids.service own.scope.service;
        route = or_ok IsId links.route before.scope.route ids.route own.scope.route;
        consumer = or_ok IsId links.consumer before.scope.consumer ids.consumer own.scope.consumer;
      };
      config = config_ok (inside (codes "config") body) before.config old told.1;
      consumer = free (is_for_no_consumer after.config) (is_some after.scope.consumer) (not_broken (is_for_no_consumer after.config && is_some after.scope.consumer) (codes "consumer") Fixed told.0);
    }

pub plugin_ok : (body : Data) (base : BaseValue) (links : Links) → HasId base → AreIds links → IsValidBase kind.Plugin base
    → plugin_violations body base (plugin_over body links (plugin_before base (stamps_of base body) body)) ≡ []
    → IsValidPlugin (plugin_over body links (plugin_before base (stamps_of base body) body))
plugin_ok body base links is ids ok none =
    over_ok body base links (plugin_before base (stamps_of base body) body) ids (ids_ok base (stamps_of base body) body (stamps_ok kind.Plugin body base is ok) ok) (before_ok base (stamps_of base body) body ok) none
