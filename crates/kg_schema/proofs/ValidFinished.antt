-- A finished row is valid, where its base is.
use Rattle.std.proofs.Common.{◌≡◌, Bool, true, false, List, [], ◌∷◌, ◌++◌, Option, codes, if◌then◌else◌}
use Rattle.serde_json.specs.Data.{Data}
use Rattle.kg_row_types.specs.ValidRows.{IsValidRow}
use Rattle.kg_row_types.specs.declared.entity.Kind.{Kind}
use Rattle.kg_row_types.specs.declared.entity.Kind.TheVariants as kind
use Rattle.kg_schema.proofs.ValidConsumers.{acl_ok, basic_ok, consumer_ok, key_ok}
use Rattle.kg_schema.proofs.ValidParts.{neither}
use Rattle.kg_schema.proofs.ValidPlugins.{plugin_ok}
use Rattle.kg_schema.proofs.ValidRoutes.{route_ok}
use Rattle.kg_schema.proofs.ValidServices.{service_ok}
use Rattle.kg_row_making.specs.Bases.{BaseValue}
use Rattle.kg_schema.specs.Between.{violations_between, id_violations, is_renamed, row_violations, parent_violations, word_violations}
use Rattle.kg_schema.specs.Finished.{row_over}
use Rattle.kg_field_rules.specs.Rules.{BrokenRule}
use Rattle.kg_schema.specs.ValidBases.{AreIds, HasId, IsValidBase}
use Rattle.kg_row_making.specs.declared.base.Links.{Links}
use Rattle.kg_row_making.specs.declared.base.ParentField.{ParentField}
use Rattle.kg_field_rules.specs.declared.rule.Rule.TheVariants.{Fixed}

-- nothing is told, so the plugin keeps its name
not_renamed : (renamed : Bool) (violations : List BrokenRule) → (if renamed then (codes "name", Fixed) ∷ [] else violations) ≡ [] → violations ≡ []
not_renamed true violations none = cc
not_renamed false violations none = none

-- nothing is told of the finished row
row_told : (wanted : Kind) (body : Data) (base : BaseValue) (links : Links) (contradicted : Option ParentField)
    → violations_between wanted body base links contradicted ≡ [] → row_violations body base links (row_over wanted body base links) ≡ []
unfolding violations_between
row_told wanted body base links contradicted none =
    let row = row_violations body base links (row_over wanted body base links) in
    let all = not_renamed (is_renamed wanted body base) (id_violations body base ++ word_violations wanted body base ++ parent_violations contradicted ++ row) none in
    (neither (id_violations body base ++ word_violations wanted body base ++ parent_violations contradicted) row all).1

by_kind : (wanted : Kind) (body : Data) (base : BaseValue) (links : Links) → HasId base → AreIds links → IsValidBase wanted base → row_violations body base links (row_over wanted body base links) ≡ [] → IsValidRow (row_over wanted body base links)
unfolding row_over
by_kind kind.Service body base links is ids ok none = service_ok body base is ok none
by_kind kind.Route body base links is ids ok none = route_ok body base links is ids ok none
by_kind kind.Consumer body base links is ids ok none = consumer_ok body base is ok none
by_kind kind.KeyCred body base links is ids ok none = key_ok body base links is ids ok none
by_kind kind.BasicCred body base links is ids ok none = basic_ok body base links is ids ok none
by_kind kind.Acl body base links is ids ok none = acl_ok body base links is ids ok none
by_kind kind.Plugin body base links is ids ok none = plugin_ok body base links is ids ok none

-- what breaks no rule over a valid base makes a valid row
pub finished_ok : (wanted : Kind) (body : Data) (base : BaseValue) (links : Links) (contradicted : Option ParentField)
    → HasId base → AreIds links → IsValidBase wanted base → violations_between wanted body base links contradicted ≡ [] → IsValidRow (row_over wanted body base links)
finished_ok wanted body base links contradicted is ids ok none = by_kind wanted body base links is ids ok (row_told wanted body base links contradicted none)
