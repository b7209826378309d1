-- The members of rows and configs are given in byte order of their names, so that put one after the other
-- they stand as given.
use Rattle.std.proofs.Common.{◌≡◌, refl}
use Rattle.serde_json.specs.Data.{no_members}
use Rattle.kg_row_types.specs.declared.config.Config.{Config}
use Rattle.kg_row_types.specs.declared.config.Config.TheVariants as config_of
use Rattle.kg_row_types.specs.declared.entity.Entity.{Entity}
use Rattle.kg_row_types.specs.declared.entity.Entity.TheVariants as row_of
use Rattle.kg_shown_rows.specs.Puts.{with_members}
use Rattle.kg_shown_rows.specs.Shown.{row_members}
use Rattle.kg_shown_rows.specs.ShownConfigs.{config_members}
use Rattle.kg_shown_rows.specs.ShownParts.{members_of}

pub row_in_order : (row : Entity) → with_members (row_members row) no_members ≡ members_of (row_members row)
row_in_order (row_of.Service service) = refl
row_in_order (row_of.Route route) = refl
row_in_order (row_of.Consumer consumer) = refl
row_in_order (row_of.KeyCred credential) = refl
row_in_order (row_of.BasicCred credential) = refl
row_in_order (row_of.Acl row) = refl
row_in_order (row_of.Plugin row) = refl

pub config_in_order : (config : Config) → with_members (config_members config) no_members ≡ members_of (config_members config)
config_in_order (config_of.Cors config) = refl
config_in_order (config_of.KeyAuth config) = refl
config_in_order (config_of.BasicAuth config) = refl
config_in_order (config_of.IpRestriction config) = refl
config_in_order (config_of.RequestSizeLimiting config) = refl
config_in_order (config_of.Acl config) = refl
config_in_order (config_of.RateLimiting config) = refl
config_in_order (config_of.RequestTransformer config) = refl
config_in_order (config_of.ResponseTransformer config) = refl
config_in_order (config_of.RequestTermination config) = refl
