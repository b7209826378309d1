-- The plugins: their names and their order (Kong Gateway manual, "Plugin execution order").
use Rattle.std.specs.Prelude.{ℕ, Bool, List, [], ◌∷◌, find, Option, codes}
use Rattle.std.specs.Str.{bytes_eq}
use Rattle.kg_row_types.specs.declared.config.Config.{Config}
use Rattle.kg_row_types.specs.declared.config.Config.TheVariants as of_config
use Rattle.kg_row_types.specs.declared.plugin.PluginName.{PluginName}
use Rattle.kg_row_types.specs.declared.plugin.PluginName.TheVariants.{Cors, KeyAuth, BasicAuth, IpRestriction, RequestSizeLimiting, Acl, RateLimiting, RequestTransformer, ResponseTransformer, RequestTermination}

-- the plugin that a config is for
abbrev pub plugin_of : Config → PluginName
plugin_of (of_config.Cors config) = Cors
plugin_of (of_config.KeyAuth config) = KeyAuth
plugin_of (of_config.BasicAuth config) = BasicAuth
plugin_of (of_config.IpRestriction config) = IpRestriction
plugin_of (of_config.RequestSizeLimiting config) = RequestSizeLimiting
plugin_of (of_config.Acl config) = Acl
plugin_of (of_config.RateLimiting config) = RateLimiting
plugin_of (of_config.RequestTransformer config) = RequestTransformer
plugin_of (of_config.ResponseTransformer config) = ResponseTransformer
plugin_of (of_config.RequestTermination config) = RequestTermination

-- the priority of a plugin: the larger runs first
abbrev pub priority : PluginName → ℕ
priority Cors = 2000
priority KeyAuth = 1250
priority BasicAuth = 1100
priority IpRestriction = 990
priority RequestSizeLimiting = 951
priority Acl = 950
priority RateLimiting = 910
priority RequestTransformer = 801
priority ResponseTransformer = 800
priority RequestTermination = 2

-- all plugins, in the order in which they run
abbrev pub plugins_in_order : List PluginName
plugins_in_order =
    Cors ∷ KeyAuth ∷ BasicAuth ∷ IpRestriction ∷ RequestSizeLimiting ∷ Acl ∷ RateLimiting
    ∷ RequestTransformer ∷ ResponseTransformer ∷ RequestTermination ∷ []

-- the name as a text
abbrev pub plugin_text : PluginName → List ℕ
plugin_text Cors = codes "cors"
plugin_text KeyAuth = codes "key-auth"
plugin_text BasicAuth = codes "basic-auth"
plugin_text IpRestriction = codes "ip-restriction"
plugin_text RequestSizeLimiting = codes "request-size-limiting"
plugin_text Acl = codes "acl"
plugin_text RateLimiting = codes "rate-limiting"
plugin_text RequestTransformer = codes "request-transformer"
plugin_text ResponseTransformer = codes "response-transformer"
plugin_text RequestTermination = codes "request-termination"

-- the plugin with this text as its name
abbrev pub plugin_named : List ℕ → Option PluginName
plugin_named text = find (λ name. bytes_eq text (plugin_text name)) plugins_in_order

-- two plugins of one name
abbrev pub same_plugin : PluginName → PluginName → Bool
same_plugin a b = bytes_eq (plugin_text a) (plugin_text b)
