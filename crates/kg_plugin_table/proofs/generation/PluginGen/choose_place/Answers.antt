use Rattle.std.proofs.Common.{sym, ap, ◌∙◌}
use Rattle.kg_plugin_table.specs.Precedence.{chosen_row}
use Rattle.kg_plugin_table.proofs.ChoiceLemmas.{none_chosen}
use Rattle.kg_plugin_table.proofs.generation.PluginGen.choose_place.Goals as goal

-- the plugin has no enabled row
pub returns-then-not-has : goal.returns-then-not-has
returns-then-not-has c =
    let name = c.args.name in
    let request = c.args.scope.now in
    sym (ap (λ gen. chosen_row gen.rows name request) c.self.view_is)
    ∙ none_chosen c.self.inside.rows c.self.inside.names name request c.self.invariant.1 (sym c.has.ensures ∙ c.if-not-has.true)
