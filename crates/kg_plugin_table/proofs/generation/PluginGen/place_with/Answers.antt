use Rattle.std.proofs.Common.{find, option_and_then, sym, ap, subst, ◌∙◌}
use Rattle.kg_row_types.specs.declared.plugin.Scope.{Scope}
use Rattle.kg_plugin_table.specs.Keys.{has_key, key_of, rank_of}
use Rattle.kg_plugin_table.specs.PluginRows.{IsPlaceOf}
use Rattle.kg_plugin_table.proofs.ChoiceLemmas.{place_of_key, row_by_key}
use Rattle.kg_plugin_table.specs.Ranks.{has_rank}
use Rattle.kg_row_types.specs.PluginNames.{priority}
use Rattle.kg_plugin_table.specs.Precedence.{row_with}
use Rattle.kg_plugin_table.proofs.RankLemmas.{none_with}
use Rattle.kg_plugin_table.proofs.generation.PluginGen.place_with.Goals as goal

-- no enabled row of the plugin sets these parts
pub returns-then-not-has : goal.returns-then-not-has
returns-then-not-has c =
    let name = c.args.name in
    let request = c.args.scope.now in
    sym (ap (λ gen. row_with gen.rows name request (rank_of c.args.parts)) c.self.view_is)
    ∙ none_with c.self.inside.rows c.self.inside.ranks name request (rank_of c.args.parts) c.self.invariant.3
    (ap (λ number. has_rank (priority name) number c.self.inside.ranks) (sym c.rank_of.ensures) ∙ sym c.has.ensures ∙ c.if-not-has.true)

-- a part that is to be set isn't known
pub returns-in_err-exact : goal.returns-in_err-exact
returns-in_err-exact c =
    let rows = c.args.self.now.rows in
    subst (IsPlaceOf rows (row_with rows c.args.name c.args.scope.now (rank_of c.args.parts))) (sym c.from_residual.ensures)
    (row_by_key rows c.args.name c.args.scope.now c.args.parts
    ∙ ap (option_and_then (λ (exact : Scope). find (has_key (key_of c.args.name exact)) rows)) (sym c.scope_with.ensures ∙ c.in_err-exact.was))

-- the first row with the scope
pub returns : goal.returns
returns c =
    let rows = c.args.self.now.rows in
    let key = key_of c.args.name c.in_ok-exact.exact in
    subst (λ row. IsPlaceOf rows row c.get.result)
    (sym (row_by_key rows c.args.name c.args.scope.now c.args.parts
    ∙ ap (option_and_then (λ (exact : Scope). find (has_key (key_of c.args.name exact)) rows)) (sym c.scope_with.ensures ∙ c.in_ok-exact.was)))
    (subst (λ gen. IsPlaceOf gen.rows (find (has_key key) gen.rows) c.get.result) c.self.view_is
    (subst (IsPlaceOf c.self.inside.rows (find (has_key key) c.self.inside.rows)) (sym c.get.ensures)
    (place_of_key c.self.inside.rows c.self.inside.places key c.self.invariant.2)))
