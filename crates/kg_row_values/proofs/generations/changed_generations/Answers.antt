use Rattle.std.proofs.Common.{◌≡◌, [], ◌∷◌, ◌++◌, subst, sym, if◌then◌else◌}
use Rattle.std.proofs.lemmas.Result.{IfOk-weaker}
use Rattle.kg_row_types.specs.declared.key.GenKey.TheVariants.{Router, Plugins}
use Rattle.kg_row_values.specs.Changes.{NamesChangedGenerations}
use Rattle.kg_row_values.specs.Rows.{changed}
use Rattle.kg_row_values.proofs.GenerationLemmas.{changed_ones}
use Rattle.kg_row_values.proofs.generations.changed_generations.Goals as goal

-- those that don't stay change
pub returns : goal.returns
returns c =
    let later = changed c.args.command.now c.args.rows.now in
    let router = c.keeps_router-router.result in
    let plugins = c.keeps_plugins-plugins.result in
    IfOk-weaker c.changed_of.result (λ gens. gens ≡ (if router then [] else Router ∷ []) ++ (if plugins then [] else Plugins ∷ []))
    (NamesChangedGenerations c.args.rows.now later)
    (λ gens is. subst (NamesChangedGenerations c.args.rows.now later) (sym is)
    (changed_ones c.args.rows.now later router plugins c.keeps_router-router.ensures c.keeps_plugins-plugins.ensures))
    c.changed_of.ensures
