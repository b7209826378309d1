use Rattle.std.proofs.Common.{◌++◌, ap, ◌∙◌}
use Rattle.serde_json.specs.View.{members_view}
use Rattle.kg_declared_rows.specs.SeenRows.{seen_all}
use Rattle.kg_declared_rows.proofs.DeclaredLemmas.{all_rows}
use Rattle.kg_declared_rows.proofs.declared.gather.Goals as goal

pub returns : goal.returns
returns c =
    c.in_ok-join.ensures
    ∙ ap (λ all. seen_all c.args.rows.now.items ++ all)
    (all_rows (members_view c.args.declaration.now.entries) c.set_own.new.lists c.add_nested.new.lists c.add_nested_plugins.new.lists
    c.in_ok-set_own.ensures c.in_ok-add_nested.ensures c.in_ok-add_nested_plugins.ensures)
