use Rattle.std.proofs.Common.{option_map, ap, ◌∙◌}
use Rattle.serde_json.specs.View.{members_view, view}
use Rattle.serde_json.proofs.Views.{view-lookup}
use Rattle.kg_declared_rows.proofs.ViolationLemmas.{members_view-remove_entry}
use Rattle.kg_declared_rows.proofs.violations.take_member.Goals as goal

pub returns-clause-value : goal.returns-clause-value
returns-clause-value c = ap (option_map view) c.remove.ensures.value ∙ view-lookup c.args.name.now c.args.members.now.entries

pub returns-clause-left : goal.returns-clause-left
returns-clause-left c = ap members_view c.remove.ensures.entries ∙ members_view-remove_entry c.args.name.now c.args.members.now.entries
