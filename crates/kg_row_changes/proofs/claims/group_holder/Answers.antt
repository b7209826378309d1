use Rattle.std.proofs.Common.{◌==◌, option_map, ap, ◌∙◌}
use Rattle.std.specs.Str.{bytes_eq}
use Rattle.kg_row_values.proofs.Searches.{find_both}
use Rattle.kg_tables.specs.Others.{is_other}
use Rattle.kg_row_changes.proofs.claims.group_holder.Goals as goal

-- another row with the membership is one of its consumer
pub returns : goal.returns
returns c =
    c.id_of.ensures
    ∙ ap (option_map (λ other. other.id)) (c.other_in_group.ensures
    ∙ find_both (λ other. other.consumer == c.args.membership.now.consumer) (λ other. is_other c.args.replaced other.id) (λ other. bytes_eq other.group c.args.membership.now.group) c.args.rows.now.acls)
