use Rattle.std.proofs.Common.{sym, ◌∙◌, true≢false}
use Rattle.kg_row_values.proofs.GroupLemmas.{groups_same, groups_among, groups_each}
use Rattle.kg_row_values.proofs.value.has_groups.Goals as goal

pub returns-then-are_among : goal.returns-then-are_among
returns-then-are_among c = λ sorted. (
  (λ each. groups_same c.args.consumer c.args.rows.now.acls c.args.groups.now sorted (sym c.are_among.ensures ∙ c.if-are_among.true) (sym c.has_each.ensures ∙ each)),
  λ same. c.has_each.ensures ∙ groups_each c.args.consumer c.args.rows.now.acls c.args.groups.now same,
)

pub returns-else-are_among : goal.returns-else-are_among
returns-else-are_among c = λ sorted. (
  (λ among. absurd (true≢false (sym among ∙ c.if-are_among.false))),
  λ same. c.are_among.ensures ∙ groups_among c.args.consumer c.args.rows.now.acls c.args.groups.now same,
)
