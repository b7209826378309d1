use Rattle.std.proofs.Common.{map}
use Rattle.kg_row_values.proofs.GroupLemmas.{bytes_in_order, rows_of}
use Rattle.kg_row_values.proofs.value.consumer_groups.Goals as goal

-- what was put in one after another stands in byte order
pub returns : goal.returns
returns c =
    rw (c.in_ok-groups.ensures, c.of.ensures, c.acls.ensures, bytes_in_order (map (λ row. row.group) (rows_of c.args.consumer c.args.rows.now.acls))) at c.listed.ensures
