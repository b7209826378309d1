use Rattle.std.proofs.Common.{◌==◌, ◌∙◌}
use Rattle.std.specs.Option.{option_copied, option_to_list}
use Rattle.kg_tables.specs.References.{refers}
use Rattle.kg_row_queries.proofs.BelowLemmas.{found_among}
use Rattle.kg_row_queries.proofs.under.with_id.Goals as goal

pub returns : goal.returns
returns g c =
    c.if_below.ensures
    ∙ found_among (λ row. refers c.args.upper c.args.above (g.T.Row.references row)) (λ row. g.T.Row.number row == c.args.id) c.args.rows.now (option_to_list (option_copied c.get.result)) c.get.ensures.only
