use Rattle.std.proofs.Common.{◌∙◌, sym}
use Rattle.std.specs.Str.{bytes_eq}
use Rattle.kg_row_queries.specs.Selections.{is_owned_under}
use Rattle.kg_row_queries.proofs.BelowLemmas.{first_is_below, none_is_below}
use Rattle.kg_row_queries.proofs.under.cred_with_key.Goals as goal

-- the first of all is the first of those below
pub returns-then-is_below : goal.returns-then-is_below
returns-then-is_below c =
    first_is_below (λ row. is_owned_under c.args.upper c.args.above row.consumer) (λ row. bytes_eq row.key c.args.text.now) c.args.rows.now.key_creds c.in-Some.row.now c.in-Some.ensures (sym c.is_below.ensures ∙ c.if-is_below.true)

pub returns-in-None : goal.returns-in-None
returns-in-None c = none_is_below (λ row. is_owned_under c.args.upper c.args.above row.consumer) (λ row. bytes_eq row.key c.args.text.now) c.args.rows.now.key_creds c.in-None.ensures
