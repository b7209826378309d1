use Rattle.std.proofs.Common.{find, sym, ap, ◌∙◌}
use Rattle.std.specs.Option.{is_some, option_copied}
use Rattle.kg_row_types.specs.RowChanges.{names_row}
use Rattle.kg_row_values.proofs.Searches.{found_any}
use Rattle.kg_row_values.proofs.generations.names_one.Goals as goal

pub returns-in-Some : goal.returns-in-Some
returns-in-Some c =
    sym (ap (λ found. is_some (option_copied found)) c.in-Some.is) ∙ ap is_some (c.first_of.ensures ∙ ap (find (names_row c.args.kind c.args.id)) c.plugins.ensures)
    ∙ found_any (names_row c.args.kind c.args.id) c.args.rows.now.plugins

pub returns-in-None : goal.returns-in-None
returns-in-None c =
    sym (ap (λ found. is_some (option_copied found)) c.in-None.is) ∙ ap is_some (c.first_of.ensures ∙ ap (find (names_row c.args.kind c.args.id)) c.plugins.ensures)
    ∙ found_any (names_row c.args.kind c.args.id) c.args.rows.now.plugins
