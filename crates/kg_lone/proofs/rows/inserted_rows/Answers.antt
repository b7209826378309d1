use Rattle.std.proofs.Common.{◌∙◌, ap, sym}
use Rattle.kg_lone.specs.InsertedRows.{listed_after}
use Rattle.kg_lone.proofs.InsertedLemmas.{listed_push}
use Rattle.kg_lone.proofs.rows.inserted_rows.Goals as goal

-- one command more
pub loop-command-preserved : goal.loop-command-preserved
loop-command-preserved c =
    c.in_ok-add_inserted.ensures
    ∙ ap (λ listing. listed_after listing c.in-Some.command) c.loop-command.invariant
    ∙ sym (listed_push c.loop-command.yielded c.in-Some.command)
