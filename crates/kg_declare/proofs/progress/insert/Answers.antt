use Rattle.std.proofs.Common.{sym, subst}
use Rattle.kg_row_types.specs.ValidRows.{AreValidRows}
use Rattle.kg_rows.specs.Decision.{decision}
use Rattle.kg_declare.specs.Inserting.{accepted_at}
use Rattle.kg_declare.proofs.HistoryLemmas.{step_consistent, step_leaves}
use Rattle.kg_declare.proofs.ProgressLemmas.{refused_at}
use Rattle.kg_declare.proofs.progress.insert.Goals as goal

pub add-requires : goal.add-requires
add-requires c = c.in-Ok.ensures.ok.new

pub returns-in_ok-add-in-Ok-clause-leaves : goal.returns-in_ok-add-in-Ok-clause-leaves
returns-in_ok-add-in-Ok-clause-leaves c = λ before drawn.
    step_leaves c.args.limit c.args.made.now c.add.new.made c.args.draft.now c.in-Ok.command c.in-Ok.ensures.ok c.in_ok-add-in-Ok.ensures.rows c.in_ok-add-in-Ok.ensures.commands before drawn

pub returns-in_ok-add-in-Ok-clause-consistent : goal.returns-in_ok-add-in-Ok-clause-consistent
returns-in_ok-add-in-Ok-clause-consistent c = λ is.
    step_consistent c.args.limit c.args.made.now c.add.new.made c.args.draft.now c.in-Ok.command c.in-Ok.ensures.ok c.in_ok-add-in-Ok.ensures.rows c.in_ok-add-in-Ok.ensures.commands
    (subst AreValidRows (sym is.rows) (c.allowed_commands_make_valid_rows.ensures.valid c.args.made.now.commands c.args.limit is.allowed)) is

pub returns-in-Err-clause-leaves : goal.returns-in-Err-clause-leaves
returns-in-Err-clause-leaves c = λ before drawn.
    refused_at c.in-Err.e (accepted_at c.args.made.now before) drawn (decision c.args.made.now.rows c.args.draft.now c.args.limit) c.in-Err.ensures.err
