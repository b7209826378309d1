use Rattle.std.proofs.Common.{[], ◌++◌, All, Ok, length, refl, sym, ap, subst, ◌∙◌}
use Rattle.kg_declare.specs.Inserting.{Stands}
use Rattle.kg_declared_rows.specs.SeenRows.{seen_all}
use Rattle.kg_declare.specs.Steps.{IsRefusedAt, accepted_after}
use Rattle.kg_declare.proofs.ProgressLemmas.{at_commands, unbroken_inserted, from_start}
use Rattle.kg_declare.proofs.StandLemmas.{rows_stand}
use Rattle.kg_declare.proofs.line.declare.Goals as goal

pub insert_rows-requires : goal.insert_rows-requires
insert_rows-requires g c = subst (All Stands) c.in-Ok.ensures.ok.rows (rows_stand c.in-Ok.ensures.ok.members)

pub returns-in-Err-clause-outcome : goal.returns-in-Err-clause-outcome
returns-in-Err-clause-outcome g c = record {
  drawn = [];
  moved = g.met.I.Ids.draws_none c.args.ids.now;
  answers = λ more. c.in-Err.ensures.err more c.args.now c.args.limit;
}

pub returns-in-Ok-insert_rows-clause-outcome : goal.returns-in-Ok-insert_rows-clause-outcome
returns-in-Ok-insert_rows-clause-outcome g c =
    let drawn = c.in-Ok-insert_rows.ensures.steps.drawn in
    let rows = seen_all c.in-Ok.rows.items in
    record {
      drawn = drawn;
      moved = c.in-Ok-insert_rows.ensures.steps.moved;
      answers = λ more.
          unbroken_inserted c.args.line.now rows c.args.now c.args.limit (drawn ++ more) c.in-Ok.ensures.ok
          ∙ from_start (drawn ++ more) c.args.now c.args.limit rows c.new-made.result _ c.new-made.ensures.start (c.in-Ok-insert_rows.ensures.steps.leaves more)
          ∙ ap Ok (at_commands c.args.limit c.insert_rows.new.made (length drawn) (c.in-Ok-insert_rows.ensures.consistent (c.new-made.ensures.consistent c.args.limit))
          ∙ ap (λ commands. accepted_after commands (length drawn)) (sym c.commands_of.ensures.commands));
    }

pub returns-in-Ok-insert_rows-clause-commands : goal.returns-in-Ok-insert_rows-clause-commands
returns-in-Ok-insert_rows-clause-commands g c =
    c.commands_of.ensures.insertions (c.in-Ok-insert_rows.ensures.consistent (c.new-made.ensures.consistent c.args.limit))

pub returns-in-Err-clause-commands : goal.returns-in-Err-clause-commands
returns-in-Err-clause-commands g c = tt

pub returns-in-Err-insert_rows-clause-commands : goal.returns-in-Err-insert_rows-clause-commands
returns-in-Err-insert_rows-clause-commands g c = tt

pub returns-in-Err-insert_rows-clause-outcome : goal.returns-in-Err-insert_rows-clause-outcome
returns-in-Err-insert_rows-clause-outcome g c =
    let drawn = c.in-Err-insert_rows.ensures.steps.drawn in
    let rows = seen_all c.in-Ok.rows.items in
    record {
      drawn = drawn;
      moved = c.in-Err-insert_rows.ensures.steps.moved;
      answers = λ more.
          subst (λ meant. IsRefusedAt c.in-Err-insert_rows.e meant (length drawn))
          (sym (unbroken_inserted c.args.line.now rows c.args.now c.args.limit (drawn ++ more) c.in-Ok.ensures.ok
          ∙ from_start (drawn ++ more) c.args.now c.args.limit rows c.new-made.result _ c.new-made.ensures.start refl))
          (c.in-Err-insert_rows.ensures.steps.leaves more);
    }
