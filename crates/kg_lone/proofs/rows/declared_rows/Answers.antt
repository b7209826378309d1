use Rattle.kg_lone.proofs.InsertedLemmas.{inserts_next, none_yet, one_more}
use Rattle.kg_lone.proofs.rows.declared_rows.Goals as goal

-- no command yet
pub loop-command-init : goal.loop-command-init
loop-command-init c = none_yet c.args.commands.now _ c.new-rows.ensures c.requires

-- the row's id is new
pub insert-requires : goal.insert-requires
insert-requires c =
    inserts_next c.args.commands.now c.loop-command.command-index c.loop-command.rows c.command-item.result c.loop-command-test.true c.command-item.is
    c.loop-command.invariant

-- one row more
pub loop-command-preserved : goal.loop-command-preserved
loop-command-preserved c =
    one_more c.args.commands.now c.loop-command.command-index c.loop-command.rows c.insert.new.rows c.command-item.result c.loop-command-test.true
    c.command-item.is c.in-Ok.ensures c.loop-command.invariant
