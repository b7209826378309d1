use Rattle.std.proofs.Common.{◌∙◌}
use Rattle.indexmap.proofs.CallerLemmas.{insert_entry-new}
use Rattle.kg_limit.specs.Counting.{key_eq}
use Rattle.kg_limit.proofs.CountLemmas.{blank_added, stands_last}
use Rattle.kg_limit.proofs.count_table.CountTable.add.Goals as goal

pub returns-clause-same : goal.returns-clause-same
returns-clause-same c =
    let made = c.none.ensures in
    blank_added c.args.self.now (record { entries = c.insert.new.self; hand = c.args.self.now.hand }) c.args.key c.none.result made.none made.last c.requires c.in_ok-insert.ensures.updates.0

pub returns-clause-there : goal.returns-clause-there
returns-clause-there c =
    let entries = c.in_ok-insert.ensures.entries ∙ insert_entry-new key_eq c.args.self.now.entries c.args.key c.none.result c.requires in
    (c.none.result, stands_last c.args.self.now.entries.entries c.insert.new.self.entries (c.args.key, c.none.result) c.len-at.result entries c.len-at.ensures.len)
