use Rattle.std.proofs.Common.{◌≡◌, ◌+◌, ◌<◌, IfSome, refl, sym, subst, ◌∙◌, arith, length, swap_remove}
use Rattle.kg_limit.specs.declared.count_table.CountTable.{CountTable}
use Rattle.kg_limit.proofs.CountLemmas.{taken_out, told_on, unchanged}
use Rattle.kg_limit.proofs.MemoryLemmas.{goes, passes_on, round_begins}
use Rattle.kg_limit.proofs.count_table.CountTable.give_back.Goals as goal

pub returns-then-is_over-clause-same : goal.returns-then-is_over-clause-same
returns-then-is_over-clause-same c =
    let old = c.args.self.now in
    let removed = c.swap_remove_index.ensures in
    let without : CountTable = record { entries = c.swap_remove_index.new.self; hand = c.args.self.now.hand } in
    told_on c.args.time old without c.give_room_back.new.self
    (taken_out old without old.hand c.args.time c.at.result c.swap_remove_index.result removed.entry removed.updates removed.unchanged
    c.at.ensures.kept (sym c.is_over.ensures ∙ c.if-is_over.true))
    (unchanged c.args.time without c.give_room_back.new.self c.give_room_back.ensures.entries)

pub returns-then-is_over-clause-gives : goal.returns-then-is_over-clause-gives
returns-then-is_over-clause-gives c =
    let old = c.args.self.now in
    let removed = c.swap_remove_index.ensures in
    let entry = c.at.ensures.entry in
    let without =
    subst (λ found. IfSome found (λ one. c.swap_remove_index.new.self.entries ≡ swap_remove old.entries.entries old.hand one)) (removed.entry ∙ entry.1) removed.entries in
    let within : old.hand < length old.entries.entries = omega (arith, c.if-self-len.false, c.len.ensures.len) in
    goes c.args.time old c.give_room_back.new.self (entry.0, c.at.result) within (c.give_room_back.ensures.entries ∙ without) c.give_room_back.ensures.hand

pub returns-else-is_over-clause-gives : goal.returns-else-is_over-clause-gives
returns-else-is_over-clause-gives c =
    passes_on c.args.time c.args.self.now (record { entries = c.args.self.now.entries; hand = c.args.self.now.hand + 1 })
    c.at.ensures.entry.0 c.at.result c.at.ensures.entry.1 (sym c.is_over.ensures ∙ c.if-is_over.false) refl refl

pub returns-then-self-len-clause-gives : goal.returns-then-self-len-clause-gives
returns-then-self-len-clause-gives c =
    round_begins c.args.time c.args.self.now (record { entries = c.args.self.now.entries; hand = 0 }) (omega (arith, c.if-self-len.true, c.len.ensures.len)) refl
