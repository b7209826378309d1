use Rattle.std.proofs.Common.{◌<◌, ◌-◌, ◌++◌, length, take, sym, ap, ◌∙◌, rules}
use Rattle.std.specs.Map.{keys_of}
use Rattle.kg_tables.proofs.IdLemmas.{one_taken}
use Rattle.kg_tables.proofs.table.first_ids.Goals as goal

-- one more id is taken
pub loop-above-preserved : goal.loop-above-preserved
loop-above-preserved c =
    let below : length c.loop-above.ids < c.args.most = search rules in
    c.loop-above.invariant
    ∙ ap (λ entries. c.loop-above.ids ++ keys_of (take (c.args.most - length c.loop-above.ids) entries)) c.in-Some.ensures.steps
    ∙ one_taken c.args.most c.loop-above.ids (c.in-Some.id.now, c.in-Some.field-0-1.now) c.next.new.self below
    ∙ ap (λ ids. ids ++ keys_of (take (c.args.most - length ids) c.next.new.self)) (sym c.in_ok-push.ensures.ok)
