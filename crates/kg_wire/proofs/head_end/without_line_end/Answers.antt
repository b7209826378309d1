use Rattle.kg_wire.proofs.HeadEndLemmas.{feed_at_end, line_stripped}
use Rattle.kg_wire.proofs.head_end.without_line_end.Goals as goal

pub returns-then-last-eq10 : goal.returns-then-last-eq10
returns-then-last-eq10 c = λ line end clean is.
    line_stripped c.args.bytes.now c.in-Some.front.now line c.without_return.result.now c.in-Some.last.now end
    c.in-Some.ensures.cases.0 clean is c.without_return.ensures.same c.without_return.ensures.shorter

pub returns-else-last-eq10 : goal.returns-else-last-eq10
returns-else-last-eq10 c = λ line end clean is.
    c.if-last-eq10.false (feed_at_end c.args.bytes.now c.in-Some.front.now line c.in-Some.last.now end c.in-Some.ensures.cases.0 is)
