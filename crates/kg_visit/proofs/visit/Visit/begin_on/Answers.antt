use Rattle.std.specs.Arc.{arc_value}
use Rattle.kg_visit.proofs.GiveLemmas.{begin_told, begun_is, none_asks_first}
use Rattle.kg_visit.proofs.visit.Visit.begin_on.Goals as goal

pub invariant_of-result : goal.invariant_of-result
invariant_of-result c = λ whole.
    begin_told (arc_value c.args.router) (arc_value c.args.plugins) c.deref.result.now c.args.request (record { time = c.args.now; who = c.args.who }) c.args.way
    c.new-2.result c.new-3.result c.new.result c.in_ok-stage.stage c.first_want.new.stage c.in_ok-want.want
    c.deref.ensures c.new-2.ensures c.new-3.ensures c.new.ensures c.requires.best c.in_ok-stage.ensures c.in_ok-want.ensures

pub returns : goal.returns
returns c =
    begun_is (arc_value c.args.router) (arc_value c.args.plugins) c.deref.result.now c.args.request (record { time = c.args.now; who = c.args.who }) c.args.way
    c.new-2.result c.new-3.result c.in_ok-stage.stage c.first_want.new.stage c.in_ok-want.want
    c.new-2.ensures c.new-3.ensures c.in_ok-stage.ensures c.in_ok-want.ensures

-- no row has asked yet
pub first_want-requires : goal.first_want-requires
first_want-requires c = record { known = none_asks_first c.deref.result.now.rows c.args.way c.args.request c.in_ok-stage.stage c.in_ok-stage.ensures }
