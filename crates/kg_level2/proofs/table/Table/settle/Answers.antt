use Rattle.std.proofs.Common.{◌<◌, ◌≤◌, ◌∙◌, sym, subst, arith}
use Rattle.kg_level2.specs.Claims.{claim_on}
use Rattle.kg_level2.proofs.ClaimLemmas.{settles_kept, touch_from}
use Rattle.kg_level2.proofs.table.Table.settle.Goals as goal

pub returns-then-at-touch : goal.returns-then-at-touch
returns-then-at-touch g c =
    let found = touch_from (claim_on g.K.PartialEq.eq c.args.claim.key c.args.self.now.out) c.args.at c.in-Some.touch (sym c.in-Some.ensures) in
    ((found.0, (found.1, found.2), subst (λ n. c.args.at < n) found.3 c.if-at-touch.true, found.3), c.close.ensures)

pub returns-in-Ok : goal.returns-in-Ok
returns-in-Ok g c =
    let found = touch_from (claim_on g.K.PartialEq.eq c.args.claim.key c.args.self.now.out) c.args.at c.in-Some.touch (sym c.in-Some.ensures) in
    let late : found.0.touch ≤ c.args.at = omega (arith, c.if-at-touch.false, found.3) in
    settles_kept g.K.PartialEq.eq c.args.self.now c.close.new.self c.keep.new.self c.args.claim.key c.args.val.value c.args.negative c.args.at c.args.now c.in-Ok.expires
    found.0 found.1 found.2 late c.close.ensures c.in-Ok.ensures.end c.in-Ok.ensures.ok

pub returns-in-Err : goal.returns-in-Err
returns-in-Err g c =
    let found = touch_from (claim_on g.K.PartialEq.eq c.args.claim.key c.args.self.now.out) c.args.at c.in-Some.touch (sym c.in-Some.ensures) in
    let late : found.0.touch ≤ c.args.at = omega (arith, c.if-at-touch.false, found.3) in
    ((found.0, (found.1, found.2), late), c.in-Err.ensures.err ∙ c.close.ensures)
