use Rattle.std.proofs.Common.{◌≡◌, ◌≤◌, length, arith}
use Rattle.kg_lone.proofs.LineLemmas.{line_at_feed, line_past_limit}
use Rattle.kg_lone.proofs.line.first_line.Goals as goal

pub returns-then-byte-eq10-clause-ok : goal.returns-then-byte-eq10-clause-ok
returns-then-byte-eq10-clause-ok g c bytes start =
    let before = c.loop-line.invariant in
    let reads = c.in_ok-read.ensures.bytes in
    let one : length c.read.new.room ≡ 1 = omega arith in
    line_at_feed c.args.limit bytes c.loop-line.line.items c.read.new.room c.in_ok-read.field-0 _ _ _
    before.no_feed before.within before.moved reads.moved one reads.within c.if-branch-ne0.true c.if-byte-eq10.true start

pub returns-then-len-limit-clause-ok : goal.returns-then-len-limit-clause-ok
returns-then-len-limit-clause-ok g c bytes start =
    let before = c.loop-line.invariant in
    let reads = c.in_ok-read.ensures.bytes in
    let one : length c.read.new.room ≡ 1 = omega arith in
    let full : c.args.limit ≤ length c.loop-line.line.items = omega arith in
    line_past_limit c.args.limit bytes c.loop-line.line.items c.read.new.room c.in_ok-read.field-0 _ _ _
    before.no_feed full before.moved reads.moved one reads.within c.if-branch-ne0.true c.if-byte-eq10.false start
