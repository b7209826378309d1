use Rattle.std.proofs.Common.{◌≡◌, ◌<◌, length, arith}
use Rattle.kg_wire.specs.Reading.{Ends}
use Rattle.kg_wire.specs.ReadingSteps.{error_of}
use Rattle.kg_wire.proofs.ReaderLemmas.{grows_on, cut_in_body, ends_failed, exits}
use Rattle.kg_wire.proofs.UnreadLemmas.{part_begins_none}
use Rattle.kg_wire.proofs.reader.fill_message.Goals as goal

-- no whole request is held before its body is
pub read_more-requires : goal.read_more-requires
read_more-requires g c = part_begins_none _ _ _ _ c.args.start.now c.requires c.loop-source.invariant.grows (omega arith)

-- a read failed: no whole request was held before
pub returns-in_err-read_more-clause-err : goal.returns-in_err-read_more-clause-err
returns-in_err-read_more-clause-err g c =
    let grows = c.loop-source.invariant.grows in
    let none = part_begins_none _ _ _ _ c.args.start.now c.requires grows (omega arith) in
    let failed = c.in_err-read_more.ensures.err in
    let error = c.in_err-read_more.field-0.0 in
    exits c.from_residual.result (error_of error) (Ends c.args.at _ _ _ _) c.from_residual.ensures.1
    (ends_failed c.args.at _ _ _ _ _ _ error grows none failed.0 failed.1)

pub returns-then-branch-eq0-clause-err : goal.returns-then-branch-eq0-clause-err
returns-then-branch-eq0-clause-err g c =
    let fills = c.in_ok-read_more.ensures.ok in
    let none : c.in_ok-read_more.field-0 ≡ 0 = omega arith in
    let grows = grows_on _ _ _ _ _ _ c.loop-source.invariant.grows fills.grows in
    let count = fills.count in
    let short : length c.read_more.new.held < c.args.start.now.message_len = omega arith in
    (grows, (c.len-have.ensures, cut_in_body _ _ _ _ c.args.start.now c.requires grows short, fills.ended none))
