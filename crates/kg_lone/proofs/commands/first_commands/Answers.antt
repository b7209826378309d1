use Rattle.std.proofs.Common.{ap}
use Rattle.kg_lone.proofs.CommandLemmas.{gives_commands, tells_nothing, tells_refusal}
use Rattle.kg_lone.proofs.commands.first_commands.Goals as goal

-- the commands of the line
pub returns-in-Ok-accepted-clause-line : goal.returns-in-Ok-accepted-clause-line
returns-in-Ok-accepted-clause-line g c =
    let drew = c.in-Ok-accepted.ensures.line in
    record {
      drawn = drew.drawn;
      moved = drew.moved;
      says = λ bytes seen.
          gives_commands c.args.now c.args.limit bytes _ _ _ drew.drawn c.in-Ok.line c.in-Ok-accepted.commands (c.in-Ok.ensures.ok bytes seen) drew.says;
    }

-- its refusal, as far as it was written
pub returns-in-Err-Refused-clause-line : goal.returns-in-Err-Refused-clause-line
returns-in-Err-Refused-clause-line g c =
    let drew = rw c.in-Err-Refused.field-0-is at c.in-Err-Refused.ensures.line in
    record {
      drawn = drew.drawn;
      moved = drew.moved;
      says = λ bytes seen.
          tells_refusal c.args.now c.args.limit bytes _ _ _ drew.drawn c.in-Ok.line c.in-Err-Refused.response c.refuse.result
          (c.in-Ok.ensures.ok bytes seen) drew.says c.refuse.ensures.statuses c.refuse.ensures.whole c.refuse.ensures.front
          (λ six. ap g.K.Sink.written (c.refuse.ensures.unwritten six));
    }

-- nothing, for want of memory
pub returns-in-Err-NoMemory-accepted-clause-line : goal.returns-in-Err-NoMemory-accepted-clause-line
returns-in-Err-NoMemory-accepted-clause-line g c =
    let drew = rw c.in-Err-NoMemory-accepted.field-0-is at c.in-Err-NoMemory-accepted.ensures.line in
    record {
      drawn = drew.drawn;
      moved = drew.moved;
      says = λ bytes seen.
          tells_nothing c.args.now c.args.limit bytes _ _ drew.drawn c.in-Ok.line (c.in-Ok.ensures.ok bytes seen) drew.says;
    }
