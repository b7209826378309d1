use Rattle.std.proofs.Common.{◌≡◌, ◌≤◌, ◌-◌, None}
use Rattle.kg_outside.specs.Moves.{with_front}
use Rattle.kg_limit.specs.Representing.{Represents}
use Rattle.kg_plain.specs.Answered.{AnsweredOn}
use Rattle.kg_plain.specs.Replies.{local_address, most_requests}
use Rattle.kg_plain.proofs.answers.answer_all.Given as goal

abbrev pub invariant-loop-count : goal.invariant-loop-count
invariant-loop-count g l = record {
  fresh : l.reader.error ≡ None;
  address : l.reader.address ≡ local_address;
  few : l.count ≤ most_requests;
  answered : AnsweredOn l.gateway (g.T.Clock.reads l.initial.clock l.clock) (Represents l.windows) (g.S.Source.left l.initial.source)
      (with_front l.reader.held (g.S.Source.left l.source)) (g.K.Sink.written l.initial.sink) (g.K.Sink.written l.sink) l.count l.reader.at;
  kept_read : g.S.Source.faults l.source ≡ g.S.Source.faults l.initial.source;
  kept_write : g.K.Sink.faults l.sink ≡ g.K.Sink.faults l.initial.sink;
}

abbrev pub decreases-loop-count : goal.decreases-loop-count
decreases-loop-count g l = most_requests - l.count
