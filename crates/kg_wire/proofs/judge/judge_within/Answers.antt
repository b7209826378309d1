use Rattle.std.proofs.Common.{◌≡◌, length, sym, ap, ◌∙◌, Err, arith}
use Rattle.std.proofs.lemmas.Bool.{eqb-true}
use Rattle.kg_wire.proofs.JudgeLemmas.{nothing_begins}
use Rattle.kg_wire.proofs.JudgedLemmas.{bad_when_over, bad_when_full, bad_when_crowded}
use Rattle.kg_wire.proofs.judge.judge_within.Goals as goal

pub returns-then-is_empty-clause-some : goal.returns-then-is_empty-clause-some
returns-then-is_empty-clause-some c =
    let none : length c.args.held.now ≡ 0 = eqb-true _ _ (sym c.is_empty.ensures ∙ c.if-is_empty.true) in
    record { short = omega arith; none = nothing_begins c.args.held.now none; may = λ some. absurd (omega arith) }

pub returns-else-spans-le-MOST_HEAD-clause-some : goal.returns-else-spans-le-MOST_HEAD-clause-some
returns-else-spans-le-MOST_HEAD-clause-some c =
    let found = rw c.in-Ok-Complete.field-0-is at c.in-Ok-Complete.ensures.complete in
    bad_when_over c.args.held.now found.0 _ found.1.reads (omega (arith, found.1.len))

pub returns-else-held-lt-MOST_HEAD-clause-some : goal.returns-else-held-lt-MOST_HEAD-clause-some
returns-else-held-lt-MOST_HEAD-clause-some c =
    let none = rw c.in-Ok-Partial.field-0-is at c.in-Ok-Partial.ensures.partial in
    bad_when_full c.args.held.now none (omega arith)

pub returns-else-room-lt-MOST_FIELDS-clause-some : goal.returns-else-room-lt-MOST_FIELDS-clause-some
returns-else-room-lt-MOST_FIELDS-clause-some c =
    bad_when_crowded c.args.held.now (length c.args.room.now) (omega arith) c.in-Err.ensures.no_room
    (c.in-Err.ensures.too_many (ap Err c.in-TooManyHeaders.is))

pub returns-in_default : goal.returns-in_default
returns-in_default c = record {
  some = c.judge_invalid.ensures c.parse_request.new.headers;
  none = λ is. absurd (cc);
}
