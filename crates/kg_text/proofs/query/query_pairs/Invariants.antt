use Rattle.std.proofs.Common.{◌≡◌, ◌++◌, map, length}
use Rattle.form_urlencoded.specs.Form.{raw_pairs}
use Rattle.form_urlencoded.specs.Parse.{raw_pairs_left}
use Rattle.kg_text.specs.Queries.{decoded_pair}
use Rattle.kg_text.proofs.query.query_pairs.Given as goal

abbrev pub invariant-loop-name : goal.invariant-loop-name
invariant-loop-name l = l.pairs ++ map decoded_pair (raw_pairs_left l.rest) ≡ map decoded_pair (raw_pairs l.query)

abbrev pub decreases-loop-name : goal.decreases-loop-name
decreases-loop-name l = length (raw_pairs_left l.rest)
