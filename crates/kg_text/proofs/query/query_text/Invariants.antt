use Rattle.std.proofs.Common.{◌≡◌, [], take}
use Rattle.kg_text.specs.Queries.{query_text}
use Rattle.kg_text.proofs.query.query_text.Given as goal

abbrev pub invariant-loop-pair : goal.invariant-loop-pair
invariant-loop-pair l = (l.form.prefix ≡ []) × (l.form.form ≡ query_text (take l.pair-index l.pair-items))
