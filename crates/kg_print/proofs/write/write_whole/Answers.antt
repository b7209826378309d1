use Rattle.std.proofs.Common.{◌∙◌}
use Rattle.kg_print.proofs.WriteLemmas.{writes_on}
use Rattle.kg_print.proofs.write.write_whole.Goals as goal

pub loop-rest-preserved : goal.loop-rest-preserved
loop-rest-preserved g c =
    let held = c.loop-rest.invariant in
    let wrote = c.in_ok-taken.ensures.bytes in
    let on = writes_on _ _ _ _ _ _ _ held.rest held.written wrote.within wrote.appended c.split_at.ensures.back in
    record { rest = on.0; written = on.1; kept = c.in_ok-taken.ensures.cause.kept ∙ held.kept; beside = c.in_ok-taken.ensures.beside ∙ held.beside }
