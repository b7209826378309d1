use Rattle.std.proofs.Common.{length}
use Rattle.kg_router.proofs.TableLemmas.{listed-permuted}
use Rattle.kg_router.proofs.candidate.in_order.Goals as goal

pub returns : goal.returns
returns c =
    let services = c.args.services.now in
    let tests = c.args.tests.now in
    record {
      listed = listed-permuted services tests (length tests) c.in_ok-candidates.candidates.items c.sort.new.candidates.items c.in_ok-sort.ensures.same c.in_ok-candidates.ensures;
      ordered = c.in_ok-sort.ensures.ordered;
    }
