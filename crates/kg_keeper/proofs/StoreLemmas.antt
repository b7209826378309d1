-- The calls of a store with one owner.
use Rattle.std.proofs.Common.{Bool, true, [], Some, sym, ap, append-nil}
use Rattle.kg_keeper.proofs.PlanLemmas.{failing_after}
use Rattle.kg_keeper.specs.Observed.{IsCall}
use Rattle.kg_keeper.specs.Plans.{moved_on}
use Rattle.kg_keeper.specs.Stores.{Store, observed}
use Rattle.kg_outside.specs.Counts.{one_more}

-- a call that is counted and changes nothing else
pub call_counted : (store : Store) (fault : Bool) → IsCall (observed store) (observed (record store { plan = moved_on fault store.plan }))
call_counted store fault = record {
  grows = ([], ap Some (sym (append-nil store.commands)));
  rest = ap
      (λ numbers. record {
        seen = Some store.commands;
        faults = (moved_on fault store.plan).faults;
        calls = one_more store.plan.calls;
        failing = Some numbers;
        alone = true;
        limit = store.limit;
        feed = store.feed;
      })
      (sym (failing_after store.plan.announced store.plan.listed));
}
