-- A store with one owner (this project's own).
use Rattle.std.specs.Prelude.{ℕ, true, List, Some}
use Rattle.kg_keeper.specs.Observed.{Observed}
use Rattle.kg_keeper.specs.Plans.{Planned, failing}
use Rattle.kg_row_values.specs.declared.command.Command.{Command}

-- its commands, how many rows a kind may have, of how many last commits it keeps what they touched, and its calls
pub record Store : Type 0 where
  pub commands : List Command
  pub limit : ℕ
  pub feed : ℕ
  pub plan : Planned

abbrev pub observed : Store → Observed
observed store = record {
  seen = Some store.commands;
  faults = store.plan.faults;
  calls = store.plan.calls;
  failing = Some (failing store.plan);
  alone = true;
  limit = store.limit;
  feed = store.feed;
}
