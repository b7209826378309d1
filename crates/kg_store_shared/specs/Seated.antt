-- What contracts see of a seat at a shared store, and what a call under the lock leaves (this project's own).
use Rattle.std.specs.Prelude.{◌≡◌, ℕ, Bool, false, List, [], Some}
use Rattle.kg_history.specs.Sights.{Sight}
use Rattle.kg_keeper.specs.Observed.{HasFaults, IsCall, Observed}
use Rattle.kg_keeper.specs.Plans.{Planned, failing}
use Rattle.kg_row_values.specs.declared.command.Command.{Command}

-- what its pass has seen, how many calls other than `look` there were, which of the coming ones fail, how many rows
-- a kind may have, and of how many last commits it tells what they touched
pub record Seated : Type 0 where
  pub sight : Sight Command
  pub calls : ℕ
  pub plan : Planned
  pub limit : ℕ
  pub feed : ℕ

-- others commit, too
abbrev pub observed : Seated → Observed
observed seat = record {
  seen = Some seat.sight.seen;
  faults = seat.plan.faults;
  calls = seat.calls;
  failing = Some (failing seat.plan);
  alone = false;
  limit = seat.limit;
  feed = seat.feed;
}

-- it has seen these commits, and made no call
abbrev pub new_seat : List Command → ℕ → ℕ → Seated
new_seat commits limit feed = record {
  sight = record { seen = commits; looks = 0; last = 0 };
  calls = 0;
  plan = record { calls = 0; faults = 0; announced = 0; listed = [] };
  limit = limit;
  feed = feed;
}

-- no look was made
pub record HasNotLooked (before now : Sight Command) : Type 0 where
  pub looks : now.looks ≡ before.looks
  pub last : now.last ≡ before.last

-- a call that took the lock, under which these were the commits at its end: all of them are seen
pub record IsLockedCall (commits : List Command) (before now : Seated) (fault : Bool) : Type 0 where
  pub whole : now.sight.seen ≡ commits
  pub call : IsCall (observed before) (observed now)
  pub faults : HasFaults (observed before) (observed now) fault
  pub looks : HasNotLooked before.sight now.sight
