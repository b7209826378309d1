-- What the windows stand for: a list of hits, of which they keep the last time, the number, and how many were let
-- through in the windows that this time hasn't passed.
use Rattle.std.specs.Prelude.{◌≡◌, ℕ, ◌<◌, ◌≤◌, ◌^◌, List, IsSomeAnd, length}
use Rattle.kg_limit.specs.Counting.{IsNotAhead, StandsAt, key_of, used_by}
use Rattle.kg_limit.specs.Judging.{judged_all, last_time, used}
use Rattle.kg_limit.specs.declared.count_table.CountTable.{CountTable}
use Rattle.kg_limit.specs.declared.hit.Hit.{Hit}
use Rattle.kg_limit.specs.declared.window.Window.{Window}
use Rattle.kg_limit.specs.declared.windows.Room.{Room}
use Rattle.kg_limit.specs.declared.windows.Windows.{Windows}

-- the windows stand for these hits
pub record Represents (windows : Windows) (hits : List Hit) : Type 0 where
  pub time : windows.time ≡ last_time (judged_all hits)
  pub place : windows.place ≡ length hits
  -- of each window that isn't over the number kept is the count
  pub counts : (row : ℕ) (identity : List ℕ) (window : Window) (time : ℕ) → windows.time ≤ time
      → used_by windows.table (key_of row identity) window time ≡ used (judged_all hits) row identity window time
  pub ahead : IsNotAhead windows.table windows.time

-- the room is for this hit
pub record IsRoomFor (table : CountTable) (hit : Hit) (room : Room) : Type 0 where
  pub entry : StandsAt table (key_of hit.row hit.identity) room.at
  pub left : room.left ≡ hit.limits

-- there is room for one more hit, which is this one
pub record HasRoom (windows : Windows) (hit : Hit) : Type 0 where
  pub place : windows.place < 2 ^ 62
  pub room : IsSomeAnd windows.room (IsRoomFor windows.table hit)
