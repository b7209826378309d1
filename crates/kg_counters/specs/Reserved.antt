-- Memory that is taken for a hit before it is counted (this project's own).
use Rattle.std.specs.Prelude.{◌<◌, ◌^◌, List, length}
use Rattle.kg_limit.specs.Representing.{HasRoom}
use Rattle.kg_limit.specs.declared.hit.Hit.{Hit}
use Rattle.kg_limit.specs.declared.windows.Windows.{Windows}

-- the memory for this hit was taken last, and there are fewer than 2^62 hits
pub record IsReserved (hits : List Hit) (windows : Windows) (hit : Hit) : Type 0 where
  pub few : length hits < 2 ^ 62
  pub room : HasRoom windows hit
