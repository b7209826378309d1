-- Machinery for proofs: what the code's step of a fetch stands for.
use Rattle.kg_layers.specs.Fetching.{shown_ready}
use Rattle.kg_layers.specs.Stages as stage
use Rattle.kg_layers.specs.Stages.{Stage}
use Rattle.kg_layers.specs.declared.step.Step.{Step}
use Rattle.kg_layers.specs.declared.step.Step.TheVariants.{Looking, Loading, Settling, Handed, Abandoning, Left, Got, Lost}
use Rattle.std.specs.Arc.{arc_value}

abbrev pub stage_of : {K V : Type 0} → Step K V → Stage K V
stage_of Looking = stage.Looking
stage_of (Loading claim) = stage.Loading claim
stage_of (Settling claim val at) = stage.Settling claim (arc_value val) at
stage_of (Handed val at) = stage.Handed (arc_value val) at
stage_of (Abandoning claim) = stage.Abandoning claim
stage_of Left = stage.Left
stage_of (Got ready) = stage.Came (shown_ready ready)
stage_of Lost = stage.Lost
