-- Each reading is the next one of the list, and one more.
use Rattle.std.specs.Prelude.{refl}
use Rattle.kg_outside.specs.Readings.{reading_now, one_read}
use Rattle.kg_outside.proofs.CountLemmas.{run_counted}
use Rattle.kg_outside.proofs.ListClockLemmas.{run_given}
use Rattle.kg_outside.proofs.clocks.readings_are_counted.Goals as goal

pub returns-clause-given : goal.returns-clause-given
returns-clause-given c = run_given

pub returns-clause-made : goal.returns-clause-made
returns-clause-made c before after readings run below = run_counted reading_now one_read (λ clock. clock.made) before after readings (λ clock. refl) run below
