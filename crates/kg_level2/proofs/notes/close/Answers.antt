use Rattle.std.proofs.Common.{rules, tests}
use Rattle.std.proofs.lemmas.Fn.{filter_same}
use Rattle.kg_level2.proofs.notes.close.Goals as goal

pub returns : goal.returns
returns g c = filter_same _ _ _ (λ x b f' k. search (rules, tests)) _ _ c.retain.ensures.filtered
