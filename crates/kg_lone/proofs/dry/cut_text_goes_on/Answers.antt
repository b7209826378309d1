use Rattle.kg_lone.proofs.DryLemmas.{goes_on}
use Rattle.kg_lone.proofs.dry.cut_text_goes_on.Goals as goal

pub returns : goal.returns
returns c bytes drawn times front cut more later status text meant = goes_on bytes drawn more times later status front text cut meant
