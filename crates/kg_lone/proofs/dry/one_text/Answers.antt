use Rattle.kg_lone.proofs.DryLemmas.{alike}
use Rattle.kg_lone.proofs.dry.one_text.Goals as goal

pub returns-clause-status : goal.returns-clause-status
returns-clause-status c bytes drawn times status text code other mine yours =
    (alike bytes drawn times status text code other mine yours).statuses

pub returns-clause-text : goal.returns-clause-text
returns-clause-text c bytes drawn times status text code other mine yours =
    (alike bytes drawn times status text code other mine yours).texts
