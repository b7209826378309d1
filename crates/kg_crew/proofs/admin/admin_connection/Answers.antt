use Rattle.kg_crew.proofs.LawLemmas.{served_faults, served_places}
use Rattle.kg_crew.proofs.admin.admin_connection.Goals as goal

pub returns-clause-places : goal.returns-clause-places
returns-clause-places g c = served_places _ _ _ _ _ _ _ c.serve-end.ensures.serves

pub returns-clause-faulted : goal.returns-clause-faulted
returns-clause-faulted g c = served_faults _ _ _ _ _ _ _ c.serve-end.ensures.serves
