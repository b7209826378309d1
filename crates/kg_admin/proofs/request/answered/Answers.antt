use Rattle.kg_admin.proofs.request.answered.Goals as goal

pub returns-in-Change : goal.returns-in-Change
returns-in-Change g c = rw c.in-Change.is (c.changed-done.ensures c.args.path.now)

pub returns-in-Find : goal.returns-in-Find
returns-in-Find g c = rw c.in-Find.is (c.found-done.ensures c.args.path.now)
