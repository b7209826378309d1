use Rattle.kg_admin.proofs.asked.asked_of.Goals as goal

pub returns-in-Page-clause-wanted : goal.returns-in-Page-clause-wanted
returns-in-Page-clause-wanted c = rw c.in-Page.is (c.page_of.ensures.wanted c.args.id c.args.now)

pub returns-in-Find-clause-wanted : goal.returns-in-Find-clause-wanted
returns-in-Find-clause-wanted c = rw c.in-Find.is (c.find_of.ensures.wanted c.args.id c.args.now)

pub returns-in-Patch-clause-wanted : goal.returns-in-Patch-clause-wanted
returns-in-Patch-clause-wanted c = rw c.in-Patch.is (c.patch_of.ensures.wanted c.args.id)

pub returns-in-Delete-clause-wanted : goal.returns-in-Delete-clause-wanted
returns-in-Delete-clause-wanted c = rw c.in-Delete.is (c.deletion.ensures.wanted c.args.id c.args.now)
