use Rattle.std.proofs.Common.{◌≤◌, length, sym, ap, ◌∙◌, arith}
use Rattle.std.proofs.lemmas.List.{drop_all}
use Rattle.kg_level1.specs.Changing.{after_sync}
use Rattle.kg_level1.specs.Commits.{after_commits}
use Rattle.kg_level1.proofs.SyncLemmas.{commits_sync}
use Rattle.kg_level1.proofs.local.Local.sync.Goals as goal

pub returns : goal.returns
returns g c =
    let past : length c.as_slice-lists.result.now ≤ c.loop-keys.keys-index = omega arith in
    ap (λ ls. after_commits g.K.PartialEq.eq c.loop-keys.number ls c.loop-keys.self) (sym (drop_all c.loop-keys.keys-index c.as_slice-lists.result.now past))
    ∙ c.loop-keys.invariant.0
    ∙ commits_sync g.K.PartialEq.eq c.as_slice-lists.result.now c.args.from c.args.self.now c.requires.start
    ∙ ap (λ ls. after_sync g.K.PartialEq.eq c.args.from ls c.args.self.now) c.as_slice-lists.ensures
