use Rattle.std.proofs.Common.{◌+◌, ◌<◌, ◌≤◌, ◌∷◌, drop, filter, length, sym, ap, ◌∙◌, arith}
use Rattle.std.proofs.lemmas.List.{drop_more, drop_all}
use Rattle.kg_level1.specs.Commits.{outlasts}
use Rattle.kg_level1.proofs.DropLemmas.{more_named, none_named}
use Rattle.kg_level1.proofs.dropping.drop_keys.Goals as goal

pub loop-key-preserved : goal.loop-key-preserved
loop-key-preserved g c =
    let within : c.loop-key.key-index < length c.args.keys.now = omega arith in
    let split = drop_more c.args.keys.now c.loop-key.key-index c.key-item.result within
    ∙ ap (λ k. k ∷ drop (c.loop-key.key-index + 1) c.args.keys.now) (sym c.key-item.is) in (
      ap (λ es. filter (outlasts {V = g.row.V.Denot} g.K.PartialEq.eq c.args.number (drop (c.loop-key.key-index + 1) c.args.keys.now)) es) c.drop_key.ensures.entries
          ∙ sym (more_named g.K.PartialEq.eq c.args.number c.key-item.result (drop (c.loop-key.key-index + 1) c.args.keys.now) c.loop-key.cache.entries)
          ∙ ap (λ ks. filter (outlasts {V = g.row.V.Denot} g.K.PartialEq.eq c.args.number ks) c.loop-key.cache.entries) (sym split)
          ∙ c.loop-key.invariant.0,
      c.drop_key.ensures.cap ∙ c.loop-key.invariant.1,
    )

pub returns-clause-entries : goal.returns-clause-entries
returns-clause-entries g c =
    let past : length c.args.keys.now ≤ c.loop-key.key-index = omega arith in
    sym (none_named g.K.PartialEq.eq c.args.number c.loop-key.cache.entries)
    ∙ ap (λ ks. filter (outlasts {V = g.row.V.Denot} g.K.PartialEq.eq c.args.number ks) c.loop-key.cache.entries) (sym (drop_all c.loop-key.key-index c.args.keys.now past))
    ∙ c.loop-key.invariant.0
