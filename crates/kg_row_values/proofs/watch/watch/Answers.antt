use Rattle.std.proofs.Common.{[], ◌∷◌, ◌++◌, sym, ap, ◌∙◌}
use Rattle.std.proofs.lemmas.List.{map-append}
use Rattle.kg_row_values.specs.Watching.{watched_at}
use Rattle.kg_row_values.proofs.watch.watch.Goals as goal

-- the key comes last, with its value
pub loop-key-preserved : goal.loop-key-preserved
loop-key-preserved c =
    c.in_ok-push.ensures.items
    ∙ ap (λ before. c.loop-key.watched.items ++ record { key = c.in-Some.key; before = before } ∷ []) c.in_ok-before.ensures
    ∙ ap (λ watched. watched ++ watched_at c.args.rows.now c.in-Some.key ∷ []) c.loop-key.invariant
    ∙ sym (map-append (watched_at c.args.rows.now) c.loop-key.yielded (c.in-Some.key ∷ []))
