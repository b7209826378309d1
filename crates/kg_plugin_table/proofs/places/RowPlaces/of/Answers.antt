use Rattle.std.proofs.Common.{◌++◌, ◌∷◌, [], Some, None, cond, take, sym, ap, ◌∙◌, arith}
use Rattle.std.proofs.lemmas.List.{length-take-le, take_all, take_more}
use Rattle.std.specs.List.{position}
use Rattle.std.specs.Option.{option_or}
use Rattle.kg_plugin_table.proofs.PlaceLemmas.{position-push}
use Rattle.kg_plugin_table.specs.Keys.{has_key}
use Rattle.kg_plugin_table.proofs.places.RowPlaces.of.Goals as goal

-- one more row
pub loop-place-preserved : goal.loop-place-preserved
loop-place-preserved c = λ key.
    let rows = c.args.rows.now in
    let place = c.loop-place.place in
    let row = c.index-rows-place.result in
    let front = take place rows in
    let test = has_key key in
    let grown = take_more rows place row c.loop-place-test.true ∙ ap (λ one. front ++ one ∷ []) (sym c.index-rows-place.is) in
    c.in_ok-note_row.ensures key
    ∙ ap (λ kept. option_or kept (cond (test row) (Some place) None)) (c.loop-place.invariant key)
    ∙ ap (λ at. option_or (position test front) (cond (test row) (Some at) None)) (sym (length-take-le place rows (omega (arith, c.loop-place-test.true))))
    ∙ sym (position-push test front row)
    ∙ ap (position test) (sym grown)

-- each row
pub returns : goal.returns
returns c = λ key.
    c.loop-place.invariant key
    ∙ ap (position (has_key key)) (take_all c.loop-place.place c.args.rows.now c.loop-place-test.false)
