-- the first place at which something stands
use Rattle.std.proofs.Common.{find, option_map, sym, ap, ◌∙◌}
use Rattle.std.specs.List.{flat_map}
use Rattle.kg_auth.specs.KeyPlaces.{is_used, place_at, places_of}
use Rattle.kg_auth.proofs.SearchLemmas.{found_here, found_in_all}
use Rattle.kg_auth.proofs.key_place.key_place.Goals as goal

pub returns-in-Some : goal.returns-in-Some
returns-in-Some c =
    let used = is_used c.args.ctx.now in
    let places = places_of c.args.config.now in
    let names = c.as_slice-name-items.result.now in
    let is = sym c.place_of.ensures ∙ ap (option_map place_at) c.in-Some.is in
    found_in_all used places names c.loop-name.name-index c.name-item.result c.loop-name-test.true c.name-item.is c.loop-name.invariant (place_at c.in-Some.place) is
    ∙ ap (λ all. find used (flat_map places all)) c.as_slice-name-items.ensures

pub loop-name-preserved : goal.loop-name-preserved
loop-name-preserved c =
    let used = is_used c.args.ctx.now in
    let places = places_of c.args.config.now in
    let names = c.as_slice-name-items.result.now in
    found_here used places names c.loop-name.name-index c.name-item.result c.loop-name-test.true c.name-item.is c.loop-name.invariant
    ∙ sym c.place_of.ensures ∙ ap (option_map place_at) c.in_default.is
