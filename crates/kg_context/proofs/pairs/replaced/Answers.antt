-- what each kind of pair adds
use Rattle.std.proofs.Common.{◌≡◌, true, false, ◌<◌, ◌++◌, ◌∷◌, [], length, ◌∙◌, rules, tests}
use Rattle.kg_context.specs.PairLists.{has_pair_name, with_pair_value}
use Rattle.kg_context.proofs.PairLemmas.{other_comes, first_comes, later_comes}
use Rattle.kg_context.proofs.pairs.replaced.Goals as goal
use Rattle.kg_context.proofs.pairs.replaced.Goals.{then-not-has_name+in_ok-try_clone+in_ok-push, else-not-has_name+then-not-found+in_ok-made_pair+in_ok-push-2, else-not-has_name+else-not-found}

pub loop-pair-preserved : goal.loop-pair-preserved
loop-pair-preserved c =
    let pairs = c.as_slice-pair-items.result.now in
    let pair = c.pair-item.result in
    let i = c.loop-pair.pair-index in
    let within : c.loop-pair.pair-index < length c.as_slice-pair-items.result.now = search (rules, tests) in
    let p = has_pair_name c.args.name.now in
    let change = with_pair_value c.args.value.now in
    let found = c.loop-pair.found in
    let made = c.loop-pair.made in
    let whether = c.loop-pair.invariant.0 in
    let so_far = c.loop-pair.invariant.1 in
    elim c.if-not-has_name.branch [
      | then-not-has_name+in_ok-try_clone+in_ok-push w ↦
          let other : has_pair_name c.args.name.now c.pair-item.result ≡ false = search (rules, tests) in
          let now = other_comes p change pairs i pair found made within c.pair-item.is whether so_far other in
          let pushed : w.push.new.self ≡ c.loop-pair.made ++ c.pair-item.result ∷ [] = search (rules, tests) in
          (w.found-is ∙ now.0, w.made-is ∙ pushed ∙ now.1)
      | else-not-has_name+then-not-found+in_ok-made_pair+in_ok-push-2 w ↦
          let passes : has_pair_name c.args.name.now c.pair-item.result ≡ true = search (rules, tests) in
          let fresh : c.loop-pair.found ≡ false = search (rules, tests) in
          let now = first_comes p change pairs i pair found made within c.pair-item.is whether so_far passes fresh in
          let pushed : w.push-then-not-found.new.self ≡ c.loop-pair.made ++ with_pair_value c.args.value.now c.pair-item.result ∷ [] = search (rules, tests) in
          (w.found-is ∙ now.0, w.made-is ∙ pushed ∙ now.1)
      | else-not-has_name+else-not-found w ↦
          let passes : has_pair_name c.args.name.now c.pair-item.result ≡ true = search (rules, tests) in
          let came : c.loop-pair.found ≡ true = search (rules, tests) in
          let now = later_comes p change pairs i pair found made within c.pair-item.is whether so_far passes came in
          (w.found-is ∙ now.0, w.made-is ∙ now.1)
    ]
