-- the test says `false` at a field of the name once one was kept
use Rattle.std.proofs.Common.{◌≡◌, refl, rules, tests}
use Rattle.kg_text.proofs.ListChangeLemmas.{first_retained}
use Rattle.kg_message.specs.HeaderLists.{is_named}
use Rattle.kg_message.specs.contracts.headers.fn.drop_later.retain as closure
use Rattle.kg_message.proofs.headers.drop_later.Goals as goal

pub returns : goal.returns
returns c =
    first_retained _ (is_named c.args.name.now) (λ f. (closure.captures f).found) (λ f. (closure.captures f).name.now ≡ c.args.name.now)
    (λ f x b g holds k. search (rules, tests)) _ _ _ refl refl c.retain.ensures.filtered
