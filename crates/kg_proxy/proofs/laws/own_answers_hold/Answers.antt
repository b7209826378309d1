use Rattle.kg_row_types.specs.contracts.key.KeyCopyKey.TheImpl.Laws as key_laws
use Rattle.kg_proxy.proofs.CoherenceLemmas.{own_holds}
use Rattle.kg_proxy.proofs.laws.own_answers_hold.Goals as goal

pub returns : goal.returns
returns c = λ history w now from told coherent. own_holds history key_laws.eq_is_same-law w coherent now from told
