use Rattle.kg_row_types.specs.contracts.key.GenKeyCopyKey.TheImpl.Laws as kind_laws
use Rattle.kg_row_types.specs.contracts.key.GenKeyEq.TheImpl.Laws as kind_eq_laws
use Rattle.kg_row_types.specs.contracts.key.KeyCopyKey.TheImpl.Laws as key_laws
use Rattle.kg_row_types.specs.contracts.key.KeyEq.TheImpl.Laws as key_eq_laws
use Rattle.kg_proxy.proofs.CoherenceLemmas.{worker_kept, worker_kept_gen, worker_longer, worker_made, worker_same, worker_synced}
use Rattle.kg_proxy.proofs.laws.workers_stay_coherent.Goals as goal

pub returns-clause-made : goal.returns-clause-made
returns-clause-made c = λ history. worker_made history

pub returns-clause-kept : goal.returns-clause-kept
returns-clause-kept c = λ history. worker_kept history key_laws.eq_is_same-law

pub returns-clause-kept_gen : goal.returns-clause-kept_gen
returns-clause-kept_gen c = λ history. worker_kept_gen history kind_laws.eq_is_same-law

pub returns-clause-synced : goal.returns-clause-synced
returns-clause-synced c = λ history. worker_synced history key_eq_laws.laws-law kind_eq_laws.laws-law

pub returns-clause-same : goal.returns-clause-same
returns-clause-same c = λ history. worker_same history

pub returns-clause-longer : goal.returns-clause-longer
returns-clause-longer c = λ history. worker_longer history
