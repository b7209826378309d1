use Rattle.kg_row_values.specs.Commits.{generation_after, value_after}
use Rattle.kg_row_values.proofs.CommitLemmas.{stays, unnamed_gens, unnamed_keys}
use Rattle.kg_row_values.proofs.laws.values_stay_until_a_commit_names_them.Goals as goal

pub returns-clause-keys : goal.returns-clause-keys
returns-clause-keys c = λ eq history from lists itself touched. unnamed_keys history eq itself from lists touched

pub returns-clause-gens : goal.returns-clause-gens
returns-clause-gens c = λ eq history from lists itself touched. unnamed_gens history eq itself from lists touched

pub returns-clause-all_keys : goal.returns-clause-all_keys
returns-clause-all_keys c = λ eq history from lists k itself touched silent.
    stays eq (value_after history) k from lists (unnamed_keys history eq itself from lists touched) silent

pub returns-clause-all_gens : goal.returns-clause-all_gens
returns-clause-all_gens c = λ eq history from lists g itself touched silent.
    stays eq (generation_after history) g from lists (unnamed_gens history eq itself from lists touched) silent
