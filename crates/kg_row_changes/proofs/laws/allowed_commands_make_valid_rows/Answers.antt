use Rattle.kg_row_types.specs.RowLists.{no_rows}
use Rattle.kg_row_changes.proofs.AllowedHistories.{distinct_after, no_rows_distinct, no_rows_refer, no_rows_valid, one_more, refers_after, valid_after}
use Rattle.kg_row_changes.proofs.laws.allowed_commands_make_valid_rows.Goals as goal

pub returns-clause-valid : goal.returns-clause-valid
returns-clause-valid c = λ history limit all. valid_after limit history no_rows all no_rows_valid

pub returns-clause-distinct : goal.returns-clause-distinct
returns-clause-distinct c = λ history limit all. distinct_after limit history no_rows all no_rows_distinct

pub returns-clause-references : goal.returns-clause-references
returns-clause-references c = λ history limit all. refers_after limit history no_rows all no_rows_refer

pub returns-clause-more : goal.returns-clause-more
returns-clause-more c = λ rows history command limit all valid allowed. one_more limit history rows command all valid allowed
