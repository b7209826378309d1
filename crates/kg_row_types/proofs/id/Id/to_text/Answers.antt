use Rattle.kg_row_types.specs.Ids.{printed}
use Rattle.kg_row_types.proofs.id.Id.to_text.Goals as goal

-- the text of the hyphenated form of the bytes of the number
pub returns : goal.returns
unfolding printed
returns c = rw (c.in_lower_case.ensures, c.hyphenated-form.ensures, c.uuid.ensures) at c.from_str.ensures
