use Rattle.kg_context.proofs.consumer.add_set.Goals as goal

pub returns-in-Some : goal.returns-in-Some
returns-in-Some c = rw c.in-Some.is (rw c.as_bytes.ensures.value at c.add_field.ensures)
