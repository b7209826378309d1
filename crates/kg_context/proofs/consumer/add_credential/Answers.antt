use Rattle.kg_context.proofs.consumer.add_credential.Goals as goal

pub returns-in_ok-identifier-in-Some : goal.returns-in_ok-identifier-in-Some
returns-in_ok-identifier-in-Some c =
    rw c.in-Some.is (rw c.in_ok-identifier-in-Some.ensures at c.add_value.ensures)

pub returns-in-None : goal.returns-in-None
returns-in-None c = rw c.in-None.is c.add_field.ensures
