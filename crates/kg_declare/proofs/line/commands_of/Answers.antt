use Rattle.kg_declare.proofs.line.commands_of.Goals as goal

pub returns-clause-insertions : goal.returns-clause-insertions
returns-clause-insertions c = λ is.
    let law = c.allowed_commands_make_valid_rows.ensures in
    let commands = c.args.made.commands in
    record {
      inserts = is.inserts;
      allowed = is.allowed;
      valid = law.valid commands c.args.limit is.allowed;
      distinct = law.distinct commands c.args.limit is.allowed;
      references = law.references commands c.args.limit is.allowed;
    }
