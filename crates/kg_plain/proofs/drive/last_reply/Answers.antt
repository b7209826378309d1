use Rattle.std.proofs.Common.{◌∙◌, sym}
use Rattle.kg_visit.specs.Told.{want_after}
use Rattle.kg_plain.proofs.DriveLemmas.{wants_message}
use Rattle.kg_plain.proofs.drive.last_reply.Goals as goal

-- what is neither its own question nor the reply is the message
pub finish_by_echo-requires-clause-wanted : goal.finish_by_echo-requires-clause-wanted
finish_by_echo-requires-clause-wanted c =
    wants_message (want_after c.args.visit) c.requires.last (sym (c.is_done.ensures c.requires.whole) ∙ c.if-is_done.false)
