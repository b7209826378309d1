use Rattle.std.proofs.Common.{sym, ◌∙◌}
use Rattle.std.proofs.lemmas.Str.{utf8_lossy-IsUtf8}
use Rattle.kg_message.proofs.gateway_message.message_body.Goals as goal

-- of a text that is UTF-8 nothing is replaced
pub returns-in-Ok : goal.returns-in-Ok
returns-in-Ok c =
    let (same, utf8) = c.in-Ok.ensures.cases in
    rw (same ∙ sym (utf8_lossy-IsUtf8 c.args.text.now utf8)) at c.body_with.ensures
