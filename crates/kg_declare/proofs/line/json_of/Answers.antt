use Rattle.std.proofs.Common.{sym, true≢false}
use Rattle.serde_json.specs.View.{view}
use Rattle.kg_declare.proofs.LineLemmas.{json_read, json_unread}
use Rattle.kg_declare.proofs.line.json_of.Goals as goal

pub returns-in-Ok : goal.returns-in-Ok
returns-in-Ok c = json_read c.args.line.now (view c.in-Ok.value) c.in-Ok.ensures.ok.0 c.in-Ok.ensures.ok.1

pub returns-else-is_memory : goal.returns-else-is_memory
returns-else-is_memory c =
    json_unread c.args.line.now (c.in-Err.ensures.err (λ memory. true≢false (sym (c.if-is_memory.ensures.1 memory))))
