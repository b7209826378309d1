use Rattle.kg_match.proofs.PatternLemmas.{compiled_reads, syntax_refused}
use Rattle.kg_match.proofs.pattern.PathPattern.build.Goals as goal

-- the text was read
pub returns-in-Ok : goal.returns-in-Ok
returns-in-Ok c =
    let compiled = c.in-Ok.ensures in
    (compiled.source, compiled_reads c.in-Ok.regex c.args.text.now compiled.source compiled.config compiled.read)

-- an error of syntax refuses the text
pub returns-in-Err-Syntax : goal.returns-in-Err-Syntax
returns-in-Err-Syntax c =
    let refused = c.in-Err-Syntax.ensures in
    syntax_refused c.args.text.now c.in-Err-Syntax.field-0-0 (rw c.in-Err-Syntax.field-0-is at refused.by_grammar) (rw c.in-Err-Syntax.field-0-is at refused.kind)
