use Rattle.kg_field_rules.proofs.PatternLemmas.{compiled_is_pattern, syntax_is_no_pattern}
use Rattle.kg_field_rules.proofs.text_rule.pattern.is_pattern.Goals as goal
use Rattle.kg_field_rules.proofs.text_rule.pattern.is_pattern.Goals.{in-Ok, in-Err-Syntax, in-Err-CompiledTooBig, in-Err-Internal, in-Err-OutOfMemory}

pub returns : goal.returns
returns c = elim c.match-new.branch [
  | in-Ok w ↦ rw w.result-is (compiled_is_pattern w.in-Ok.field-0 c.args.text.now w.in-Ok.ensures.source w.in-Ok.ensures.config w.in-Ok.ensures.read)
  | in-Err-Syntax w ↦ rw w.result-is (syntax_is_no_pattern c.args.text.now w.in-Err-Syntax.field-0 w.in-Err-Syntax.field-0-0 w.in-Err-Syntax.field-0-is w.in-Err-Syntax.ensures.by_grammar w.in-Err-Syntax.ensures.kind)
  | in-Err-CompiledTooBig w ↦ rw w.result-is tt
  | in-Err-Internal w ↦ rw w.result-is tt
  | in-Err-OutOfMemory w ↦ rw w.result-is tt
]
