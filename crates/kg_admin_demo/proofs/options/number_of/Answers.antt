use Rattle.std.proofs.Common.{sym, ap, ◌∙◌}
use Rattle.kg_admin_demo.specs.Words.{is_number}
use Rattle.kg_admin_demo.proofs.WordLemmas.{number_parsed}
use Rattle.kg_admin_demo.proofs.options.number_of.Goals as goal

pub returns-then-is_number : goal.returns-then-is_number
returns-then-is_number c =
    let is = ap is_number (sym c.as_bytes.ensures.value) ∙ sym c.is_number.ensures ∙ c.if-is_number.true in
    c.ok.ensures.value ∙ number_parsed c.args.value.now c.parse.result is c.parse.ensures.value.0
