use Rattle.serde_json.specs.View.{view}
use Rattle.kg_admin.proofs.AskLemmas.{refused_broken}
use Rattle.kg_bodies.specs.declared.form.Form.{Form}
use Rattle.kg_field_tables.specs.BrokenRules.{field_violations}
use Rattle.kg_admin.proofs.body.form_of.Goals as goal

pub returns-in-Err-Violation-clause-body : goal.returns-in-Err-Violation-clause-body
returns-in-Err-Violation-clause-body c =
    let body = view c.args.body.now in
    let (same, some) = rw c.in-Err-Violation.field-0-is at c.in-Err-Violation.ensures.violation in
    refused_broken (λ (form : Form). view form.body) c.violation.result c.in-Err-Violation.broken (field_violations c.args.kind body) body c.violation.ensures same some
