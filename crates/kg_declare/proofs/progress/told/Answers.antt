use Rattle.std.proofs.Common.{◌<◌, fold, map, sym, subst, ap, ◌∙◌}
use Rattle.std.proofs.lemmas.List.{length-map}
use Rattle.serde_json.specs.View.{view}
use Rattle.kg_field_rules.specs.Rules.{listed, tell}
use Rattle.kg_field_tables.specs.BrokenRules.{field_violations}
use Rattle.kg_declare.specs.Outcome.{wrong_violations}
use Rattle.kg_declare.specs.RefusalBody.{violation_response}
use Rattle.kg_declare.proofs.ProgressLemmas.{told_behind, wrong_is_a_violation}
use Rattle.kg_declare.proofs.progress.told.Goals as goal

-- the reply tells the violations of the fields and the lists that are none
pub returns : goal.returns
returns c =
    let own = field_violations c.args.kind (view c.args.body.now) in
    let wrong = map (λ name. name.now) c.args.wrong.now in (
      wrong_is_a_violation own wrong (subst (λ n. 0 < n) (sym (length-map c.args.wrong.now (λ name. name.now))) c.requires),
      c.in_ok-violation_response.ensures
          ∙ ap violation_response (c.as_slice.ensures ∙ c.in_ok-broken.ensures
          ∙ ap listed (told_behind own (wrong_violations wrong) c.tell_wrong.new.violations
          (c.in_ok-tell_wrong.ensures ∙ ap (λ violations. fold tell violations (wrong_violations wrong)) c.in_ok-violations.ensures))),
    )
