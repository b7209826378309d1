use Rattle.std.proofs.Common.{◌++◌, map, option_map, sym, ap, subst, ◌∙◌}
use Rattle.serde_json.specs.Find.{as_object}
use Rattle.serde_json.specs.View.{items_view, members_view, view}
use Rattle.kg_declared_rows.specs.SeenRows.{AddsObject}
use Rattle.kg_declared_rows.specs.Violations.{each_object}
use Rattle.kg_declared_rows.proofs.ViolationLemmas.{no_object, one_more_object}
use Rattle.kg_declared_rows.proofs.violations.each_object.Goals as goal

pub loop-item-preserved : goal.loop-item-preserved
loop-item-preserved c =
    let found = as_object (view c.in-Some.item) in
    let before = map (λ row. members_view row.entries) c.loop-item.rows.items in
    let after = map (λ row. members_view row.entries) c.add_object.new.rows.items in
    one_more_object found before after (each_object (items_view c.next.new.self.rest.items))
    (subst (AddsObject found before after) c.if-not-branch.false c.in_ok-add_object.ensures)
    ∙ ap (λ items. option_map (λ more. before ++ more) (each_object (items_view items))) (sym c.in-Some.ensures.steps.0)
    ∙ c.loop-item.invariant

-- an item is no object
pub returns-then-not-branch : goal.returns-then-not-branch
returns-then-not-branch c =
    let found = as_object (view c.in-Some.item) in
    let before = map (λ row. members_view row.entries) c.loop-item.rows.items in
    let after = map (λ row. members_view row.entries) c.add_object.new.rows.items in
    ap (option_map (λ more. before ++ more))
    (sym (ap (λ items. each_object (items_view items)) c.in-Some.ensures.steps.0
    ∙ no_object found before after (each_object (items_view c.next.new.self.rest.items))
    (subst (AddsObject found before after) c.if-not-branch.true c.in_ok-add_object.ensures)))
    ∙ c.loop-item.invariant
