use Rattle.std.proofs.Common.{◌+◌, [], ◌++◌, length, ◌∙◌, sym, ap, subst}
use Rattle.serde_json.specs.Data.{object}
use Rattle.kg_bodies.specs.Settings.{id_at}
use Rattle.kg_rows.specs.Decision.{CanStandUnder, insertion}
use Rattle.kg_declare.specs.Inserting.{IsIdOf, Leaves, accepted_at, decided, with_row}
use Rattle.kg_declared_rows.specs.SeenRows.{seen}
use Rattle.kg_declare.specs.Steps.{IsRefusedAt}
use Rattle.kg_declare.proofs.ProgressLemmas.{nothing_more, row_refused, row_step}
use Rattle.kg_declare.proofs.StandLemmas.{can_stand}
use Rattle.kg_declare.proofs.progress.insert_row.Goals as goal

pub insert-inserted-requires-clause-proper : goal.insert-inserted-requires-clause-proper
insert-inserted-requires-clause-proper g c = (
  c.in-Ok.ensures.kind,
  subst (λ parent. CanStandUnder c.args.row.kind parent) (sym c.parent_of-parent.ensures) (can_stand c.args.made.now.commands (seen c.args.row) c.requires),
)

pub returns-in-Ok-clause-steps : goal.returns-in-Ok-clause-steps
returns-in-Ok-clause-steps g c =
    let drawn = c.id_of-id.ensures.drawn in
    let row = seen c.args.row in
    record {
      drawn = drawn;
      moved = c.id_of-id.ensures.moved;
      leaves = λ front more.
          subst (λ meant. Leaves c.insert-inserted.result meant c.insert-inserted.new.made (length front + length drawn))
          (ap (λ parent. decided (accepted_at c.args.made.now (length front)) (length front + length drawn)
          (insertion c.args.made.now.rows row.kind parent (object row.members) c.id_of-id.result c.args.now c.args.limit)) c.parent_of-parent.ensures
          ∙ sym (row_step front drawn more c.args.now c.args.limit row c.args.made.now c.id_of-id.result c.in-Ok.ensures.valid
          (subst (λ body. IsIdOf (id_at body) drawn c.id_of-id.result) c.in-Ok.ensures.body c.id_of-id.ensures.is)))
          (subst (λ body. Leaves c.insert-inserted.result (decided (accepted_at c.args.made.now (length front)) (length front + length drawn)
          (insertion c.args.made.now.rows row.kind c.parent_of-parent.result body c.id_of-id.result c.args.now c.args.limit)) c.insert-inserted.new.made (length front + length drawn))
          c.in-Ok.ensures.body (c.insert-inserted.ensures.leaves (length front) (length front + length drawn)));
    }

pub returns-in-Err-clause-steps : goal.returns-in-Err-clause-steps
returns-in-Err-clause-steps g c = record {
  drawn = [];
  moved = g.met.I.Ids.draws_none c.args.ids.now;
  leaves = λ front more.
      let draws = front ++ [] ++ more in
      let row = seen c.args.row in
      let accepted = accepted_at c.args.made.now (length front) in
      subst (IsRefusedAt c.in-Err.e (with_row draws c.args.now c.args.limit row accepted)) (nothing_more (length front))
      (row_refused draws c.args.now c.args.limit row accepted c.in-Err.e c.in-Err.ensures.violation);
}
