use Rattle.std.proofs.Common.{◌++◌}
use Rattle.kg_declared_rows.specs.SeenRows.{seen_all}
use Rattle.kg_declared_rows.proofs.DeclaredLemmas.{added_behind}
use Rattle.kg_declared_rows.proofs.declared.join.Goals as goal

-- the lists are added one after another
pub returns : goal.returns
returns c =
    let lists = c.args.lists.now in
    let two = seen_all lists.services.items ++ seen_all lists.routes.items in
    let three = two ++ seen_all lists.consumers.items in
    let four = three ++ seen_all lists.keys.items in
    let five = four ++ seen_all lists.logins.items in
    let six = five ++ seen_all lists.acls.items in
    added_behind _ _ _ six _
    (added_behind _ _ _ five _
    (added_behind _ _ _ four _
    (added_behind _ _ _ three _
    (added_behind _ _ _ two _
    (added_behind _ _ _ (seen_all lists.services.items) _ c.in_ok-append.ensures
    c.in_ok-append-2.ensures) c.in_ok-append-3.ensures) c.in_ok-append-4.ensures) c.in_ok-append-5.ensures) c.in_ok-append-6.ensures) c.in_ok-append-7.ensures
