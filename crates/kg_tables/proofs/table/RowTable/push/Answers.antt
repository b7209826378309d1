use Rattle.std.proofs.Common.{Bool, ◌≡◌, ◌<◌, [], ◌∷◌, ◌++◌, ℕ, Option, Some, None, cond, nat_cmp, nat_eq, sym, ap, subst, ◌∙◌, rules}
use Rattle.std.specs.List.{list_any}
use Rattle.std.specs.List.Sorted.{IsStrictlySortedBy}
use Rattle.std.specs.Map.{keys_of, values_of}
use Rattle.std.specs.Ordering.{eq_by_cmp}
use Rattle.kg_tables.proofs.PlaceLemmas.{put_last, table_kept, table_push, undone}
use Rattle.kg_tables.proofs.TableLemmas.{values-push}
use Rattle.kg_row_types.specs.declared.entity.Kind.{Kind}
use Rattle.kg_tables.specs.PlaceIndexes.{IsTable, listed_in, place_at}
use Rattle.kg_tables.specs.References.{refers}
use Rattle.kg_tables.proofs.table.RowTable.push.Goals as goal

-- the row comes last, at the next place
pub invariant_of-self-in-Ok : goal.invariant_of-self-in-Ok
invariant_of-self-in-Ok g c =
    let number = g.T.Row.number in
    let names : Kind → ℕ → g.row.T.Denot → Bool = λ kind id row. refers kind id (g.T.Row.references row) in
    let es = c.self.inside.rows.entries in
    let n = c.self.inside.next in
    let row = c.args.row in
    let place = place_at c.self.inside.places in
    let last : c.insert-2.new.self.entries ≡ es ++ (n, row) ∷ [] = c.in-Ok.ensures.entries ∙ put_last number n row es c.self.invariant.before in
    let more : n < c.in-Some.next = search rules in
    subst (λ entries. IsTable number names entries (place_at c.insert.new.self) (listed_in c.note.new.self) c.in-Some.next) (sym last)
    (table_push number names es place (place_at c.insert.new.self) (listed_in c.self.inside.listing) (listed_in c.note.new.self) n c.in-Some.next row c.self.invariant more
    (ap (list_any (λ other. nat_eq (number other) (number row))) c.self.view_is ∙ c.requires.new)
    (λ id. c.in_ok-insert.ensures.updates id ∙ ap (λ own. cond {A = Option ℕ} (eq_by_cmp nat_cmp own id) (Some n) (place id)) c.id-id.ensures)
    c.note.ensures.kept
    (λ kind id named. c.in_ok-note.ensures.listed kind id (ap (refers kind id) c.references.ensures ∙ named))
    (subst (λ entries. IsStrictlySortedBy nat_cmp (keys_of entries)) last c.in-Ok.ensures.ordered))

pub returns-in-Ok-clause-ok : goal.returns-in-Ok-clause-ok
returns-in-Ok-clause-ok g c =
    let es = c.self.inside.rows.entries in
    let n = c.self.inside.next in
    let row = c.args.row in
    ap values_of (c.in-Ok.ensures.entries ∙ put_last g.T.Row.number n row es c.self.invariant.before) ∙ values-push es n row ∙ ap (λ rows. rows ++ row ∷ []) c.self.view_is

-- the place is given up again
pub invariant_of-self-in-Err : goal.invariant_of-self-in-Err
invariant_of-self-in-Err g c =
    let number = g.T.Row.number in
    let names : Kind → ℕ → g.row.T.Denot → Bool = λ kind id row. refers kind id (g.T.Row.references row) in
    let es = c.self.inside.rows.entries in
    let n = c.self.inside.next in
    let row = c.args.row in
    let place = place_at c.self.inside.places in
    table_kept number names es c.insert-2.new.self.entries place (place_at c.remove.new.self) (listed_in c.self.inside.listing) (listed_in c.note.new.self) n c.self.invariant
    c.in-Err.ensures.err
    (λ id. c.remove.ensures.updates id
    ∙ ap (cond {A = Option ℕ} (eq_by_cmp nat_cmp c.id-id.result id) None) (c.in_ok-insert.ensures.updates id)
    ∙ ap (λ own. cond {A = Option ℕ} (eq_by_cmp nat_cmp own id) None (cond {A = Option ℕ} (eq_by_cmp nat_cmp own id) (Some n) (place id))) c.id-id.ensures
    ∙ undone number names es place (listed_in c.self.inside.listing) n c.self.invariant (number row) n (ap (list_any (λ other. nat_eq (number other) (number row))) c.self.view_is ∙ c.requires.new) id)
    c.note.ensures.kept
