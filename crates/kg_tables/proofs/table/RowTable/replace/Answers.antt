use Rattle.std.proofs.Common.{◌≡◌, ℕ, Bool, Some, None, not, nat_cmp, nat_eq, find, is_some, sym, ap, subst, ◌∙◌, true≢false}
use Rattle.std.specs.List.{list_any}
use Rattle.std.specs.List.Sorted.{IsStrictlySortedBy}
use Rattle.std.specs.Map.{keys_of, values_of}
use Rattle.kg_row_types.specs.declared.entity.Kind.{Kind}
use Rattle.kg_row_types.specs.Tables.{replaced}
use Rattle.kg_tables.proofs.PlaceLemmas.{at_place, elsewhere, is_there, no_place, put, row_there, stays, table_replaced, values_replaced}
use Rattle.kg_tables.proofs.TableLemmas.{not_replaced}
use Rattle.kg_tables.specs.PlaceIndexes.{IsTable, listed_in, place_at}
use Rattle.kg_tables.specs.References.{refers}
use Rattle.kg_tables.proofs.table.RowTable.replace.Goals as goal

-- no row has the id
pub returns-in_default-clause-old : goal.returns-in_default-clause-old
returns-in_default-clause-old g c =
    let number = g.T.Row.number in
    let none : place_at c.self.inside.places c.id.result ≡ None = sym c.get.ensures.value ∙ sym c.copied.ensures ∙ c.in_default.is in
    sym (no_place number _ _ _ _ _ c.self.invariant c.id.result none)
    ∙ ap (λ id. find (λ row. nat_eq (number row) id) (values_of c.self.inside.rows.entries)) c.id.ensures
    ∙ ap (find (λ row. nat_eq (number row) (number c.args.row))) c.self.view_is

pub returns-in_default-clause-ok : goal.returns-in_default-clause-ok
returns-in_default-clause-ok g c =
    let number = g.T.Row.number in
    let test : g.row.T.Denot → Bool = λ row. nat_eq (number row) (number c.args.row) in
    let none : place_at c.self.inside.places c.id.result ≡ None = sym c.get.ensures.value ∙ sym c.copied.ensures ∙ c.in_default.is in
    sym c.self.view_is
    ∙ not_replaced number c.args.row test (values_of c.self.inside.rows.entries)
    (ap (λ id. list_any (λ row. nat_eq (number row) id) (values_of c.self.inside.rows.entries)) (sym c.id.ensures) ∙ sym (is_there number _ _ _ _ _ c.self.invariant c.id.result) ∙ ap is_some none)
    ∙ ap (replaced test c.args.row) c.self.view_is

-- a place has a row
pub unreachable-requires : goal.unreachable-requires
unreachable-requires g c =
    true≢false (sym (row_there g.T.Row.number _ _ _ _ _ c.self.invariant c.id.result c.in-Some.place (sym c.get.ensures.value ∙ sym c.copied.ensures ∙ c.in-Some.is)) ∙ ap is_some c.in_default-insert.ensures.absent)

pub unreachable-requires-in_default-old : goal.unreachable-requires-in_default-old
unreachable-requires-in_default-old g c =
    true≢false (sym (row_there g.T.Row.number _ _ _ _ _ c.self.invariant c.id.result c.in-Some.place (sym c.get.ensures.value ∙ sym c.copied.ensures ∙ c.in-Some.is)) ∙ ap is_some (sym c.in-Ok.ensures.old ∙ c.in_default-old.is))

-- the row takes the place of the one with its id
pub invariant_of-self-2 : goal.invariant_of-self-2
invariant_of-self-2 g c =
    let number = g.T.Row.number in
    let names : Kind → ℕ → g.row.T.Denot → Bool = λ kind id row. refers kind id (g.T.Row.references row) in
    let es = c.self.inside.rows.entries in
    let p = c.in-Some.place in
    let row = c.args.row in
    let there : place_at c.self.inside.places (number row) ≡ Some p = ap (place_at c.self.inside.places) (sym c.id.ensures) ∙ sym c.get.ensures.value ∙ sym c.copied.ensures ∙ c.in-Some.is in
    let now : c.insert.new.self.entries ≡ replaced (λ e. nat_eq (number e.1) (number row)) (p, row) es = c.in-Ok.ensures.entries ∙ put number names es _ _ _ c.self.invariant p row there in
    subst (λ entries. IsTable number names entries (place_at c.self.inside.places) (listed_in c.forget.new.self) c.self.inside.next) (sym now)
    (table_replaced number names es (place_at c.self.inside.places) (listed_in c.self.inside.listing) (listed_in c.forget.new.self) p c.self.inside.next row c.self.invariant there
    (λ kind id at apart was. c.forget.ensures kind id at (elsewhere p at (not (refers kind id c.references-references.result)) apart) (c.note.ensures.kept kind id at was))
    (λ kind id named. c.forget.ensures kind id p (stays (nat_eq p p) (refers kind id c.references-references.result) (ap (refers kind id) c.references-references.ensures ∙ named)) (c.in_ok-note.ensures.listed kind id (ap (refers kind id) c.references-references.ensures ∙ named)))
    (subst (λ entries. IsStrictlySortedBy nat_cmp (keys_of entries)) now c.in-Ok.ensures.ordered))

pub returns-clause-old : goal.returns-clause-old
returns-clause-old g c =
    let number = g.T.Row.number in
    sym c.in-Some-old.is ∙ c.in-Ok.ensures.old
    ∙ at_place number _ _ _ _ _ c.self.invariant c.id.result c.in-Some.place (sym c.get.ensures.value ∙ sym c.copied.ensures ∙ c.in-Some.is)
    ∙ ap (λ id. find (λ row. nat_eq (number row) id) (values_of c.self.inside.rows.entries)) c.id.ensures
    ∙ ap (find (λ row. nat_eq (number row) (number c.args.row))) c.self.view_is

pub returns-clause-ok : goal.returns-clause-ok
returns-clause-ok g c =
    let number = g.T.Row.number in
    let row = c.args.row in
    let p = c.in-Some.place in
    let there : place_at c.self.inside.places (number row) ≡ Some p = ap (place_at c.self.inside.places) (sym c.id.ensures) ∙ sym c.get.ensures.value ∙ sym c.copied.ensures ∙ c.in-Some.is in
    ap values_of (c.in-Ok.ensures.entries ∙ put number _ _ _ _ _ c.self.invariant p row there)
    ∙ values_replaced number p row c.self.inside.rows.entries ∙ ap (replaced (λ other. nat_eq (number other) (number row)) row) c.self.view_is
