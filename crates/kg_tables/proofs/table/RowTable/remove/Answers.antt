use Rattle.std.proofs.Common.{◌≡◌, ℕ, Bool, Some, not, nat_cmp, nat_eq, find, filter, is_some, sym, ap, subst, ◌∙◌, true≢false}
use Rattle.std.specs.List.Sorted.{IsStrictlySortedBy}
use Rattle.std.specs.Map.{keys_of, values_of}
use Rattle.kg_row_types.specs.declared.entity.Kind.{Kind}
use Rattle.kg_tables.proofs.PlaceLemmas.{at_place, elsewhere, is_there, no_place, row_there, table_left, taken}
use Rattle.kg_tables.proofs.TableLemmas.{values-filter}
use Rattle.kg_tables.proofs.KeyIndexLemmas.{all_left}
use Rattle.kg_tables.specs.PlaceIndexes.{IsTable, listed_in, place_at}
use Rattle.kg_tables.specs.References.{refers}
use Rattle.kg_tables.proofs.table.RowTable.remove.Goals as goal

-- no row has the id
pub returns-in_err-place-clause-old : goal.returns-in_err-place-clause-old
returns-in_err-place-clause-old g c =
    c.from_residual.ensures
    ∙ sym (no_place g.T.Row.number _ _ _ _ _ c.self.invariant c.args.id (sym c.remove.ensures.value ∙ c.in_err-place.was))
    ∙ ap (find (λ row. nat_eq (g.T.Row.number row) c.args.id)) c.self.view_is

pub returns-in_err-place-clause-left : goal.returns-in_err-place-clause-left
returns-in_err-place-clause-left g c =
    all_left g.T.Row.number c.args.id (values_of c.self.inside.rows.entries)
    (sym (is_there g.T.Row.number _ _ _ _ _ c.self.invariant c.args.id) ∙ ap is_some (sym c.remove.ensures.value ∙ c.in_err-place.was))
    ∙ ap (filter (λ row. not (nat_eq (g.T.Row.number row) c.args.id))) c.self.view_is

-- a place has a row
pub unreachable-requires : goal.unreachable-requires
unreachable-requires g c =
    true≢false (sym (row_there g.T.Row.number _ _ _ _ _ c.self.invariant c.args.id c.in_ok-place.place (sym c.remove.ensures.value ∙ c.in_ok-place.was)) ∙ ap is_some (sym c.remove-2.ensures.value ∙ c.in_default.is))

-- the row's place goes with it
pub invariant_of-self-2 : goal.invariant_of-self-2
invariant_of-self-2 g c =
    let number = g.T.Row.number in
    let names : Kind → ℕ → g.row.T.Denot → Bool = λ kind id row. refers kind id (g.T.Row.references row) in
    let es = c.self.inside.rows.entries in
    let p = c.in_ok-place.place in
    let there : place_at c.self.inside.places c.args.id ≡ Some p = sym c.remove.ensures.value ∙ c.in_ok-place.was in
    let left : c.remove-2.new.self.entries ≡ filter (λ e. not (nat_eq (number e.1) c.args.id)) es = c.remove-2.ensures.entries ∙ taken number names es _ _ _ c.self.invariant c.args.id p there in
    subst (λ entries. IsTable number names entries (place_at c.remove.new.self) (listed_in c.forget.new.self) c.self.inside.next) (sym left)
    (table_left number names es (place_at c.self.inside.places) (place_at c.remove.new.self) (listed_in c.self.inside.listing) (listed_in c.forget.new.self) c.args.id p c.self.inside.next c.self.invariant there
    c.remove.ensures.updates
    (λ kind id at apart was. c.forget.ensures kind id at (elsewhere p at (not (refers kind id c.no_references.result)) apart) was)
    (subst (λ entries. IsStrictlySortedBy nat_cmp (keys_of entries)) left c.remove-2.ensures.ordered))

pub returns-clause-old : goal.returns-clause-old
returns-clause-old g c =
    sym c.in-Some.is ∙ c.remove-2.ensures.value
    ∙ at_place g.T.Row.number _ _ _ _ _ c.self.invariant c.args.id c.in_ok-place.place (sym c.remove.ensures.value ∙ c.in_ok-place.was)
    ∙ ap (find (λ row. nat_eq (g.T.Row.number row) c.args.id)) c.self.view_is

pub returns-clause-left : goal.returns-clause-left
returns-clause-left g c =
    let test : g.row.T.Denot → Bool = λ row. not (nat_eq (g.T.Row.number row) c.args.id) in
    ap values_of (c.remove-2.ensures.entries ∙ taken g.T.Row.number _ _ _ _ _ c.self.invariant c.args.id c.in_ok-place.place (sym c.remove.ensures.value ∙ c.in_ok-place.was))
    ∙ values-filter test c.self.inside.rows.entries ∙ ap (filter test) c.self.view_is
