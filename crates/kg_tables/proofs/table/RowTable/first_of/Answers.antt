use Rattle.std.proofs.Common.{◌≡◌, Bool, Some, None, [], ◌∷◌, MatchOption, option_copied, sym, ap, ◌∙◌}
use Rattle.kg_tables.proofs.FirstLemmas.{first, first_passing}
use Rattle.kg_tables.specs.References.{refers}
use Rattle.kg_tables.proofs.table.RowTable.first_of.Goals as goal

-- the first that comes is the first of those that name it
pub returns : goal.returns
returns g c =
    let test : g.row.T.Denot → Bool = λ row. refers c.args.kind c.args.id (g.T.Row.references row) in
    (elim c.next.result as (λ r. MatchOption r ((c.of.result ≡ []) × (c.next.new.self ≡ [])) (λ row. c.of.result ≡ row.now ∷ c.next.new.self) → option_copied r ≡ first test c.of.result) [
      | Some row ↦ λ is. sym (ap (first test) is)
      | None ↦ λ is. sym (ap (first test) is.0)
    ]) c.next.ensures.steps
    ∙ ap (first test) c.of.ensures ∙ first_passing test c.args.self.now
