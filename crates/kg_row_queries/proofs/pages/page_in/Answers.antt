use Rattle.std.proofs.Common.{arith, ◌≡◌, ℕ, ◌+◌, nat_lt, List, length, take, refl, ap, ◌∙◌}
use Rattle.std.proofs.lemmas.List.{take-take}
use Rattle.kg_row_queries.specs.Pages.{ids_above}
use Rattle.kg_row_queries.specs.Selections.{rows_in}
use Rattle.kg_row_queries.proofs.PageLemmas.{more_in_one_more}
use Rattle.kg_row_queries.proofs.pages.page_in.Goals as goal

-- what is shown is the front part of all, also of those with one more
pub returns : goal.returns
returns c =
    let all : List ℕ = ids_above c.args.kind c.args.offset (rows_in c.args.collection.now c.args.rows.now) in
    let shown : c.first-shown.result.now ≡ take c.args.size all =
    c.first-shown.ensures ∙ ap (take c.args.size) (c.as_slice.ensures ∙ c.in_ok-ids.ensures) ∙ take-take c.args.size (c.args.size + 1) all (omega arith) in
    let more : nat_lt c.args.size c.len.result ≡ nat_lt c.args.size (length all) =
    ap (nat_lt c.args.size) (c.len.ensures ∙ ap length c.in_ok-ids.ensures) ∙ more_in_one_more c.args.size all in
    rw (c.in_ok-rows_of.ensures, shown, more) refl
