-- What a page shows, and in which order.
use Rattle.std.proofs.Common.{arith, ◌≡◌, ℕ, ◌+◌, true, false, nat_lt, min, List, [], length, take, nat_cmp, ap, refl, ◌∙◌}
use Rattle.std.proofs.lemmas.Bool.{le-ltb, lt-ltb, ltb-false, ltb-true}
use Rattle.std.proofs.lemmas.Cmp.{nat_cmp_total}
use Rattle.std.proofs.lemmas.List.{length-take}
use Rattle.std.proofs.lemmas.Map.Lookups.{exact_unsigned}
use Rattle.std.specs.BTreeSet.{insert_key}
use Rattle.std.specs.List.{fold}
use Rattle.kg_tables.specs.InOrder.{in_order}
use Rattle.kg_tables.proofs.SetLemmas.{fold_is_order}

-- ids that are put in one after another stand in order
pub ids_in_order : (ids : List ℕ) → fold (insert_key nat_cmp) [] ids ≡ in_order nat_cmp ids
ids_in_order ids = fold_is_order nat_cmp_total exact_unsigned ids

-- one more than are shown tells whether more follow
pub more_in_one_more : (n : ℕ) (ids : List ℕ) → nat_lt n (length (take (n + 1) ids)) ≡ nat_lt n (length ids)
more_in_one_more n ids = ap (nat_lt n) (length-take (n + 1) ids) ∙ beyond n (length ids)
  where
    beyond : (n m : ℕ) → nat_lt n (min (n + 1) m) ≡ nat_lt n m
    beyond n m =
        (elim (nat_lt n m) as (λ b. nat_lt n m ≡ b → nat_lt n (min (n + 1) m) ≡ b) [
          | true ↦ λ is. lt-ltb n (min (n + 1) m) (omega (arith, ltb-true n m is))
          | false ↦ λ is. le-ltb n (min (n + 1) m) (omega (arith, ltb-false n m is))
        ]) refl
