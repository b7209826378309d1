-- The places by hash and the places in order are the same.
use Rattle.std.proofs.Common.{◌≡◌, ℕ, Option, cond, nat_cmp, nat_eq, sym, ap, ◌∙◌}
use Rattle.std.specs.Ordering.{eq_by_cmp}
use Rattle.kg_tables.proofs.PlaceLemmas.{as_numbers}

-- they stay the same where the same is put at the same id
pub both_put : (id : ℕ) (place : Option ℕ) (hashed hashed_now ordered ordered_now : ℕ → Option ℕ)
    → ((q : ℕ) → hashed q ≡ ordered q)
    → ((q : ℕ) → hashed_now q ≡ cond {A = Option ℕ} (nat_eq id q) place (hashed q))
    → ((q : ℕ) → ordered_now q ≡ cond {A = Option ℕ} (eq_by_cmp nat_cmp id q) place (ordered q))
    → (q : ℕ) → hashed_now q ≡ ordered_now q
both_put id place hashed hashed_now ordered ordered_now same puts_hashed puts_ordered q =
    puts_hashed q
    ∙ ap (λ (b : _). cond {A = Option ℕ} b place (hashed q)) (sym (as_numbers id q))
    ∙ ap (cond {A = Option ℕ} (eq_by_cmp nat_cmp id q) place) (same q)
    ∙ sym (puts_ordered q)
