-- Texts without a colon.
use Rattle.std.proofs.Common.{◌≡◌, ◌≢◌, ℕ, ◌<◌, false, List, length, get_or}
use Rattle.std.specs.List.{list_any}
use Rattle.std.proofs.lemmas.Bool.{ne_eqb}
use Rattle.std.proofs.lemmas.List.Elements.{All-from_get_or}
use Rattle.std.proofs.lemmas.List.Folds.{list_any_none}
use Rattle.kg_basic.specs.Logins.{is_colon}

pub has_no_colon : (text : List ℕ) → ((i : ℕ) → i < length text → get_or text i 0 ≢ 0x3A) → list_any is_colon text ≡ false
has_no_colon text none =
    list_any_none is_colon text
    (All-from_get_or (λ b. is_colon b ≡ false) text 0 (λ i within. ne_eqb (get_or text i 0) 0x3A (none i within)))
