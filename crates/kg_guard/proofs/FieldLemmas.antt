-- Fields that are added behind others.
use Rattle.std.proofs.Common.{◌≡◌, List, ◌++◌, Result, ap, subst, ◌∙◌, append_assoc}
use Rattle.std.specs.Prelude.{OnOk}

-- what is added to more fields is added to the first of them
pub further_added : {X T E : Type 0} (r : Result T E) (new middle old front more : List X) → middle ≡ old ++ front → OnOk r (new ≡ middle ++ more) → OnOk r (new ≡ old ++ (front ++ more))
further_added r new middle old front more is added = subst (λ l. OnOk r (new ≡ l)) (ap (λ l. l ++ more) is ∙ append_assoc old front more) added
