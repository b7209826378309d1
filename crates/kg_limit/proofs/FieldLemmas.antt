-- Fields that are added one after the other.
use Rattle.std.proofs.Common.{◌≡◌, List, [], ◌∷◌, ◌++◌, refl, append_assoc}

module _ {X : Type 0} (old : List X) where
  pub two_added : (a b : X) → (old ++ a ∷ []) ++ b ∷ [] ≡ old ++ (a ∷ b ∷ [])
  two_added a b = simp append_assoc refl

  pub all_added : (a b c : X) (rest : List X) → (((old ++ a ∷ []) ++ b ∷ []) ++ c ∷ []) ++ rest ≡ old ++ (a ∷ b ∷ c ∷ rest)
  all_added a b c rest = simp append_assoc refl
