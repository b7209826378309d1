-- Lists from which a loop moves one member after another (machinery).
use Rattle.std.proofs.Common.{◌≡◌, ℕ, ◌+◌, false, true≢false, List, [], ◌∷◌, ◌++◌, All, Some, Result, Ok, Err, OnOk, length, sym, ap, subst, ◌∙◌, arith, length-append}
use Rattle.std.proofs.lemmas.List.Elements.{All-pop, All-push, All-tail}
use Rattle.std.specs.Result.{is_err}
use Rattle.kg_history.specs.Sights.{IsFresh, Sight}
use Rattle.kg_row_values.specs.declared.command.Command.{Command}
use Rattle.kg_store_shared.specs.Seated.{Seated, new_seat}

-- what holds of Ok, where there is no error
pub when_ok : {T E : Type 0} (result : Result T E) (X : Type 0) → false ≡ is_err result → OnOk result X → X
when_ok (Ok value) X none holds = holds
when_ok (Err error) X none holds = absurd (true≢false (sym none))

-- the seat of a pass that has seen these commits
pub fresh_seat : (pass : Sight Command) (hand : Seated) (commits : List Command) (limit feed : ℕ)
    → hand ≡ record (new_seat pass.seen limit feed) { sight = pass } → IsFresh pass commits → hand ≡ new_seat commits limit feed
fresh_seat pass hand commits limit feed made fresh =
    made ∙ ap (λ (sight : Sight Command). record (new_seat [] limit feed) { sight = sight }) fresh

-- the first of those that are left is changed, and added
pub first_moved : {A B : Type 0} (P : A → Type 0) (Q : B → Type 0) (before after : List A) (left rest : List B) (one : A) (first : B) (count : ℕ)
    → left ≡ first ∷ rest → after ≡ before ++ one ∷ [] → P one → length before + length left ≡ count → All P before → All Q left
    → (length after + length rest ≡ count) × All P after × All Q rest
first_moved P Q before after left rest one first count from into good counted all others = (
  omega (arith, counted, ap length from, ap length into, length-append before (one ∷ [])),
  subst (All P) (sym into) (All-push P before one all good),
  All-tail Q first rest (subst (All Q) from others),
)

-- the last of those that are left is changed, and added
pub last_moved : {A B : Type 0} (P : A → Type 0) (Q : B → Type 0) (before after : List A) (left rest : List B) (one : A) (last : B) (count number : ℕ)
    → left ≡ rest ++ last ∷ [] → after ≡ before ++ one ∷ [] → (Q last → P one) → length before ≡ number → length left + number ≡ count → All P before → All Q left
    → (length after ≡ number + 1) × (length rest + (number + 1) ≡ count) × All P after × All Q rest
last_moved P Q before after left rest one last count number from into good numbered counted all others =
    let parts = All-pop Q left rest (Some last) from others in (
      omega (arith, numbered, ap length into, length-append before (one ∷ [])),
      omega (arith, counted, ap length from, length-append rest (last ∷ [])),
      subst (All P) (sym into) (All-push P before one all (good parts.1)),
      parts.0,
    )
