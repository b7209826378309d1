-- Answers that are taken apart: where the whole is Ok, each step was.
use Rattle.std.proofs.Common.{◌≡◌, true, false, Option, None, Some, option_map, Result, Ok, Err, refl, sym, ap, true≢false}
use Rattle.kg_rows.specs.Decision.{and_then, needed, unless}
use Rattle.kg_rows.specs.declared.draft.Refusal.{Refusal}

abbrev answered : {A : Type 0} → A → Result A Refusal
answered x = Ok x

abbrev refusing : {A : Type 0} → Refusal → Result A Refusal
refusing e = Err e

pub ok_is : {A : Type 0} {x y : A} → answered x ≡ answered y → x ≡ y
ok_is {A} {x} same = ap (λ r. elim r [ Ok z ↦ z | Err e ↦ x ]) same

refused_is_not_ok : {A : Type 0} {e : Refusal} {y : A} → refusing e ≡ answered y → false ≡ true
refused_is_not_ok same = ap (λ r. elim r [ Ok z ↦ true | Err e ↦ false ]) same

pub unless_none : {A : Type 0} (o : Option Refusal) (r : Result A Refusal) (y : A) → unless o r ≡ Ok y → o ≡ None
unless_none None r y same = refl
unless_none (Some e) r y same = absurd (true≢false (sym (refused_is_not_ok same)))

pub unless_rest : {A : Type 0} (o : Option Refusal) (r : Result A Refusal) (y : A) → unless o r ≡ Ok y → r ≡ Ok y
unless_rest None r y same = same
unless_rest (Some e) r y same = absurd (true≢false (sym (refused_is_not_ok same)))

pub then_parts : {A B : Type 0} (r : Result A Refusal) (next : A → Result B Refusal) (y : B) → and_then r next ≡ Ok y → (x : A) × (r ≡ Ok x) × (next x ≡ Ok y)
then_parts (Ok x) next y same = (x, refl, same)
then_parts (Err e) next y same = absurd (true≢false (sym (refused_is_not_ok same)))

pub needed_parts : {A B : Type 0} (o : Option A) (next : A → Result B Refusal) (y : B) → needed o next ≡ Ok y → (x : A) × (o ≡ Some x) × (next x ≡ Ok y)
needed_parts (Some x) next y same = (x, refl, same)
needed_parts None next y same = absurd (true≢false (sym (refused_is_not_ok same)))

pub unmapped : {A B : Type 0} (f : A → B) (o : Option A) → option_map f o ≡ None → o ≡ None
unmapped f None none = refl
unmapped f (Some x) none = absurd (true≢false (ap (λ o. elim o [ None ↦ false | Some z ↦ true ]) none))
