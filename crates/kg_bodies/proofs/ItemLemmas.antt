-- The items of a list and the members of an object, beside the data that they stand for.
use Rattle.std.proofs.Common.{◌≡◌, ℕ, suc, ◌+◌, ◌<◌, ◌==◌, Bool, not, List, [], ◌∷◌, ◌++◌, length, get_or, drop, Option, Some, None, option_map, option_and_then, refl, sym, ap, ◌∙◌, append_assoc, add-one, drop-cons, arith}
use Rattle.std.proofs.Math.Seq.{drop-length}
use Rattle.std.proofs.lemmas.Bool.Decides.{nat_tests}
use Rattle.std.proofs.lemmas.List.{append-nil}
use Rattle.serde_json.specs.Data.{Data, null, boolean, number, string, array, object, no_items, item}
use Rattle.serde_json.specs.Find.{as_array, as_str}
use Rattle.serde_json.specs.View.{view, items_view}
use Rattle.serde_json.specs.declared.value.Value.{Value}
use Rattle.kg_field_tables.specs.Judging.{each_text, is_set}

-- a list is set where it has items
pub is_set-array : (value : Data) (items : List Value) (empty : Bool) → Some (items_view items) ≡ as_array value → empty ≡ (length items == 0) → not empty ≡ is_set value
is_set-array null items empty is len = cc
is_set-array (boolean b) items empty is len = cc
is_set-array (number n) items empty is len = cc
is_set-array (string s) items empty is len = cc
is_set-array (object named) items empty is len = cc
is_set-array (array no_items) [] empty is len = ap not len
is_set-array (array no_items) (first ∷ rest) empty is len = cc
is_set-array (array (item d ds)) [] empty is len = cc
is_set-array (array (item d ds)) (first ∷ rest) empty is len = rw len (grind (arith, nat_tests))

-- ---- the texts of items

behind_nothing : {A : Type 0} (read : Option (List A)) → option_map (λ more. [] ++ more) read ≡ read
behind_nothing None = refl
behind_nothing (Some more) = refl

behind_one_more : {A : Type 0} (found : List A) (x : A) (ahead : Option (List A)) → option_map (λ more. (found ++ x ∷ []) ++ more) ahead ≡ option_map (λ more. found ++ more) (option_map (λ more. x ∷ more) ahead)
behind_one_more found x None = refl
behind_one_more found x (Some more) = ap Some (append_assoc found (x ∷ []) more)

-- what is found of the items in front, followed by what is read of those from a place on
abbrev pub found_and_ahead : List (List ℕ) → ℕ → List Value → Option (List (List ℕ))
found_and_ahead found i items = option_map (λ more. found ++ more) (each_text (items_view (drop i items)))

pub nothing_found : (items : List Value) → found_and_ahead [] 0 items ≡ each_text (items_view items)
nothing_found items = behind_nothing (each_text (items_view items))

pub one_more_found : (found : List (List ℕ)) (i : ℕ) (items : List Value) (d : Value) (x : List ℕ) → i < length items → as_str (view (get_or items i d)) ≡ Some x
    → found_and_ahead (found ++ x ∷ []) (i + 1) items ≡ found_and_ahead found i items
one_more_found found i items d x within is =
    rw (add-one i) (behind_one_more found x (each_text (items_view (drop (suc i) items))))
    ∙ ap (option_map (λ more. found ++ more)) (sym (ap (λ vs. each_text (items_view vs)) (drop-cons items i d within) ∙ ap (option_and_then (λ y. option_map (λ more. y ∷ more) (each_text (items_view (drop (suc i) items))))) is))

pub none_found : (found : List (List ℕ)) (i : ℕ) (items : List Value) (d : Value) → i < length items → as_str (view (get_or items i d)) ≡ None
    → found_and_ahead found i items ≡ None
none_found found i items d within is =
    ap (option_map (λ more. found ++ more)) (ap (λ vs. each_text (items_view vs)) (drop-cons items i d within) ∙ ap (option_and_then (λ y. option_map (λ more. y ∷ more) (each_text (items_view (drop (suc i) items))))) is)

pub all_found : (found : List (List ℕ)) (items : List Value) → found_and_ahead found (length items) items ≡ Some found
all_found found items = ap (λ vs. option_map (λ more. found ++ more) (each_text (items_view vs))) (drop-length items) ∙ ap Some (append-nil found)
