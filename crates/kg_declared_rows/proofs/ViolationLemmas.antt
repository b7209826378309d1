-- Members of an object and lists of objects, beside the data that they stand for.
use Rattle.std.proofs.Common.{◌≡◌, ℕ, Bool, true, false, ◌&&◌, cond, List, [], ◌∷◌, ◌++◌, Option, Some, None, is_some, option_map, option_and_then, String, Global, string_bytes, refl, sym, ap, ◌∙◌, append_assoc, true≢false}
use Rattle.std.proofs.lemmas.Map.Text.{is_eq-slice_cmp}
use Rattle.std.specs.BTreeMap.{is_at}
use Rattle.std.specs.Cmp.Lexicographic.{slice_cmp}
use Rattle.std.specs.List.{list_all}
use Rattle.std.specs.Map.{remove_entry}
use Rattle.std.specs.Ordering.{nat_cmp}
use Rattle.serde_json.specs.Data.{Members, member}
use Rattle.serde_json.specs.Find.{as_object}
use Rattle.serde_json.specs.View.{view, items_view, members_view}
use Rattle.serde_json.specs.declared.value.Value.{Value}
use Rattle.kg_declared_rows.specs.Violations.{each_object}
use Rattle.kg_declared_rows.specs.Rows.{without}
use Rattle.kg_declared_rows.specs.SeenRows.{AddsObject}

abbrev pub Entry : Type 0
Entry = String Global × Value

removed_at : (b : Bool) (e : Entry) (es rest : List Entry) (without_rest : Members) → members_view rest ≡ without_rest
    → members_view (cond b es (e ∷ rest)) ≡ cond b (members_view es) (member (string_bytes e.0) (view e.1) without_rest)
removed_at true e es rest left same = refl
removed_at false e es rest left same = ap (member (string_bytes e.0) (view e.1)) same

-- what is left when a key is taken out
pub members_view-remove_entry : (name : List ℕ) (es : List Entry)
    → members_view (remove_entry (is_at (λ k. slice_cmp nat_cmp name (string_bytes k))) es) ≡ without name (members_view es)
members_view-remove_entry name [] = refl
members_view-remove_entry name (e ∷ es) =
    removed_at _ e es _ _ (members_view-remove_entry name es)
    ∙ ap (λ b. cond b (members_view es) (member (string_bytes e.0) (view e.1) (without name (members_view es)))) (is_eq-slice_cmp name (string_bytes e.0))

object_first : (first : Option Members) (rest : Option (List Members)) (b : Bool) → b ≡ is_some rest
    → (is_some first && b) ≡ is_some (option_and_then (λ members. option_map (λ more. members ∷ more) rest) first)
object_first None rest b same = refl
object_first (Some first) None b same = same
object_first (Some first) (Some more) b same = same

-- each item is an object
pub all_objects : (values : List Value) → list_all (λ value. is_some (as_object (view value))) values ≡ is_some (each_object (items_view values))
all_objects [] = refl
all_objects (value ∷ values) = object_first (as_object (view value)) (each_object (items_view values)) _ (all_objects values)

-- one object more
pub one_more_object : (found : Option Members) (before after : List Members) (rest : Option (List Members)) → AddsObject found before after true
    → option_map (λ more. after ++ more) rest
    ≡ option_map (λ more. before ++ more) (option_and_then (λ members. option_map (λ more. members ∷ more) rest) found)
one_more_object (Some object) before after (Some more) is = ap (λ rows. Some (rows ++ more)) is.1 ∙ ap Some (append_assoc before (object ∷ []) more)
one_more_object (Some object) before after None is = refl
one_more_object None before after rest is = absurd (true≢false is)

-- no list of objects
pub no_object : (found : Option Members) (before after : List Members) (rest : Option (List Members)) → AddsObject found before after false
    → option_and_then (λ members. option_map (λ more. members ∷ more) rest) found ≡ None
no_object (Some object) before after rest is = absurd (true≢false (sym is.0))
no_object None before after rest is = refl
