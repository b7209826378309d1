-- The steps of Kong's transformers over lists (Kong Gateway manual, "Request Transformer", "Order of execution").
-- A member is `name` or `name:value`.
use Rattle.std.specs.Prelude.{ℕ, Bool, List, fold, if◌then◌else◌}
use Rattle.std.specs.Str.{str_to_ascii_lowercase}
use Rattle.kg_text.specs.declared.pair.Pair.{Pair}
use Rattle.kg_row_types.specs.ConfigTexts.{edit_name, edit_value, is_header_edit, is_header_rename}
use Rattle.kg_message.specs.HeaderLists.{added, has, removed, renamed, replaced}
use Rattle.kg_message.specs.declared.header.Header.{Header}
use Rattle.kg_context.specs.Fields.{field}
use Rattle.kg_context.specs.PairLists.{has_pair, pair_added, pairs_removed, pairs_renamed, pairs_replaced}
use Rattle.kg_transform.specs.declared.step.Step.{Step}
use Rattle.kg_transform.specs.declared.step.Step.TheVariants.{Remove, Rename, Replace, Add, Append}

-- ---- header fields

-- the field that a member tells
abbrev pub edited_field : List ℕ → Header
edited_field member = field (str_to_ascii_lowercase (edit_name member)) (edit_value member)

-- one member of a step's list
abbrev pub edit_fields : Step → List ℕ → List Header → List Header
edit_fields Remove member fields = removed (edit_name member) fields
edit_fields Rename member fields = renamed (edit_name member) (str_to_ascii_lowercase (edit_value member)) fields
edit_fields Replace member fields = replaced (edit_name member) (edit_value member) fields
edit_fields Add member fields = if has (edit_name member) fields then fields else added (edited_field member) fields
edit_fields Append member fields = added (edited_field member) fields

-- a step: each member of its list, from the first on
abbrev pub fields_after : Step → List (List ℕ) → List Header → List Header
fields_after step members fields = fold (λ changed member. edit_fields step member changed) fields members

-- the members are those that a valid config has for the step
abbrev pub header_form : Step → List ℕ → Bool
header_form Rename = is_header_rename
header_form _ = is_header_edit

-- ---- query pairs, whose names are compared byte by byte

-- one member's name and value
abbrev pub edited_pairs : Step → List ℕ → List ℕ → List Pair → List Pair
edited_pairs Remove name value pairs = pairs_removed name pairs
edited_pairs Rename name value pairs = pairs_renamed name value pairs
edited_pairs Replace name value pairs = pairs_replaced name value pairs
edited_pairs Add name value pairs = if has_pair name pairs then pairs else pair_added name value pairs
edited_pairs Append name value pairs = pair_added name value pairs

abbrev pub edit_pairs : Step → List ℕ → List Pair → List Pair
edit_pairs step member pairs = edited_pairs step (edit_name member) (edit_value member) pairs

abbrev pub pairs_after : Step → List (List ℕ) → List Pair → List Pair
pairs_after step members pairs = fold (λ changed member. edit_pairs step member changed) pairs members
