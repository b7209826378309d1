-- Which rule a text breaks, and what is stored of one that breaks none.
use Rattle.std.specs.Prelude.{ℕ, ◌==◌, Bool, false, not, List, ◌++◌, length, nat_lt, Option, Some, None, is_some}
use Rattle.std.specs.Option.{option_map_or}
use Rattle.std.specs.Str.{str_to_ascii_lowercase}
use Rattle.kg_text.specs.Hosts.{has_host_form}
use Rattle.kg_text.specs.Names.{is_token}
use Rattle.kg_row_types.specs.ConfigTexts.{is_ipv4_block, has_edit_form, has_header_edit_form, has_header_rename_form}
use Rattle.kg_row_types.specs.Ids.{id_of, printed}
use Rattle.kg_row_types.specs.TextForms.{has_name_form, has_no_controls, has_username_form, has_route_host_form, is_normal_path, has_route_path_form, has_method_form}
use Rattle.kg_field_rules.specs.Choices.{is_choice}
use Rattle.kg_field_rules.specs.Rules.{broken_if, first_by_rank}
use Rattle.kg_field_rules.specs.Urls.{url_of}
use Rattle.kg_field_rules.specs.declared.rule.Rule.{Rule}
use Rattle.kg_field_rules.specs.declared.rule.Rule.TheVariants.{Empty, OutOfRange, OneOf, Syntax}
use Rattle.kg_field_rules.specs.declared.text_kind.Choice.{Choice}
use Rattle.kg_field_rules.specs.declared.text_kind.TextKind.{TextKind}
use Rattle.kg_field_rules.specs.declared.text_kind.TextKind.TheVariants as text_kind

-- the bytes that a text of this kind has at most, where there is a bound
abbrev pub longest : TextKind → Option ℕ
longest text_kind.Id = None
longest text_kind.Path = None
longest text_kind.Url = None
longest text_kind.RoutePath = Some 256
longest text_kind.LongText = Some 65536
longest text_kind.Name = Some 255
longest text_kind.FreeText = Some 255
longest text_kind.Username = Some 255
longest text_kind.Anonymous = Some 255
longest text_kind.Host = Some 255
longest text_kind.RouteHost = Some 255
longest text_kind.Method = Some 255
longest text_kind.Token = Some 255
longest text_kind.AddressBlock = None
longest text_kind.Edit = Some 255
longest text_kind.HeaderEdit = Some 255
longest text_kind.HeaderRename = Some 255

-- how a text of this kind is spelled
abbrev pub has_form : TextKind → List ℕ → Bool
has_form text_kind.Id text = is_some (id_of text)
has_form text_kind.Path text = is_normal_path text
has_form text_kind.Url text = is_some (url_of text)
has_form text_kind.RoutePath text = has_route_path_form text
has_form text_kind.LongText text = has_no_controls text
has_form text_kind.Name text = has_name_form text
has_form text_kind.FreeText text = has_no_controls text
has_form text_kind.Username text = has_username_form text
has_form text_kind.Anonymous text = has_no_controls text
has_form text_kind.Host text = has_host_form text
has_form text_kind.RouteHost text = has_route_host_form text
has_form text_kind.Method text = has_method_form text
has_form text_kind.Token text = is_token text
has_form text_kind.AddressBlock text = is_ipv4_block text
has_form text_kind.Edit text = has_edit_form text
has_form text_kind.HeaderEdit text = has_header_edit_form text
has_form text_kind.HeaderRename text = has_header_rename_form text

abbrev pub is_longer : TextKind → List ℕ → Bool
is_longer kind text = option_map_or (λ most. nat_lt most (length text)) (longest kind) false

-- the rules that a text breaks
abbrev pub text_breaks : TextKind → List ℕ → List Rule
text_breaks kind text =
    broken_if (length text == 0) Empty
    ++ broken_if (is_longer kind text) OutOfRange
    ++ broken_if (not (has_form kind text)) Syntax

-- the one that is told
abbrev pub text_rule : TextKind → List ℕ → Option Rule
text_rule kind text = first_by_rank (text_breaks kind text)

-- the rule that a text breaks which has to be one of a few
abbrev pub choice_rule : Choice → List ℕ → Option Rule
choice_rule choice text = first_by_rank (broken_if (not (is_choice choice text)) OneOf)

-- what is stored of a text: hosts of routes are in lower case, and an id that stands for requests
-- without a consumer is printed
abbrev pub stored : TextKind → List ℕ → List ℕ
stored text_kind.RouteHost text = str_to_ascii_lowercase text
stored text_kind.Anonymous text = option_map_or printed (id_of text) text
stored _ text = text
