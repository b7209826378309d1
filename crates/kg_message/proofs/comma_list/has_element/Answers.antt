use Rattle.std.proofs.Common.{◌==◌, rules, tests, sym, ◌∙◌}
use Rattle.std.specs.List.{slice_split}
use Rattle.std.specs.Str.{str_eq_ignore_ascii_case}
use Rattle.std.proofs.lemmas.Iterator.Search.{any_from_yields_List}
use Rattle.std.proofs.lemmas.Iterator.Splits.{YieldsList-from_slice_split}
use Rattle.httparse.specs.Grammar.{trim_ows}
use Rattle.kg_message.proofs.CommaListLemmas.{list_any-map}
use Rattle.kg_message.proofs.comma_list.has_element.Goals as goal

-- the elements are the pieces between commas, each trimmed
pub returns : goal.returns
returns c =
    any_from_yields_List (λ piece. str_eq_ignore_ascii_case (trim_ows piece) c.args.element.now) _ _ _ c.any.ensures.ran
    (YieldsList-from_slice_split _ (λ b. b == 0x2C) c.args.value.now c.split.ensures.rest c.split.ensures.done c.split.ensures.closure (λ x b q k. search (rules, tests)))
    (λ x b q k. search (rules, tests))
    ∙ sym (list_any-map (λ one. str_eq_ignore_ascii_case one c.args.element.now) trim_ows (slice_split (λ b. b == 0x2C) c.args.value.now))
