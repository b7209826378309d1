use Rattle.std.proofs.Common.{length, take, sym, ap, ◌∙◌}
use Rattle.std.specs.Char.{to_ascii_lowercase}
use Rattle.std.specs.Str.{bytes_eq, str_to_ascii_lowercase}
use Rattle.std.proofs.lemmas.List.{take-map}
use Rattle.kg_match.proofs.HostLemmas.{same_test}
use Rattle.kg_match.proofs.host.begins.Goals as goal

pub returns : goal.returns
returns c =
    let before = c.args.before.now in
    let host = c.args.host.now in
    same_test c.is_lower_case_of.result before (str_to_ascii_lowercase (take (length before) host)) c.is_lower_case_of.ensures
    ∙ ap (bytes_eq before) (sym (take-map to_ascii_lowercase (length before) host))
