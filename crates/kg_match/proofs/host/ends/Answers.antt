use Rattle.std.proofs.Common.{length, take, drop, map, ◌-◌, sym, ap, ◌∙◌}
use Rattle.std.specs.Char.{to_ascii_lowercase}
use Rattle.std.specs.Str.{bytes_eq, str_to_ascii_lowercase}
use Rattle.std.proofs.lemmas.List.{drop-map, length-map, take_rest}
use Rattle.kg_match.proofs.HostLemmas.{same_test}
use Rattle.kg_match.proofs.host.ends.Goals as goal

pub returns : goal.returns
returns c =
    let after = c.args.after.now in
    let host = c.args.host.now in
    let at = length host - length after in
    same_test c.is_lower_case_of.result after (str_to_ascii_lowercase (take (length host - at) (drop at host))) c.is_lower_case_of.ensures
    ∙ ap (λ rest. bytes_eq after (str_to_ascii_lowercase rest)) (take_rest host at)
    ∙ ap (bytes_eq after) (sym (drop-map to_ascii_lowercase at host))
    ∙ ap (λ len. bytes_eq after (drop (len - length after) (map to_ascii_lowercase host))) (sym (length-map host to_ascii_lowercase))
