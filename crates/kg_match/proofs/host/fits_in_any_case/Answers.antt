use Rattle.std.proofs.Common.{cond, take, drop, ◌+◌, sym, ap, ◌∙◌}
use Rattle.std.specs.Str.{bytes_eq, str_to_ascii_lowercase}
use Rattle.std.proofs.lemmas.List.{take_rest}
use Rattle.kg_match.specs.Wildcards.{is_between, wildcard_fits}
use Rattle.kg_match.proofs.HostLemmas.{same_test, at_asterisk, no_asterisk}
use Rattle.kg_match.proofs.host.fits_in_any_case.Goals as goal

-- around the asterisk
pub returns-in-Some : goal.returns-in-Some
returns-in-Some c =
    let wanted = c.args.wanted.now in
    let host = str_to_ascii_lowercase c.args.host.now in
    let at = c.in-Some.at in
    let star = at_asterisk wanted at (sym c.asterisk_at.ensures ∙ c.in-Some.is) in
    c.is_between.ensures
    ∙ ap (λ rest. is_between (take at wanted) rest host) (take_rest wanted (at + 1))
    ∙ ap (λ place. is_between (take place wanted) (drop (place + 1) wanted) host) (sym star.1)
    ∙ ap (λ wild. cond wild (wildcard_fits wanted host) (bytes_eq wanted host)) (sym star.0)

-- without one
pub returns-in-None : goal.returns-in-None
returns-in-None c =
    let wanted = c.args.wanted.now in
    let host = str_to_ascii_lowercase c.args.host.now in
    same_test c.is_lower_case_of.result wanted host c.is_lower_case_of.ensures
    ∙ ap (λ wild. cond wild (wildcard_fits wanted host) (bytes_eq wanted host)) (sym (no_asterisk wanted (sym c.asterisk_at.ensures ∙ c.in-None.is)))
