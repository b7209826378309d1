-- the normal form is a path, and so ASCII
use Rattle.std.proofs.Common.{Ok, sym, ap, ◌∙◌}
use Rattle.kg_text.specs.Paths.{normal_escapes, without_dots}
use Rattle.kg_text.proofs.PathLemmas.{normal_form_of, normal_form_is_path, path_ascii}
use Rattle.kg_text.proofs.path.changed_form.Goals as goal

pub text_of-requires : goal.text_of-requires
text_of-requires c =
    rw c.in_ok-rewritten.ensures
    (path_ascii (without_dots (normal_escapes c.args.path.now)) (normal_form_is_path c.args.path.now c.requires))

pub returns : goal.returns
returns c = normal_form_of c.args.path.now c.requires ∙ ap Ok (sym (c.text_of.ensures ∙ c.in_ok-rewritten.ensures))
