use Rattle.std.proofs.Common.{◌≡◌, Ok, sym, subst, ap, ◌∙◌}
use Rattle.kg_text.specs.Paths.{normal_form}
use Rattle.kg_text.proofs.PathLemmas.{path_ascii}
use Rattle.kg_text.proofs.path.into_normal_form.Goals as goal

pub text_of-requires : goal.text_of-requires
text_of-requires c = rw c.into_vec.ensures (path_ascii c.args.path c.requires)

pub returns-then-is_same_form : goal.returns-then-is_same_form
returns-then-is_same_form c =
    let normal = subst (λ path. normal_form path ≡ Ok path) c.as_slice.ensures (c.is_same_form.ensures.0 c.if-is_same_form.true) in
    normal ∙ ap Ok (sym (c.text_of.ensures ∙ c.into_vec.ensures))
