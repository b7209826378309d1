-- what is answered is a path, and so ASCII
use Rattle.std.proofs.Common.{Ok, Err, length, sym, ap, ◌∙◌, arith}
use Rattle.kg_text.specs.Paths.{is_path, normal_escapes, without_dots}
use Rattle.kg_text.proofs.PathLemmas.{normal_form_of, no_normal_form, normal_form_is_path, normal_form_within, path_ascii, parts_of_normal}
use Rattle.kg_text.proofs.path.normalise.Goals as goal

pub text_of-requires : goal.text_of-requires
text_of-requires c =
    rw c.in_ok-from_slice.ensures.items
    (path_ascii c.args.path.now (parts_of_normal c.args.path.now (c.is_normal.ensures.0 c.if-is_normal.true)).0)

pub returns-then-is_normal : goal.returns-then-is_normal
returns-then-is_normal c =
    let same = c.text_of.ensures ∙ c.in_ok-from_slice.ensures.items in
    let normal = c.is_normal.ensures.0 c.if-is_normal.true in
    record {
      form = normal ∙ ap Ok (sym same);
      path = ap is_path same ∙ (parts_of_normal c.args.path.now normal).0;
      within = omega (arith, ap length same);
    }

pub returns-then-not-is_path-clause-form : goal.returns-then-not-is_path-clause-form
returns-then-not-is_path-clause-form c =
    no_normal_form c.args.path.now (sym c.is_path.ensures ∙ c.if-not-is_path.true) ∙ ap Err (sym c.path_len.ensures)

pub text_of-requires-2 : goal.text_of-requires-2
text_of-requires-2 c =
    let whole = sym c.is_path.ensures ∙ c.if-not-is_path.false in
    let form = without_dots (normal_escapes c.args.path.now) in
    rw c.in_ok-rewritten.ensures (path_ascii form (normal_form_is_path c.args.path.now whole))

pub returns-clause-path : goal.returns-clause-path
returns-clause-path c =
    let whole = sym c.is_path.ensures ∙ c.if-not-is_path.false in
    ap is_path (c.text_of-2.ensures ∙ c.in_ok-rewritten.ensures)
    ∙ normal_form_is_path c.args.path.now whole

pub returns-clause-form : goal.returns-clause-form
returns-clause-form c =
    let whole = sym c.is_path.ensures ∙ c.if-not-is_path.false in
    normal_form_of c.args.path.now whole ∙ ap Ok (sym (c.text_of-2.ensures ∙ c.in_ok-rewritten.ensures))

pub returns-clause-within : goal.returns-clause-within
returns-clause-within c =
    let whole = sym c.is_path.ensures ∙ c.if-not-is_path.false in
    omega (arith, ap length (c.text_of-2.ensures ∙ c.in_ok-rewritten.ensures), normal_form_within c.args.path.now whole)
