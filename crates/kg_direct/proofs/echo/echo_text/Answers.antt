use Rattle.std.proofs.Common.{◌++◌, not, if◌then◌else◌, [], ap, ◌∙◌}
use Rattle.kg_print.specs.FieldLines.{field_lines, line_end, stated_length}
use Rattle.kg_print.specs.ReplyText.{keeping_fields}
use Rattle.kg_direct.specs.EchoText.{head_start}
use Rattle.kg_direct.proofs.EchoLemmas.{echo_text_is}
use Rattle.kg_direct.proofs.echo.echo_text.Goals as goal

-- the parts, one after another
pub returns : goal.returns
returns c =
    let message = c.args.message.now in
    c.in_ok-put_body.ensures
    ∙ ap (λ out. out ++ line_end ++ (if not c.args.bodiless then message else []))
    (c.in_ok-put_keeping.ensures
    ∙ ap (λ out. out ++ field_lines (keeping_fields c.args.keeping))
    (c.in_ok-put_stated_length.ensures
    ∙ ap (λ out. out ++ field_lines (stated_length (not c.args.bodiless) message))
    (c.in_ok-put_head_start.ensures ∙ ap (λ out. out ++ head_start) (c.from_vec-out.ensures ∙ c.in_ok-with_capacity.ensures.items))))
    ∙ echo_text_is message c.args.bodiless c.args.keeping
