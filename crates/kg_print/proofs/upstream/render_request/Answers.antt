use Rattle.kg_print.proofs.UpstreamLemmas.{written_in_parts}
use Rattle.kg_print.proofs.upstream.render_request.Goals as goal

pub returns : goal.returns
returns c =
    written_in_parts c.args.method.now c.args.target.now c.args.host.now c.args.request.now c.args.headers.now _ _ _ _ _ _ _ _
    c.in_ok-out.ensures c.in_ok-put_request_line.ensures c.in_ok-put_field.ensures c.in_ok-put_fields.ensures
    c.in_ok-put_client_fields.ensures c.in_ok-put_stated_length.ensures c.in_ok-put_close.ensures c.in_ok-put_body.ensures
