use Rattle.kg_print.proofs.UpstreamLemmas.{forwarded_in_parts}
use Rattle.kg_print.proofs.upstream.put_forwarded_for.Goals as goal

pub returns : goal.returns
returns c =
    forwarded_in_parts _ _ _ _ _ _ c.args.headers.now
    c.in_ok-extend_from_slice.ensures.ok c.in_ok-put_forwarded_values.ensures c.in_ok-put_address.ensures c.in_ok-extend_from_slice-2.ensures.ok
