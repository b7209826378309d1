use Rattle.kg_print.proofs.UpstreamLemmas.{four_lines}
use Rattle.kg_print.proofs.upstream.put_forwarded.Goals as goal

pub returns : goal.returns
returns c = four_lines _ _ _ _ _ _ _ _ _ c.in_ok-put_forwarded_for.ensures c.in_ok-put_scheme.ensures c.in_ok-put_field.ensures c.in_ok-put_real_ip.ensures
