use Rattle.std.proofs.Common.{refl}
use Rattle.std.specs.Prelude.{codes}
use Rattle.kg_print.proofs.UpstreamLemmas.{field_in_parts}
use Rattle.kg_print.proofs.upstream.put_real_ip.Goals as goal

pub returns : goal.returns
returns c =
    field_in_parts _ _ _ _ _ _ (codes "x-real-ip") refl
    c.in_ok-extend_from_slice.ensures.ok c.in_ok-put_address.ensures c.in_ok-extend_from_slice-2.ensures.ok
