use Rattle.std.specs.List.{list_all, after_first}
use Rattle.kg_text.specs.Paths.{is_path}
use Rattle.kg_wire.specs.Targets.{is_question, is_query_byte, target_path}
use Rattle.kg_wire.proofs.ChecksLemmas.{both}
use Rattle.kg_wire.proofs.head.path_of.Goals as goal

pub into_normal_form-requires : goal.into_normal_form-requires
into_normal_form-requires c =
    let target = c.args.target in
    rw c.cut_path.ensures (both (is_path (target_path target)) (list_all is_query_byte (after_first is_question target)) c.requires).0
