use Rattle.std.proofs.Common.{ap, sym, option_map, true≢false}
use Rattle.std.specs.Int.{from_be_bytes, w128}
use Rattle.kg_row_types.specs.Ids.{id_of}
use Rattle.kg_row_types.proofs.IdLemmas.{unread}
use Rattle.kg_row_types.proofs.id.Id.parse.Goals as goal

-- an error of the reader says that the text is read as nothing
pub returns-in-Err : goal.returns-in-Err
unfolding id_of
returns-in-Err c =
    ap (option_map (from_be_bytes w128))
    (sym (unread _ (λ read. true≢false (sym (c.in-Err.ensures.ok.1 read)))))
