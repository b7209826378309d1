use Rattle.std.proofs.Common.{refl}
use Rattle.kg_row_making.proofs.config.set_edits.Goals as goal

pub returns : goal.returns
returns c = rw (c.set_if_any.ensures, c.in_ok-headers.ensures, c.in_ok-querystring.ensures) refl
