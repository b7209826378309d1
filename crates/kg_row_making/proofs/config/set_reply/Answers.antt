use Rattle.std.proofs.Common.{refl}
use Rattle.kg_row_making.proofs.config.set_reply.Goals as goal

pub returns : goal.returns
returns c = rw (c.set_option.ensures, c.set_option-2.ensures, c.set_option-3.ensures, c.in_ok-text_in.ensures, c.in_ok-text_in-2.ensures, c.in_ok-text_in-3.ensures) refl
