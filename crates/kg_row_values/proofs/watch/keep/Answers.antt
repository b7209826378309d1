use Rattle.kg_row_values.proofs.Differs.{kept_key}
use Rattle.kg_row_values.proofs.watch.keep.Goals as goal

-- the key is there already, or comes last
pub returns-clause-kept : goal.returns-clause-kept
returns-clause-kept g c = kept_key g.K.PartialEq.eq g.met.K.Eq.laws g.met.K.CopyKey.eq_is_same c.args.keys.now.keys c.args.key c.insert.new.self.keys c.in-Ok.ensures.keys
