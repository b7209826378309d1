use Rattle.std.proofs.Common.{Err}
use Rattle.kg_wire.proofs.NextLemmas.{reads_request, reads_end, refuses_bad, refuses_cut}
use Rattle.kg_wire.proofs.reader.Reader.next_request.Goals as goal

pub returns-in-Err-clause-reads : goal.returns-in-Err-clause-reads
returns-in-Err-clause-reads g c = λ m rest none is ahead.
    reads_request (Err c.in-Err.error) c.args.self.now c.read-result.new.self (g.S.Source.left c.args.source.now)
    (g.S.Source.left c.read-result.new.source) m rest is ahead tt c.in-Err.ensures.err

pub returns-in_default-result-clause-reads : goal.returns-in_default-result-clause-reads
returns-in_default-result-clause-reads g c = λ m rest none is ahead.
    reads_request c.read-result.result c.args.self.now c.read-result.new.self (g.S.Source.left c.args.source.now)
    (g.S.Source.left c.read-result.new.source) m rest is ahead c.read-result.ensures.ok c.read-result.ensures.err

pub returns-in-Err-clause-ended : goal.returns-in-Err-clause-ended
returns-in-Err-clause-ended g c = λ none ahead.
    reads_end (Err c.in-Err.error) c.args.self.now c.read-result.new.self (g.S.Source.left c.args.source.now)
    (g.S.Source.left c.read-result.new.source) ahead tt c.in-Err.ensures.err

pub returns-in_default-result-clause-ended : goal.returns-in_default-result-clause-ended
returns-in_default-result-clause-ended g c = λ none ahead.
    reads_end c.read-result.result c.args.self.now c.read-result.new.self (g.S.Source.left c.args.source.now)
    (g.S.Source.left c.read-result.new.source) ahead c.read-result.ensures.ok c.read-result.ensures.err

pub returns-in-Err-clause-bad : goal.returns-in-Err-clause-bad
returns-in-Err-clause-bad g c = λ rest none ahead is.
    refuses_bad (Err c.in-Err.error) c.args.self.now c.read-result.new.self (g.S.Source.left c.args.source.now)
    (g.S.Source.left c.read-result.new.source) rest ahead is tt c.in-Err.ensures.err

pub returns-in_default-result-clause-bad : goal.returns-in_default-result-clause-bad
returns-in_default-result-clause-bad g c = λ rest none ahead is.
    refuses_bad c.read-result.result c.args.self.now c.read-result.new.self (g.S.Source.left c.args.source.now)
    (g.S.Source.left c.read-result.new.source) rest ahead is c.read-result.ensures.ok c.read-result.ensures.err

pub returns-in-Err-clause-cut : goal.returns-in-Err-clause-cut
returns-in-Err-clause-cut g c = λ rest none ahead is.
    refuses_cut (Err c.in-Err.error) c.args.self.now c.read-result.new.self (g.S.Source.left c.args.source.now)
    (g.S.Source.left c.read-result.new.source) rest ahead is tt c.in-Err.ensures.err

pub returns-in_default-result-clause-cut : goal.returns-in_default-result-clause-cut
returns-in_default-result-clause-cut g c = λ rest none ahead is.
    refuses_cut c.read-result.result c.args.self.now c.read-result.new.self (g.S.Source.left c.args.source.now)
    (g.S.Source.left c.read-result.new.source) rest ahead is c.read-result.ensures.ok c.read-result.ensures.err

pub returns-in-Err-clause-whole : goal.returns-in-Err-clause-whole
returns-in-Err-clause-whole g c = λ m rest none is whole. c.read-result.ensures.whole m rest is whole

pub returns-in-Err-clause-refused : goal.returns-in-Err-clause-refused
returns-in-Err-clause-refused g c = λ none bad. c.read-result.ensures.refused bad

pub returns-in_default-result-clause-whole : goal.returns-in_default-result-clause-whole
returns-in_default-result-clause-whole g c = λ m rest none is whole. c.read-result.ensures.whole m rest is whole

pub returns-in_default-result-clause-refused : goal.returns-in_default-result-clause-refused
returns-in_default-result-clause-refused g c = λ none bad. c.read-result.ensures.refused bad
