use Rattle.serde_json.specs.View.{members_view}
use Rattle.kg_declare.proofs.ProgressLemmas.{broken_refused, unread_refused}
use Rattle.kg_declare.proofs.line.prepared.Goals as goal

pub returns-in-Err : goal.returns-in-Err
returns-in-Err c = record {
  ok = tt;
  err = λ draws now limit. unread_refused c.args.line.now now limit draws c.in-Err.e c.in-Err.ensures.err;
}

pub returns-in-Err-judge-clause-err : goal.returns-in-Err-judge-clause-err
returns-in-Err-judge-clause-err c = λ draws now limit.
    broken_refused c.args.line.now (members_view c.in-Ok.declaration.entries) now limit draws c.in-Err-judge.e c.in-Ok.ensures.ok c.in-Err-judge.ensures.violation
