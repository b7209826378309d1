use Rattle.std.proofs.Common.{◌≡◌, fold, take}
use Rattle.serde_json.specs.Data.{no_members}
use Rattle.serde_json.specs.View.{members_view}
use Rattle.kg_declare.specs.RefusalBody.{with_rule}
use Rattle.kg_declare.proofs.refusal.rules_of.Given as goal

-- the fields so far are those of the violations so far
abbrev pub invariant-loop-violation : goal.invariant-loop-violation
invariant-loop-violation l = members_view l.fields.entries ≡ fold with_rule no_members (take l.violation-index l.broken)
