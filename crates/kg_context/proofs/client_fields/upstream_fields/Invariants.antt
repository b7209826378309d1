use Rattle.std.proofs.Common.{◌≡◌, filter, take}
use Rattle.kg_context.specs.UpstreamFields.{goes_upstream}
use Rattle.kg_context.proofs.client_fields.upstream_fields.Given as goal

abbrev pub invariant-loop-field : goal.invariant-loop-field
invariant-loop-field l = l.fields ≡ filter (goes_upstream l.headers) (take l.field-index l.field-items)
