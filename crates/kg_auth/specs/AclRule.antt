-- Kong's plugin acl (Kong Gateway manual, "ACL"): which groups of consumers may use a service.
use Rattle.std.specs.Prelude.{ℕ, Bool, not, ◌||◌, List, [], Option, Some, None, codes, if◌then◌else◌}
use Rattle.std.specs.List.{list_any}
use Rattle.std.specs.Str.{bytes_eq}
use Rattle.kg_row_types.specs.TextForms.{is_set}
use Rattle.kg_row_types.specs.declared.config.Acl.{Acl}
use Rattle.kg_row_types.specs.declared.consumer.Consumer.{Consumer}
use Rattle.kg_row_types.specs.declared.key.Key.TheVariants as key
use Rattle.kg_row_types.specs.declared.value.Value.{Value}
use Rattle.kg_row_types.specs.declared.value.Value.TheVariants.{Acls}
use Rattle.kg_message.specs.GatewayMessage.{gateway_message}
use Rattle.kg_message.specs.HeaderLists.{added}
use Rattle.kg_context.specs.Context.{ended}
use Rattle.kg_context.specs.Fields.{field, joined}
use Rattle.kg_context.specs.Rule.{Rule, Leaves, Asks}
use Rattle.kg_context.specs.declared.context.ReqCtx.{ReqCtx}

-- the groups that a value tells, in byte order
abbrev pub groups_in : Value → List (List ℕ)
groups_in (Acls groups) = groups
groups_in _ = []

-- one of the groups is listed
abbrev pub is_one_listed : List (List ℕ) → List (List ℕ) → Bool
is_one_listed groups listed = list_any (λ group. list_any (bytes_eq group) listed) groups

-- with `allow`, one of the consumer's groups is in it; with `deny`, none is
abbrev pub may_pass : Acl → List (List ℕ) → Bool
may_pass config groups =
    if is_set config.allow then is_one_listed groups config.allow else not (is_one_listed groups config.deny)

-- the upstream is told the groups, unless there are none or the plugin hides them
abbrev pub with_groups : Acl → List (List ℕ) → ReqCtx → ReqCtx
with_groups config groups ctx =
    if config.hide_groups_header || not (is_set groups) then ctx
    else record ctx { headers = added (field (codes "x-consumer-groups") (joined (codes ", ") groups)) ctx.headers }

-- the request of a consumer with these groups
abbrev pub judged : Acl → List (List ℕ) → ReqCtx → ReqCtx
judged config groups ctx =
    if may_pass config groups then with_groups config groups ctx
    else ended (gateway_message 403 (codes "You cannot consume this service")) ctx

abbrev pub of_consumer : Acl → Option Consumer → ReqCtx → Rule
of_consumer config None ctx = Leaves (ended (gateway_message 401 (codes "Unauthorized")) ctx)
of_consumer config (Some consumer) ctx =
    Asks (key.Acls consumer.id) (λ value. Leaves (judged config (groups_in value) ctx))

abbrev pub acl : Acl → ReqCtx → Rule
acl config ctx = of_consumer config ctx.consumer ctx
