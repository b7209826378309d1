-- What plugins that authenticate have in common (Kong Gateway manual, "Key Authentication" and "Basic
-- Authentication"): whose request it is once a credential is known, and what becomes of a request that fails.
--
-- A request that fails is the anonymous consumer's, where the plugin names one, and else ends with 401. The
-- challenge tells how to authenticate (RFC 9110, section 11.6.1).
use Rattle.std.specs.Prelude.{ℕ, List, Option, Some, None, codes}
use Rattle.kg_row_types.specs.declared.consumer.BasicCred.{BasicCred}
use Rattle.kg_row_types.specs.declared.consumer.Consumer.{Consumer}
use Rattle.kg_row_types.specs.declared.consumer.KeyCred.{KeyCred}
use Rattle.kg_row_types.specs.declared.key.Key.TheVariants as key
use Rattle.kg_row_types.specs.declared.value.Value.{Value}
use Rattle.kg_row_types.specs.declared.value.Value.TheVariants as of_key
use Rattle.kg_message.specs.GatewayMessage.{gateway_message}
use Rattle.kg_message.specs.HeaderLists.{added}
use Rattle.kg_message.specs.declared.response.Response.{Response}
use Rattle.kg_context.specs.Context.{ended}
use Rattle.kg_context.specs.Fields.{field}
use Rattle.kg_context.specs.Rule.{Rule, Leaves, Asks}
use Rattle.kg_context.specs.SetConsumer.{with_consumer}
use Rattle.kg_context.specs.declared.context.Credential.{Credential}
use Rattle.kg_context.specs.declared.context.Credential.TheVariants.{Key, Basic}
use Rattle.kg_context.specs.declared.context.ReqCtx.{ReqCtx}

-- ---- what a value tells

abbrev pub consumer_in : Value → Option Consumer
consumer_in (of_key.Consumer found) = found
consumer_in _ = None

abbrev pub key_cred_in : Value → Option KeyCred
key_cred_in (of_key.Cred found) = found
key_cred_in _ = None

abbrev pub basic_cred_in : Value → Option BasicCred
basic_cred_in (of_key.Basic found) = found
basic_cred_in _ = None

-- ---- requests that fail

-- the reply to them
abbrev pub unauthorized : List ℕ → List ℕ → Response
unauthorized challenge reason =
    let reply = gateway_message 401 reason in
    record reply { headers = added (field (codes "www-authenticate") challenge) reply.headers }

-- the anonymous consumer's request, where there is one
abbrev pub stood_for : Option Consumer → List ℕ → ReqCtx → ReqCtx
stood_for None challenge ctx = ended (unauthorized challenge (codes "Unauthorized")) ctx
stood_for (Some consumer) challenge ctx = with_consumer consumer None ctx

-- for this reason, under a plugin that may name an anonymous consumer
abbrev pub failed : Option (List ℕ) → List ℕ → List ℕ → ReqCtx → Rule
failed None reason challenge ctx = Leaves (ended (unauthorized challenge reason) ctx)
failed (Some name) reason challenge ctx =
    Asks (key.Named name) (λ value. Leaves (stood_for (consumer_in value) challenge ctx))

-- ---- requests with a credential

-- the id of the consumer whose credential it is
abbrev pub owner_of : Credential → ℕ
owner_of (Key credential) = credential.consumer
owner_of (Basic credential) = credential.consumer

-- the request is that consumer's, where there is one
abbrev pub owned : Option (List ℕ) → Credential → Option Consumer → List ℕ → ReqCtx → Rule
owned anonymous credential None challenge ctx = failed anonymous (codes "Unauthorized") challenge ctx
owned anonymous credential (Some consumer) challenge ctx =
    Leaves (with_consumer consumer (Some credential) ctx)

abbrev pub authenticated : Option (List ℕ) → Credential → List ℕ → ReqCtx → Rule
authenticated anonymous credential challenge ctx =
    Asks (key.Consumer (owner_of credential)) (λ value. owned anonymous credential (consumer_in value) challenge ctx)
