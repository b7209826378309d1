-- What the upstream is told of the consumer (Kong Gateway manual, "Key Authentication": upstream headers).
use Rattle.std.specs.Prelude.{ℕ, List, [], ◌∷◌, ◌++◌, Option, Some, None, codes, fold}
use Rattle.kg_row_types.specs.Ids.{printed}
use Rattle.kg_row_types.specs.declared.consumer.Consumer.{Consumer}
use Rattle.kg_message.specs.HeaderLists.{removed}
use Rattle.kg_message.specs.declared.header.Header.{Header}
use Rattle.kg_context.specs.Fields.{field, set_field}
use Rattle.kg_context.specs.declared.context.Credential.{Credential}
use Rattle.kg_context.specs.declared.context.Credential.TheVariants.{Key, Basic}
use Rattle.kg_context.specs.declared.context.ReqCtx.{ReqCtx}

-- the fields that tell who the consumer is
abbrev pub identity_names : List (List ℕ)
identity_names =
    codes "x-consumer-id" ∷ codes "x-consumer-custom-id" ∷ codes "x-consumer-username"
    ∷ codes "x-credential-identifier" ∷ codes "x-anonymous-consumer" ∷ []

-- the fields without those
abbrev pub without_identity : List Header → List Header
without_identity fields = fold (λ left name. removed name left) fields identity_names

-- what a credential is known by: a key by its id, a password by its username
abbrev pub identifier_of : Credential → List ℕ
identifier_of (Key cred) = printed cred.id
identifier_of (Basic cred) = cred.username

-- the field that tells the credential, or that there is none
abbrev pub credential_field : Option Credential → Header
credential_field None = field (codes "x-anonymous-consumer") (codes "true")
credential_field (Some credential) = field (codes "x-credential-identifier") (identifier_of credential)

-- the fields of a consumer that is known by a credential, or stands for those without one
abbrev pub identity_fields : Consumer → Option Credential → List Header
identity_fields consumer credential =
    field (codes "x-consumer-id") (printed consumer.id)
    ∷ set_field (codes "x-consumer-custom-id") consumer.custom_id
    ++ set_field (codes "x-consumer-username") consumer.username
    ++ credential_field credential ∷ []

-- the request is this consumer's
abbrev pub with_consumer : Consumer → Option Credential → ReqCtx → ReqCtx
with_consumer consumer credential ctx = record ctx {
  headers = without_identity ctx.headers ++ identity_fields consumer credential;
  consumer = Some consumer;
  credential = credential;
}
