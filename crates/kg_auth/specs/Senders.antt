-- What a search for a request's sender answers, and what the answer makes of the request.
use Rattle.std.specs.Prelude.{◌≡◌, ℕ, List, Some, None, Result, Ok, Err}
use Rattle.kg_row_types.specs.declared.key.Key.{Key}
use Rattle.kg_context.specs.Context.{ended}
use Rattle.kg_context.specs.Given.{Answer, value_in}
use Rattle.kg_context.specs.Rule.{Rule, access}
use Rattle.kg_context.specs.SetConsumer.{with_consumer}
use Rattle.kg_context.specs.declared.context.Credential.{Credential}
use Rattle.kg_context.specs.declared.context.Credential.TheVariants as credential
use Rattle.kg_context.specs.declared.context.ReqCtx.{ReqCtx}
use Rattle.kg_auth.specs.Authentication.{unauthorized}
use Rattle.kg_auth.specs.declared.sender.KnownBy.{KnownBy}
use Rattle.kg_auth.specs.declared.sender.KnownBy.TheVariants.{Key as KnownByKey, Basic as KnownByBasic}
use Rattle.kg_auth.specs.declared.sender.Search.{Search}
use Rattle.kg_auth.specs.declared.sender.Search.TheVariants.{Asks, Found}
use Rattle.kg_auth.specs.declared.sender.Sender.{Sender}
use Rattle.kg_auth.specs.declared.sender.Sender.TheVariants.{Known, Anonymous, Unknown}

-- the credential behind its reference
abbrev pub credential_at : KnownBy → Credential
credential_at (KnownByKey found) = credential.Key found.now
credential_at (KnownByBasic found) = credential.Basic found.now

-- the request of a sender: a consumer's, or ended with 401
abbrev pub admitted : List ℕ → Sender → ReqCtx → ReqCtx
admitted challenge (Known consumer known_by) ctx = with_consumer consumer.now (Some (credential_at known_by)) ctx
admitted challenge (Anonymous consumer) ctx = with_consumer consumer.now None ctx
admitted challenge (Unknown reason) ctx = ended (unauthorized challenge reason.now) ctx

abbrev pub after_search : List ℕ → Search → ReqCtx → Result ReqCtx Key
after_search challenge (Asks key) ctx = Err key
after_search challenge (Found sender) ctx = Ok (admitted challenge sender ctx)

-- the search answers what the rule comes to with the values given, for each challenge and request
abbrev pub Finds : (List ℕ → ReqCtx → Rule) → List Answer → Search → Type 0
Finds rule given search =
    (challenge : List ℕ) (ctx : ReqCtx) → access (rule challenge ctx) (value_in given) ≡ after_search challenge search ctx
