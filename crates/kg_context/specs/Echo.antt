-- The echo, which stands for every upstream: it answers with the message that it was sent (this
-- project's own).
use Rattle.std.specs.Prelude.{ℕ, List, [], ◌∷◌, codes}
use Rattle.kg_message.specs.declared.response.Response.{Response}
use Rattle.kg_message.specs.HeaderLists.{content_type}

-- the answer to this message
abbrev pub echo_of : List ℕ → Response
echo_of message = record {
  status = 200;
  headers = content_type (codes "text/plain") ∷ [];
  body = message;
}
