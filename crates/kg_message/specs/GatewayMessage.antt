-- The gateway's own replies: an object of JSON with a message (this project's own, after the Kong
-- manual's error responses).
use Rattle.std.specs.Prelude.{ℕ, List, [], ◌∷◌, codes}
use Rattle.std.specs.Str.Lossy.{utf8_lossy}
use Rattle.serde_json.specs.Data.{Data, object, member, string, no_members}
use Rattle.serde_json.specs.Written.{compact_text}
use Rattle.kg_message.specs.declared.response.Response.{Response}
use Rattle.kg_message.specs.HeaderLists.{content_type}

-- the object whose one member is the text
abbrev pub message_object : List ℕ → Data
message_object text = object (member (codes "message") (string text) no_members)

-- the reply with this status and text, which is read as UTF-8: each sequence that isn't becomes U+FFFD
abbrev pub gateway_message : ℕ → List ℕ → Response
gateway_message status text = record {
  status = status;
  headers = content_type (codes "application/json; charset=utf-8") ∷ [];
  body = compact_text (message_object (utf8_lossy text));
}
