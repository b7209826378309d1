-- A body as JSON.
use Rattle.std.proofs.Common.{◌≡◌, ℕ, Bool, true, false, cond, List, Some, None, refl, sym, IsUtf8}
use Rattle.std.proofs.lemmas.Str.{IsUtf8-from_is_utf8, is_utf8-from_IsUtf8}
use Rattle.std.specs.Str.{is_utf8}
use Rattle.serde_json.specs.Data.{Data}
use Rattle.serde_json.specs.Read.{read}
use Rattle.kg_admin.specs.AdminRequests.{json_of}

pub json_read : (body : List ℕ) (d : Data) → IsUtf8 body → read body ≡ Some d → Some d ≡ json_of body
json_read body d text is = rw (is_utf8-from_IsUtf8 body text, is) refl

unread_if : (b : Bool) (body : List ℕ) → is_utf8 body ≡ b → (IsUtf8 body → read body ≡ None) → None ≡ cond b (read body) None
unread_if true body text none = sym (none (IsUtf8-from_is_utf8 body text))
unread_if false body text none = refl

pub json_unread : (body : List ℕ) → (IsUtf8 body → read body ≡ None) → None ≡ json_of body
json_unread body none = unread_if (is_utf8 body) body refl none
