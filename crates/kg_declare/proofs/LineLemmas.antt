-- A line as JSON.
use Rattle.std.proofs.Common.{◌≡◌, ℕ, Bool, true, false, cond, List, Some, None, refl, sym, IsUtf8}
use Rattle.std.proofs.lemmas.Str.{IsUtf8-from_is_utf8, is_utf8-from_IsUtf8}
use Rattle.std.specs.Str.{is_utf8}
use Rattle.serde_json.specs.Data.{Data}
use Rattle.serde_json.specs.Read.{read}
use Rattle.kg_declare.specs.Outcome.{json_of}

pub json_read : (line : List ℕ) (d : Data) → IsUtf8 line → read line ≡ Some d → Some d ≡ json_of line
json_read line d text is = rw (is_utf8-from_IsUtf8 line text, is) refl

unread_if : (b : Bool) (line : List ℕ) → is_utf8 line ≡ b → (IsUtf8 line → read line ≡ None) → None ≡ cond b (read line) None
unread_if true line text none = sym (none (IsUtf8-from_is_utf8 line text))
unread_if false line text none = refl

pub json_unread : (line : List ℕ) → (IsUtf8 line → read line ≡ None) → None ≡ json_of line
json_unread line none = unread_if (is_utf8 line) line refl none
