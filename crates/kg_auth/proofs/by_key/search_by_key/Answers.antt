use Rattle.std.proofs.lemmas.Bool.{false_from_ne_true}
use Rattle.std.proofs.lemmas.Str.{IsUtf8-from_is_utf8, is_utf8-from_IsUtf8}
use Rattle.std.specs.Str.{is_utf8}
use Rattle.kg_auth.proofs.by_key.search_by_key.Goals as goal

-- the key is text
pub returns-in-Ok : goal.returns-in-Ok
returns-in-Ok c =
    let (same, utf8) = c.in-Ok.ensures.cases in
    rw (is_utf8-from_IsUtf8 c.args.key.now utf8, ← c.if-is_empty.ensures, ← same) c.search_by_text.ensures

-- it isn't
pub returns-in-Err : goal.returns-in-Err
returns-in-Err c =
    let key = c.args.key.now in
    let not_text = false_from_ne_true (is_utf8 key) (λ is. c.in-Err.ensures.cases.0 (IsUtf8-from_is_utf8 key is)) in
    rw (not_text, ← c.if-is_empty.ensures) c.fail-in-Err.ensures
