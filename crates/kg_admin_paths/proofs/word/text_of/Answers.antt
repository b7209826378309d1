use Rattle.std.proofs.Common.{refl}
use Rattle.std.proofs.lemmas.Bool.{false_from_ne_true}
use Rattle.std.proofs.lemmas.Str.{IsUtf8-from_is_utf8, is_utf8-from_IsUtf8}
use Rattle.std.specs.Str.{is_utf8}
use Rattle.kg_admin_paths.proofs.word.text_of.Goals as goal

-- the bytes are text
pub returns-in_ok-from_str-in-Ok : goal.returns-in_ok-from_str-in-Ok
returns-in_ok-from_str-in-Ok c =
    let (same, utf8) = c.in-Ok.ensures.cases in
    rw (is_utf8-from_IsUtf8 c.args.bytes.now utf8, c.in_ok-from_str-in-Ok.ensures, same) refl

-- they aren't
pub returns-in-Err : goal.returns-in-Err
returns-in-Err c =
    let bytes = c.args.bytes.now in
    rw (false_from_ne_true (is_utf8 bytes) (λ is. c.in-Err.ensures.cases.0 (IsUtf8-from_is_utf8 bytes is))) refl
