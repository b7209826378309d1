use Rattle.std.proofs.Common.{◌<◌, Some, None, refl, arith}
use Rattle.std.proofs.lemmas.Str.{is_utf8-from_IsUtf8}
use Rattle.std.proofs.lemmas.Str.Pattern.{split_once_first, split_parts}
use Rattle.kg_text.proofs.ListChangeLemmas.{any_at_place}
use Rattle.kg_basic.specs.Logins.{is_colon}
use Rattle.kg_basic.proofs.LoginLemmas.{has_no_colon}
use Rattle.kg_basic.proofs.login.login_in_text.Goals as goal

-- the text is split at its first colon
pub returns-in_ok-from_str-in-Some-2 : goal.returns-in_ok-from_str-in-Some-2
returns-in_ok-from_str-in-Some-2 c =
    let text = c.args.text.now in
    let is_ascii : 0x3A < 128 = omega arith in
    let parts = Some (c.in-Some.username, c.in-Some.password) in
    let (within, before, after) = split_once_first 0x3A text parts c.in-Some.ensures.cases is_ascii in
    rw (is_utf8-from_IsUtf8 text c.requires, any_at_place is_colon text within, ← before, ← after, c.in_ok-from_str-in-Some.ensures, c.in_ok-from_str-in-Some-2.ensures) refl

-- it has none
pub returns-in-None : goal.returns-in-None
returns-in-None c =
    let text = c.args.text.now in
    let none = split_parts 0x3A text None c.in-None.ensures.cases (omega arith) in
    rw (is_utf8-from_IsUtf8 text c.requires, has_no_colon text none) refl
