use Rattle.std.proofs.Common.{◌≡◌, Some, None, refl, sym, ◌∙◌, arith}
use Rattle.kg_wire.specs.Checks.{body_len}
use Rattle.kg_wire.specs.Messages.{head_of}
use Rattle.kg_wire.specs.ReadingSteps.{head_at}
use Rattle.kg_wire.proofs.ReaderLemmas.{names_are_tokens, copied_body, bad_when_failing, bad_when_long}
use Rattle.kg_wire.proofs.reader.next_head.Goals as goal

pub copy_head-requires-clause-names : goal.copy_head-requires-clause-names
copy_head-requires-clause-names g c =
    let found = rw c.in-Some.is at c.in_ok-spans.ensures.ok in
    rw (c.as_slice.ensures, c.as_slice-2.ensures.value)
    (names_are_tokens c.find_head.new.held c.find_head.new.room.items c.in-Some.spans found.0.2.0 found.0.2.1)

pub returns-in-None-body_len-clause-err : goal.returns-in-None-body_len-clause-err
returns-in-None-body_len-clause-err g c =
    let found = rw c.in-Some.is at c.in_ok-spans.ensures.ok in
    let held = c.find_head.new.held in
    let head = found.0.2.0 in
    let there = found.0.2.1 in
    let copied : c.in_ok-head.head ≡ head_at held c.find_head.new.room.items c.in-Some.spans =
    rw (← c.as_slice.ensures, ← c.as_slice-2.ensures.value) c.in_ok-head.ensures in
    let fails : body_len (head_of head) ≡ None =
    copied_body held c.find_head.new.room.items c.in-Some.spans head c.in_ok-head.head None there copied
    (sym c.in-None-body_len.is ∙ c.body_len.ensures) in
    (found.1, (refl, bad_when_failing held head _ there.reads (omega (arith, there.len, found.0.0)) fails))

pub returns-then-body_len-gt-MOST_BODY-clause-err : goal.returns-then-body_len-gt-MOST_BODY-clause-err
returns-then-body_len-gt-MOST_BODY-clause-err g c =
    let found = rw c.in-Some.is at c.in_ok-spans.ensures.ok in
    let held = c.find_head.new.held in
    let head = found.0.2.0 in
    let there = found.0.2.1 in
    let copied : c.in_ok-head.head ≡ head_at held c.find_head.new.room.items c.in-Some.spans =
    rw (← c.as_slice.ensures, ← c.as_slice-2.ensures.value) c.in_ok-head.ensures in
    let states : body_len (head_of head) ≡ Some c.in-Some-body_len.body_len =
    copied_body held c.find_head.new.room.items c.in-Some.spans head c.in_ok-head.head (Some c.in-Some-body_len.body_len) there copied
    (sym c.in-Some-body_len.is ∙ c.body_len.ensures) in
    (found.1, (refl, bad_when_long held head _ _ there.reads (omega (arith, there.len, found.0.0)) states (omega arith)))
