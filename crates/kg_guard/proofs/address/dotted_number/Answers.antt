use Rattle.std.proofs.Common.{◌≡◌, ◌∙◌, ap, arith, sym}
use Rattle.std.specs.List.{before_first}
use Rattle.std.specs.Str.Parse.{digits_value}
use Rattle.kg_row_types.specs.ConfigTexts.{is_decimal_within}
use Rattle.kg_guard.specs.Addresses.{is_dot}
use Rattle.kg_guard.proofs.AddressLemmas.{first_octet, has_room, last_part, next_part, with_head}
use Rattle.kg_guard.proofs.address.dotted_number.Goals as goal

pub overflow_mul-number : goal.overflow_mul-number
overflow_mul-number c = omega (arith, has_room c.args.text.now c.loop-behind.number c.loop-behind.rest.now c.loop-behind.invariant)

pub decimal-requires : goal.decimal-requires
decimal-requires c = ap (is_decimal_within 255) c.split_before.ensures.front ∙ first_octet c.loop-behind.rest.now c.loop-behind.invariant.octets

pub overflow_add-number : goal.overflow_add-number
overflow_add-number c =
    omega (arith, has_room c.args.text.now c.loop-behind.number c.loop-behind.rest.now c.loop-behind.invariant, c.decimal.ensures.within)

pub returns-in-empty : goal.returns-in-empty
returns-in-empty c =
    let told : c.decimal.result ≡ digits_value 10 (before_first is_dot c.loop-behind.rest.now) = c.decimal.ensures.value ∙ ap (digits_value 10) c.split_before.ensures.front in
    last_part c.args.text.now c.loop-behind.number c.decimal.result c.loop-behind.rest.now c.split_before.result.1.now
    (sym c.split_before.ensures.back) c.in-empty.len_below told c.loop-behind.invariant

pub loop-behind-preserved : goal.loop-behind-preserved
loop-behind-preserved c =
    let told : c.decimal.result ≡ digits_value 10 (before_first is_dot c.loop-behind.rest.now) = c.decimal.ensures.value ∙ ap (digits_value 10) c.split_before.ensures.front in
    let head = with_head c.split_before.result.1.now c.in-len1-up.len_at_least in
    next_part c.args.text.now c.loop-behind.number c.decimal.result c.loop-behind.rest.now head.0 _
    (sym c.split_before.ensures.back ∙ head.1) told c.decimal.ensures.within c.loop-behind.invariant
