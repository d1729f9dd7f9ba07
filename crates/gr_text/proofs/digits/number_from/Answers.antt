use Rattle.std.proofs.Common.{◌≡◌, ◌+◌, ◌*◌, ◌≤◌, ◌^◌, Some, take, get_or, ap, sym, ◌∙◌, arith}
use Rattle.std.proofs.lemmas.List.{take_all}
use Rattle.std.proofs.lemmas.List.Sums.{prefix_len-le-length}
use Rattle.std.proofs.lemmas.Int.Digits.{digits_value_more}
use Rattle.std.proofs.lemmas.Str.Parse.{digits_value-take-le}
use Rattle.std.specs.Char.{digit_value, is_ascii_digit}
use Rattle.std.specs.Str.Parse.{digits_value}
use Rattle.gr_text.specs.Digits.{digits_len, number_from}
use Rattle.gr_text.proofs.Decimal.{IsAsciiDigit-front, word_of-great, word_of-small}
use Rattle.gr_text.proofs.digits.number_from.Goals as goal

pub split_at-requires : goal.split_at-requires
split_at-requires c = omega (arith, c.requires, prefix_len-le-length is_ascii_digit c.args.bytes.now)

pub with_digit-requires : goal.with_digit-requires
with_digit-requires c =
    let front : c.split_at.result.0.now ≡ take (digits_len c.args.bytes.now) c.args.bytes.now = c.split_at.ensures.front ∙ ap (λ n. take n c.args.bytes.now) c.requires in
    IsAsciiDigit-front c.args.bytes.now c.split_at.result.0.now c.loop-digit.digit-index front c.loop-digit-test.true

pub returns-in_err-number : goal.returns-in_err-number
returns-in_err-number c =
    let digits = c.split_at.result.0.now in
    let i = c.loop-digit.digit-index in
    let more = digits_value_more 10 digits i c.loop-digit-test.true in
    let whole : digits_value 10 digits ≡ number_from c.args.bytes.now = ap (digits_value 10) (c.split_at.ensures.front ∙ ap (λ n. take n c.args.bytes.now) c.requires) in
    let great : 2 ^ 64 ≤ number_from c.args.bytes.now = omega (arith, more, whole, c.in_err-number.ensures, c.loop-digit.invariant.0, digits_value-take-le 10 digits (i + 1) (omega arith)) in
    c.from_residual.ensures ∙ sym (word_of-great (number_from c.args.bytes.now) great)

pub loop-digit-preserved : goal.loop-digit-preserved
loop-digit-preserved c =
    let digits = c.split_at.result.0.now in
    let i = c.loop-digit.digit-index in (
      c.in_ok-number.ensures.1 ∙ ap (λ n. n * 10 + digit_value (get_or digits i 0)) c.loop-digit.invariant.0 ∙ sym (digits_value_more 10 digits i c.loop-digit-test.true),
      omega (arith, c.in_ok-number.ensures.0, c.in_ok-number.ensures.1),
    )

pub returns : goal.returns
returns c =
    let digits = c.split_at.result.0.now in
    let whole : digits_value 10 digits ≡ number_from c.args.bytes.now = ap (digits_value 10) (c.split_at.ensures.front ∙ ap (λ n. take n c.args.bytes.now) c.requires) in
    let number : c.loop-digit.number ≡ number_from c.args.bytes.now = c.loop-digit.invariant.0 ∙ ap (digits_value 10) (take_all c.loop-digit.digit-index digits c.loop-digit-test.false) ∙ whole in
    ap Some number ∙ sym (word_of-small (number_from c.args.bytes.now) (omega (arith, number, c.loop-digit.invariant.1)))
