-- A number digit by digit: one more digit, another byte, too large, the end.
use Rattle.std.proofs.Common.{◌≡◌, ◌+◌, ◌-◌, ◌*◌, ◌^◌, get_or, drop, sym, ap, ◌∙◌, arith, rules}
use Rattle.ask.proofs.Decimals.{read_on, no_number, number_reads, read_digit, read_other, read_past, read_all}
use Rattle.ask.proofs.number.number.Goals as goal

pub returns-then-is_empty : goal.returns-then-is_empty
returns-then-is_empty c = sym (no_number (2 ^ 64) c.args.word.now (search rules))

pub loop-byte-init : goal.loop-byte-init
loop-byte-init c = (omega arith, number_reads (2 ^ 64) c.args.word.now (search rules))

pub returns-then-not-is_ascii_digit : goal.returns-then-not-is_ascii_digit
returns-then-not-is_ascii_digit c =
    sym (c.loop-byte.invariant.1 ∙ read_other (2 ^ 64) c.loop-byte.value c.args.word.now c.loop-byte.byte-index c.loop-byte-test.true (sym c.if-not-is_ascii_digit.ensures.value))

pub returns-in_err-checked_mul : goal.returns-in_err-checked_mul
returns-in_err-checked_mul c =
    rw c.from_residual.ensures (sym (c.loop-byte.invariant.1 ∙ read_past (2 ^ 64) c.loop-byte.value c.args.word.now c.loop-byte.byte-index c.loop-byte-test.true (sym c.if-not-is_ascii_digit.ensures.value) (omega (arith, c.in_err-checked_mul.ensures))))

pub returns-in_err-value : goal.returns-in_err-value
returns-in_err-value c =
    rw c.from_residual-in_err-value.ensures (sym (c.loop-byte.invariant.1 ∙ read_past (2 ^ 64) c.loop-byte.value c.args.word.now c.loop-byte.byte-index c.loop-byte-test.true (sym c.if-not-is_ascii_digit.ensures.value) (omega (arith, c.in_err-value.ensures, c.in_ok-checked_mul.ensures))))

pub loop-byte-preserved : goal.loop-byte-preserved
loop-byte-preserved c =
    let digit = get_or c.args.word.now c.loop-byte.byte-index 0 in
    let same : c.loop-byte.value * 10 + (digit - 48) ≡ c.in_ok-value.value = omega (arith, c.in_ok-value.ensures, c.in_ok-checked_mul.ensures) in
    (omega (arith, c.in_ok-value.ensures), c.loop-byte.invariant.1 ∙ read_digit (2 ^ 64) c.loop-byte.value c.args.word.now c.loop-byte.byte-index c.loop-byte-test.true (sym c.if-not-is_ascii_digit.ensures.value) ∙ ap (λ n. read_on (2 ^ 64) n (drop (c.loop-byte.byte-index + 1) c.args.word.now)) same)

pub returns : goal.returns
returns c = sym (c.loop-byte.invariant.1 ∙ read_all (2 ^ 64) c.loop-byte.value c.args.word.now c.loop-byte.byte-index c.loop-byte-test.false c.loop-byte.invariant.0)
