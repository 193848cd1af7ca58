-- What has been read of a number, and the digits that are left.
use Rattle.std.proofs.Common.{◌≡◌, ◌^◌, ◌<◌, drop}
use Rattle.ask.specs.Numbers.{number_below}
use Rattle.ask.proofs.Decimals.{read_on}
use Rattle.ask.proofs.number.number.Given as goal

abbrev pub invariant-loop-byte : goal.invariant-loop-byte
invariant-loop-byte l = (l.value < 2 ^ 64) × (number_below (2 ^ 64) l.word ≡ read_on (2 ^ 64) l.value (drop l.byte-index l.word))
