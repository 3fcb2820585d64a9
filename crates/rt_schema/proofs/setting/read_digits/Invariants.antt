use Rattle.std.proofs.Common.{◌≡◌, ◌<◌, ◌^◌, true, drop}
use Rattle.std.specs.Str.{all_ascii_digits}
use Rattle.rt_schema.specs.Setting.{read_digits}
use Rattle.rt_schema.proofs.setting.read_digits.Given as goal

abbrev pub invariant-loop-digit : goal.invariant-loop-digit
invariant-loop-digit l = record {
  digits : all_ascii_digits (drop l.digit-index l.digits) ≡ true;
  read : read_digits l.number (drop l.digit-index l.digits) ≡ read_digits 0 l.digits;
  small : l.number < 10 ^ l.digit-index;
}
