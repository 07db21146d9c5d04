use Rattle.std.proofs.Common.{◌≡◌, ◌<◌, ◌^◌, take}
use Rattle.std.specs.Str.Parse.{digits_value}
use Rattle.std.specs.List.{AllPass}
use Rattle.wx_text.specs.Cursor.{is_hex_digit}
use Rattle.wx_text.proofs.cursor.hex_number.Given as goal

abbrev pub invariant-loop-digit : goal.invariant-loop-digit
invariant-loop-digit l = record {
  value : l.value ≡ digits_value 16 (take l.digit-index l.digits);
  small : l.value < 16 ^ l.digit-index;
  digits : AllPass is_hex_digit (take l.digit-index l.digits);
}
