use Rattle.std.proofs.Common.{◌≡◌, take, true}
use Rattle.std.specs.List.{list_all}
use Rattle.ws_words.specs.Digits.{is_digit, value_of}
use Rattle.ws_io.proofs.number.decimal.Given as goal

-- all bytes so far are digits, and this is their value
abbrev pub invariant-loop-byte : goal.invariant-loop-byte
invariant-loop-byte l = record {
  digits : list_all is_digit (take l.byte-index l.text) ≡ true;
  value : l.value ≡ value_of (take l.byte-index l.text);
}
