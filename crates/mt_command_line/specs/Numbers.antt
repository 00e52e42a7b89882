-- Options that take a number, and the number that is found.
use Rattle.std.specs.Prelude.{◌≡◌, ℕ, ◌<◌, ◌^◌, List, Option, Some, None}
use Rattle.std.specs.Str.Parse.{IsNumeral, digits_value, without_leading_plus}
use Rattle.clap.specs.Words.{Rule, new_rule}
use Rattle.clap.specs.declared.builder.value_parser.ValueParser.TheVariants.{Unsigned}

-- --NAME N, a number within these bounds
abbrev pub number_rule : List ℕ → ℕ → ℕ → Rule
number_rule name least most = record (new_rule name) {
  long = Some name;
  value_names = 1;
  parser = Some (Unsigned least most);
}

-- decimal digits of a number of this many bits
abbrev pub SaysNumber : ℕ → List ℕ → Type 0
SaysNumber bits text =
    IsNumeral 10 (without_leading_plus text) × (digits_value 10 (without_leading_plus text) < 2 ^ bits)

-- the number, of this many bits, that an option was given, or the number that is used otherwise
abbrev pub IsNumber : ℕ → Option (List ℕ) → ℕ → ℕ → Type 0
IsNumber bits None otherwise number = number ≡ otherwise
IsNumber bits (Some text) otherwise number = SaysNumber bits text → number ≡ digits_value 10 (without_leading_plus text)
