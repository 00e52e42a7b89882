-- The end of a log: a zero within the frame that would be there.
use Rattle.std.specs.Prelude.{ℕ, ◌+◌, ◌*◌, ◌%◌, ◌^◌, ◌==◌, ◌&&◌, ◌||◌, Bool, nat_le, List, take, drop, length, slice_index}
use Rattle.std.specs.List.{list_any, list_all}
use Rattle.mt_frame.specs.declared.limits.TheConstants.{LENGTH_BYTES, MAX_TEXT_BYTES}

abbrev pub has_zero : List ℕ → Bool
has_zero bytes = list_any (λ byte. byte == 0) bytes

-- the number that five bytes of seven bits spell
abbrev pub announced : List ℕ → ℕ
announced bytes =
    slice_index bytes 0 % 128 * 2 ^ 28 + slice_index bytes 1 % 128 * 2 ^ 21
    + slice_index bytes 2 % 128 * 2 ^ 14 + slice_index bytes 3 % 128 * 2 ^ 7 + slice_index bytes 4 % 128

-- five bytes that spell a length within its bounds
abbrev pub is_length : List ℕ → Bool
is_length bytes =
    (length bytes == LENGTH_BYTES) && list_all (λ byte. nat_le 128 byte) bytes && nat_le 1 (announced bytes)
    && nat_le (announced bytes) MAX_TEXT_BYTES

-- the first five bytes, or all if there are fewer, and those of the text that they announce
abbrev pub length_part : List ℕ → List ℕ
length_part bytes = take LENGTH_BYTES bytes

abbrev pub text_part : List ℕ → List ℕ
text_part bytes = take (announced (length_part bytes)) (drop LENGTH_BYTES bytes)

-- one of the first five bytes is zero; or they announce a text, and one of its bytes is zero
unfoldable pub ends : List ℕ → Bool
ends bytes = has_zero (length_part bytes) || (is_length (length_part bytes) && has_zero (text_part bytes))
