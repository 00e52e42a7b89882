-- The frame of a header is short.
use Rattle.std.proofs.Common.{◌≡◌, ℕ, ◌*◌, ◌≤◌, List, [], ◌∷◌, length, refl, ap, inl, inr, arith, length-append}
use Rattle.std.proofs.lemmas.Bool.Decides.{eqb_tells}
use Rattle.std.proofs.lemmas.List.Concat.{flat_map-cons}
use Rattle.mt_frame.specs.declared.entry.Entry.TheVariants.{Header}
use Rattle.mt_frame.specs.declared.entry.LogHeader.{LogHeader}
use Rattle.mt_frame.specs.Spelling.{escaped_byte, escaped, sealed, entry_spelling, text_of, frame_of, framed, length_spelling}

-- a byte of a text is two bytes at most
two_at_most : (b : ℕ) → length (escaped_byte b) ≤ 2
two_at_most b = elim (eqb_tells b 0) [
  | inl none ↦ rw none.0 (omega arith)
  | inr some ↦ elim (eqb_tells b 1) [
    | inl one ↦ rw (some.0, one.0) (omega arith)
    | inr other ↦ rw (some.0, other.0) (omega arith)
  ]
]

escaped_length : (bytes : List ℕ) → length (escaped bytes) ≤ 2 * length bytes
unfolding escaped
escaped_length [] = omega arith
escaped_length (b ∷ bytes) =
    omega (arith, escaped_length bytes, two_at_most b, ap length (flat_map-cons escaped_byte b bytes), length-append (escaped_byte b) (escaped bytes))

header_length : (place : ℕ) (header : LogHeader) → length (sealed 0 place (entry_spelling (Header header))) ≡ 49
header_length place header = refl

pub header_text : (header : LogHeader) → length (text_of 0 0 (Header header)) ≤ 98
header_text header = omega (arith, escaped_length (sealed 0 0 (entry_spelling (Header header))), header_length 0 header)

pub header_short : (header : LogHeader) → length (frame_of 0 0 (Header header)) ≤ 103
unfolding framed
header_short header =
    let text = text_of 0 0 (Header header) in
    omega (arith, header_text header, length-append (length_spelling (length text)) text)
