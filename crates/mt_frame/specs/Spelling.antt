-- The bytes of a frame, as a function of what it says, of the generation and of its place in the file. Numbers have the
-- highest byte first; keys and columns are spelled as on the wire.
use Rattle.std.specs.Prelude.{ℕ, ◌+◌, ◌/◌, ◌%◌, ◌^◌, List, [], ◌∷◌, ◌++◌, length, codes, ◌==◌, if◌then◌else◌}
use Rattle.std.specs.List.{flat_map}
use Rattle.std.specs.Int.{w16, w64, to_be_bytes}
use Rattle.mt_wire.specs.Spelling.{key_spelling, columns_spelling, pairs_spelling}
use Rattle.mt_frame.specs.declared.limits.TheConstants.{LOG_FORMAT}
use Rattle.mt_frame.specs.declared.entry.Entry.{Entry}
use Rattle.mt_frame.specs.declared.entry.Entry.TheVariants.{Header, Commits as Group, Rows, Sealed, Closed}
use Rattle.mt_frame.specs.declared.entry.LogHeader.{LogHeader}
use Rattle.mt_frame.specs.declared.entry.Commits.{Commits}
use Rattle.mt_frame.specs.declared.entry.Part.{Part}
use Rattle.mt_frame.specs.declared.entry.Record.{Record}
use Rattle.mt_frame.specs.declared.entry.Record.TheVariants.{Row, Removed}
use Rattle.mt_frame.specs.Digest.{digest}

-- what one commit left of one key
abbrev pub record_spelling : Record → List ℕ
record_spelling (Row key columns) = 1 ∷ (key_spelling key ++ columns_spelling columns)
record_spelling (Removed key) = 2 ∷ key_spelling key

-- two bytes that count them, then the records
abbrev pub records_spelling : List Record → List ℕ
records_spelling records = to_be_bytes w16 (length records) ++ flat_map record_spelling records

-- the name of a log, and its format
abbrev pub title : List ℕ
title = codes "rowanspan log" ++ to_be_bytes w16 LOG_FORMAT

abbrev pub header_spelling : LogHeader → List ℕ
header_spelling header =
    title ++ header.columns ∷ [] ++ to_be_bytes w64 header.generation ++ to_be_bytes w64 header.base
    ++ to_be_bytes w64 header.run

abbrev pub commits_spelling : Commits → List ℕ
commits_spelling commits =
    to_be_bytes w64 commits.first ++ to_be_bytes w64 commits.durable ++ records_spelling commits.records

-- after how many commits the rows were so, and the rows with their keys, as a response has them
abbrev pub part_spelling : Part → List ℕ
part_spelling part = to_be_bytes w64 part.at ++ pairs_spelling part.rows

-- the content of a frame: a byte of the kind, and what goes with it
abbrev pub entry_spelling : Entry → List ℕ
entry_spelling (Header header) = 1 ∷ header_spelling header
entry_spelling (Group commits) = 2 ∷ commits_spelling commits
entry_spelling (Rows part) = 3 ∷ part_spelling part
entry_spelling (Sealed count) = 5 ∷ to_be_bytes w64 count
entry_spelling (Closed number) = 6 ∷ to_be_bytes w64 number

-- the body: the content, and the digest
abbrev pub sealed : ℕ → ℕ → List ℕ → List ℕ
sealed generation place content = content ++ to_be_bytes w64 (digest generation place content)

-- a byte of a text: 0 is 1 1, and 1 is 1 2
abbrev pub escaped_byte : ℕ → List ℕ
escaped_byte byte = if byte == 0 then 1 ∷ 1 ∷ [] else if byte == 1 then 1 ∷ 2 ∷ [] else byte ∷ []

-- bytes without a zero
unfoldable pub escaped : List ℕ → List ℕ
escaped bytes = flat_map escaped_byte bytes

-- the text of a frame: its body, without a zero
abbrev pub text_of : ℕ → ℕ → Entry → List ℕ
text_of generation place entry = escaped (sealed generation place (entry_spelling entry))

-- a length: five bytes of seven bits each, with the high bit set
abbrev pub length_spelling : ℕ → List ℕ
length_spelling n =
    (128 + n / 2 ^ 28 % 128) ∷ (128 + n / 2 ^ 21 % 128) ∷ (128 + n / 2 ^ 14 % 128) ∷ (128 + n / 2 ^ 7 % 128)
    ∷ (128 + n % 128) ∷ []

-- a text with its length before it
unfoldable pub framed : List ℕ → List ℕ
framed text = length_spelling (length text) ++ text

-- a frame
abbrev pub frame_of : ℕ → ℕ → Entry → List ℕ
frame_of generation place entry = framed (text_of generation place entry)

-- frames one after the other, the first of them at this place
abbrev pub frames_of : ℕ → ℕ → List Entry → List ℕ
frames_of generation place [] = []
frames_of generation place (entry ∷ entries) =
    frame_of generation place entry
    ++ frames_of generation (place + length (frame_of generation place entry)) entries
