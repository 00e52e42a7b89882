-- What is at the front of bytes, or what is wrong there. Contracts of private calls speak of it, and that of `decode`.
use Rattle.std.specs.Prelude.{◌≡◌, ◌+◌, ◌-◌, ℕ, Bool, false, not, ◌&&◌, List, ◌∷◌, length, take, drop, codes, bytes_eq, nat_eq, nat_lt, Option, Some, None, Result, Ok, Err, if◌then◌else◌}
use Rattle.std.specs.List.{starts_with}
use Rattle.std.specs.Int.{w64, to_be_bytes}
use Rattle.mt_frame.specs.declared.limits.TheConstants.{LENGTH_BYTES, DIGEST_BYTES}
use Rattle.mt_frame.specs.declared.fault.FrameFault.{FrameFault}
use Rattle.mt_frame.specs.declared.fault.FrameFault.TheVariants as faults
use Rattle.mt_frame.specs.declared.fault.DecodeError.{DecodeError}
use Rattle.mt_frame.specs.declared.fault.DecodeError.TheVariants as errors
use Rattle.mt_frame.specs.declared.entry.Entry.{Entry}
use Rattle.mt_frame.specs.Digest.{digest}
use Rattle.mt_frame.specs.Ends.{ends, is_length, announced, length_part}
use Rattle.mt_frame.specs.Spelling.{title}
use Rattle.mt_frame.specs.Reading.{unescaped, content_at}

-- What a call returned, seen by view, is what reading gives, unless memory ran out.
abbrev pub Fails : {Y : Type 0} → DecodeError → Result Y FrameFault → Type 0
Fails errors.NoMemory read = Unit {0}
Fails (errors.Faulty fault) read = read ≡ Err fault

abbrev pub Reads : {X Y : Type 0} → (X → Y) → Result X DecodeError → Result Y FrameFault → Type 0
Reads view (Ok x) read = read ≡ Ok (view x)
Reads view (Err e) read = Fails e read

-- how many bytes the text of the frame at the front has, or that the log ends there
unfoldable pub front : List ℕ → Result (Option ℕ) FrameFault
front bytes =
    if ends bytes then Ok None
    else if nat_lt (length bytes) LENGTH_BYTES then Err faults.Cut
    else if not (is_length (length_part bytes)) then Err faults.Length
    else if nat_lt (length (drop LENGTH_BYTES bytes)) (announced (length_part bytes)) then Err faults.Cut
    else Ok (Some (announced (length_part bytes)))

-- a log begins here, and its format is not that of this code
abbrev pub has_other_format : List ℕ → Bool
has_other_format content =
    starts_with nat_eq content (1 ∷ codes "rowanspan log") && not (starts_with nat_eq content (1 ∷ title))

-- the entry of a content, or what is wrong with it
abbrev pub entry_of : List ℕ → Option Entry → Result Entry FrameFault
entry_of content (Some entry) = Ok entry
entry_of content None = if has_other_format content then Err faults.UnknownFormat else Err faults.Entry

-- the entry of a body
unfoldable pub opened : ℕ → ℕ → List ℕ → Result Entry FrameFault
opened generation place body =
    let content = take (length body - DIGEST_BYTES) body in
    if bytes_eq (drop (length body - DIGEST_BYTES) body) (to_be_bytes w64 (digest generation place content))
    then entry_of content (content_at content) else Err faults.Digest

-- the entry of a text
abbrev pub opened_if : ℕ → ℕ → Option (List ℕ) → Result Entry FrameFault
opened_if generation place None = Err faults.Escape
opened_if generation place (Some body) = opened generation place body

unfoldable pub text_says : ℕ → ℕ → List ℕ → Result Entry FrameFault
text_says generation place text = opened_if generation place (unescaped false text)

-- the entry at the front, and how many bytes its frame has
abbrev pub with_length : ℕ → Result Entry FrameFault → Result (Option (Entry × ℕ)) FrameFault
with_length n (Ok entry) = Ok (Some (entry, LENGTH_BYTES + n))
with_length n (Err fault) = Err fault

abbrev pub after_front : ℕ → ℕ → List ℕ → Result (Option ℕ) FrameFault → Result (Option (Entry × ℕ)) FrameFault
after_front generation place bytes (Err fault) = Err fault
after_front generation place bytes (Ok None) = Ok None
after_front generation place bytes (Ok (Some n)) =
    with_length n (text_says generation place (take n (drop LENGTH_BYTES bytes)))

unfoldable pub frame_at : ℕ → ℕ → List ℕ → Result (Option (Entry × ℕ)) FrameFault
frame_at generation place bytes = after_front generation place bytes (front bytes)
