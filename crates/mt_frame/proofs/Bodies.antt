-- A body is opened exactly if it was sealed at its place.
use Rattle.std.proofs.Common.{◌≡◌, ℕ, zero, suc, ◌-◌, ◌<◌, Bool, true, false, cond, List, [], ◌∷◌, ◌++◌, length, take, drop, Option, Some, None, Result, Ok, Err, refl, sym, ap, subst, ◌∙◌, arith, inl, inr, length-append}
use Rattle.std.specs.Prelude.{bytes_eq}
use Rattle.std.specs.Int.{w64, to_be_bytes}
use Rattle.std.proofs.lemmas.Bool.Decides.{eqb_tells}
use Rattle.std.proofs.lemmas.List.{take_at, drop_at, take-append-drop}
use Rattle.std.proofs.lemmas.List.Concat.{flat_map-cons}
use Rattle.std.proofs.lemmas.Slice.Eq.{bytes_eq-Decides}
use Rattle.mt_wire.proofs.Exact.{IsBytes, IsBytes-take, IsBytes-drop, IsBytes-rest}
use Rattle.mt_frame.specs.declared.limits.TheConstants.{DIGEST_BYTES}
use Rattle.mt_frame.specs.declared.fault.FrameFault.{FrameFault}
use Rattle.mt_frame.specs.declared.fault.FrameFault.TheVariants as faults
use Rattle.mt_frame.specs.declared.entry.Entry.{Entry}
use Rattle.mt_frame.specs.Digest.{digest}
use Rattle.mt_frame.specs.Spelling.{entry_spelling, sealed, escaped_byte, escaped, text_of}
use Rattle.mt_frame.specs.Fits.{EntryFits}
use Rattle.mt_frame.specs.Reading.{unescaped, content_at}
use Rattle.mt_frame.specs.Faults.{has_other_format, entry_of, opened, opened_if, text_says}
use Rattle.mt_frame.proofs.Escapes.{unescaped_again, unescaped_takes}
use Rattle.mt_frame.proofs.Contents.{content_takes, content_again}

entry_some : (content : List ℕ) (read : Option Entry) (entry : Entry) → entry_of content read ≡ Ok entry → read ≡ Some entry
entry_some content (Some found) entry e = cc
entry_some content None entry e = absurd (no_entry (has_other_format content) entry e)
  where
    no_entry : (other : Bool) (entry : Entry) → cond {A = Result Entry FrameFault} other (Err faults.UnknownFormat) (Err faults.Entry) ≡ Ok entry → ⊥
    no_entry true entry e = cc
    no_entry false entry e = cc

guard_opened : (b : Bool) (read : Result Entry FrameFault) (entry : Entry) → cond b read (Err faults.Digest) ≡ Ok entry → (b ≡ true) × (read ≡ Ok entry)
guard_opened true read entry e = (refl, e)
guard_opened false read entry e = absurd (cc)

opened_takes : (generation place : ℕ) (body : List ℕ) (entry : Entry) → IsBytes body → opened generation place body ≡ Ok entry → (body ≡ sealed generation place (entry_spelling entry)) × EntryFits entry
unfolding opened
opened_takes generation place body entry fits e =
    let at = length body - DIGEST_BYTES in
    let content = take at body in
    let told = to_be_bytes w64 (digest generation place content) in
    let g = guard_opened (bytes_eq (drop at body) told) (entry_of content (content_at content)) entry e in
    let digest_is : drop at body ≡ told = (bytes_eq-Decides (drop at body) told).0 g.0 in
    let read = entry_some content (content_at content) entry g.1 in
    let t = content_takes content entry (IsBytes-take at body fits) read in
    let whole : body ≡ sealed generation place content = sym (take-append-drop at body) ∙ ap (λ (d : List ℕ). content ++ d) digest_is in
    (whole ∙ ap (sealed generation place) t.0, t.1)

opened_again : (generation place : ℕ) (entry : Entry) → EntryFits entry → opened generation place (sealed generation place (entry_spelling entry)) ≡ Ok entry
unfolding opened
opened_again generation place entry fits =
    let content = entry_spelling entry in
    let told = to_be_bytes w64 (digest generation place content) in
    let n : length (content ++ told) - DIGEST_BYTES ≡ length content = omega (arith, length-append content told) in
    let front : take (length (content ++ told) - DIGEST_BYTES) (content ++ told) ≡ content = ap (λ (k : ℕ). take k (content ++ told)) n ∙ take_at content told (length content) refl in
    let back : drop (length (content ++ told) - DIGEST_BYTES) (content ++ told) ≡ told = ap (λ (k : ℕ). drop k (content ++ told)) n ∙ drop_at content told (length content) refl in
    let same : bytes_eq told told ≡ true = (bytes_eq-Decides told told).1 refl in
    rw (back, front) (rw (same, content_again entry fits) refl)

-- ---- texts

led_by : (b : ℕ) (bytes : List ℕ) → b < 256 → IsBytes bytes → IsBytes (b ∷ bytes)
led_by b bytes small fits zero = small
led_by b bytes small fits (suc i) = fits i

IsBytes-of-escaped : (bytes : List ℕ) → IsBytes (escaped bytes) → IsBytes bytes
unfolding escaped
IsBytes-of-escaped [] fits = λ i. omega arith
IsBytes-of-escaped (b ∷ bytes) fits =
    let all : IsBytes (escaped_byte b ++ escaped bytes) = subst IsBytes (flat_map-cons escaped_byte b bytes) fits in
    elim (eqb_tells b 0) [
      | inl zero_byte ↦
          let spelled : escaped_byte b ≡ 1 ∷ 1 ∷ [] = rw zero_byte.0 refl in
          led_by b bytes (omega (arith, zero_byte.1)) (IsBytes-of-escaped bytes (IsBytes-drop 2 (1 ∷ 1 ∷ escaped bytes) (subst (λ (t : List ℕ). IsBytes (t ++ escaped bytes)) spelled all)))
      | inr some_byte ↦ elim (eqb_tells b 1) [
        | inl one ↦
            let spelled : escaped_byte b ≡ 1 ∷ 2 ∷ [] = rw (some_byte.0, one.0) refl in
            led_by b bytes (omega (arith, one.1)) (IsBytes-of-escaped bytes (IsBytes-drop 2 (1 ∷ 2 ∷ escaped bytes) (subst (λ (t : List ℕ). IsBytes (t ++ escaped bytes)) spelled all)))
        | inr other ↦
            let spelled : escaped_byte b ≡ b ∷ [] = rw (some_byte.0, other.0) refl in
            let plain : IsBytes (b ∷ escaped bytes) = subst (λ (t : List ℕ). IsBytes (t ++ escaped bytes)) spelled all in
            led_by b bytes (plain 0) (IsBytes-of-escaped bytes (IsBytes-rest b (escaped bytes) plain))
      ]
    ]

text_takes_by : (generation place : ℕ) (text : List ℕ) (entry : Entry) → IsBytes text → (read : Option (List ℕ)) → unescaped false text ≡ read → opened_if generation place read ≡ Ok entry
    → (text ≡ text_of generation place entry) × EntryFits entry
text_takes_by generation place text entry fits None k e = absurd (cc)
text_takes_by generation place text entry fits (Some body) k e =
    let spelled = unescaped_takes false text body k in
    let body_fits = IsBytes-of-escaped body (subst IsBytes spelled fits) in
    let t = opened_takes generation place body entry body_fits e in
    (spelled ∙ ap escaped t.0, t.1)

pub text_takes : (generation place : ℕ) (text : List ℕ) (entry : Entry) → IsBytes text → text_says generation place text ≡ Ok entry → (text ≡ text_of generation place entry) × EntryFits entry
unfolding text_says
text_takes generation place text entry fits e = text_takes_by generation place text entry fits (unescaped false text) refl e

pub text_again : (generation place : ℕ) (entry : Entry) → EntryFits entry → text_says generation place (text_of generation place entry) ≡ Ok entry
unfolding text_says
text_again generation place entry fits =
    ap (opened_if generation place) (unescaped_again (sealed generation place (entry_spelling entry))) ∙ opened_again generation place entry fits
