-- The bytes of the keys that a scan takes.
use Rattle.std.proofs.Common.{ℕ, ◌≡◌, List, [], ◌∷◌, ◌++◌, append_assoc, reverse, refl, sym, ap, ◌∙◌}
use Rattle.std.proofs.lemmas.List.{reverse-append}
use Rattle.std.specs.Int.{w64, to_be_bytes}
use Rattle.std.specs.List.{flat_map}
use Rattle.mt_slice.specs.Place.{Place, under, AreBytes, bytes_of_place}
use Rattle.mt_slice.proofs.Canonical.{bytes_of_place-place_of}
use Rattle.mt_border.specs.declared.entry.Content.{Content}
use Rattle.mt_border.specs.declared.entry.Content.TheVariants.{Long}
use Rattle.mt_border.specs.declared.entry.Entry.{Entry}
use Rattle.mt_types.specs.declared.row.Row.{Row}
use Rattle.mt_tree.specs.Seen.{content_place, entry_place}
use Rattle.mt_scan.specs.Scan.{HoldsKey}
use Rattle.mt_scan.proofs.CursorLemmas.{under-last}

-- the bytes of a place in a layer come after those of the slices above it
bytes_of_under : (above : List ℕ) (place : Place) → bytes_of_place (under (reverse above) place) ≡ flat_map (to_be_bytes w64) above ++ bytes_of_place place
bytes_of_under [] place = refl
bytes_of_under (slice ∷ above) place =
    ap (λ ps. bytes_of_place (under ps place)) (reverse-append (slice ∷ []) above)
    ∙ ap bytes_of_place (under-last (reverse above) slice place)
    ∙ ap (λ bytes. to_be_bytes w64 slice ++ bytes) (bytes_of_under above place)
    ∙ sym (append_assoc (to_be_bytes w64 slice) (flat_map (to_be_bytes w64) above) (bytes_of_place place))

-- they are the key that the entry holds
pub is_held_key : (above : List ℕ) (entry : Entry) (bytes : List ℕ) → (k : HoldsKey (reverse above) entry) → bytes ≡ flat_map (to_be_bytes w64) above ++ bytes_of_place (entry_place entry) → bytes ≡ k.key
is_held_key above entry bytes k is =
    is ∙ sym (bytes_of_under above (entry_place entry)) ∙ ap bytes_of_place (sym k.place) ∙ bytes_of_place-place_of k.key k.bytes

-- the bytes of a longer key in its layer
pub long-bytes : (slice : ℕ) (content : Content) (suffix : List ℕ) (row : Row) (old middle new : List ℕ) → content ≡ Long suffix row → AreBytes suffix →
    middle ≡ old ++ to_be_bytes w64 slice → new ≡ middle ++ suffix → new ≡ old ++ bytes_of_place (content_place slice content)
long-bytes slice content suffix row old middle new is bytes first then =
    then ∙ ap (λ m. m ++ suffix) first ∙ append_assoc old (to_be_bytes w64 slice) suffix
    ∙ ap (λ s. old ++ (to_be_bytes w64 slice ++ s)) (sym (bytes_of_place-place_of suffix bytes))
    ∙ ap (λ (c : Content). old ++ bytes_of_place (content_place slice c)) (sym is)
