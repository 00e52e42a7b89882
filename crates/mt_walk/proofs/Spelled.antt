-- The key that is spelled of a path and an entry.
use Rattle.std.proofs.Common.{ℕ, ◌≡◌, List, [], ◌∷◌, ◌++◌, reverse, refl, sym, ap, ◌∙◌}
use Rattle.std.proofs.lemmas.List.{reverse-append, map-append}
use Rattle.std.specs.Int.{w64, to_be_bytes}
use Rattle.std.specs.List.{flat_map}
use Rattle.mt_slice.specs.Place.{under, bytes_of_place}
use Rattle.mt_border.specs.declared.entry.Entry.{Entry}
use Rattle.mt_tree.specs.Seen.{entry_place}
use Rattle.mt_scan.specs.Scan.{HoldsKey}
use Rattle.mt_scan.proofs.PairLemmas.{is_held_key}
use Rattle.mt_walk.specs.Standing.{slices_of, prefix_of}
use Rattle.mt_walk.specs.declared.course.Stop.{Stop}

slices_reverse : (path : List Stop) → slices_of (reverse path) ≡ reverse (slices_of path)
slices_reverse [] = refl
slices_reverse (stop ∷ path) =
    ap slices_of (reverse-append (stop ∷ []) path)
    ∙ map-append (λ (s : Stop). s.slice) (reverse path) (stop ∷ [])
    ∙ ap (λ (slices : List ℕ). slices ++ stop.slice ∷ []) (slices_reverse path)
    ∙ sym (reverse-append (stop.slice ∷ []) (slices_of path))

pub is_spelled : (path : List Stop) (entry : Entry) (bytes : List ℕ) (k : HoldsKey (prefix_of path) entry) → bytes ≡ flat_map (to_be_bytes w64) (slices_of path) ++ bytes_of_place (entry_place entry) → bytes ≡ k.key
is_spelled path entry bytes k is =
    is_held_key (slices_of path) entry bytes (record { key = k.key; bytes = k.bytes; fits = k.fits; place = k.place ∙ ap (λ (ps : List ℕ). under ps (entry_place entry)) (slices_reverse path) }) is
