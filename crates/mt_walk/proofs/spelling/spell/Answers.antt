use Rattle.std.proofs.Common.{List, ℕ, ◌++◌, refl, ap, ◌∙◌, append_assoc}
use Rattle.std.specs.Int.{w64, to_be_bytes}
use Rattle.std.specs.List.{flat_map}
use Rattle.mt_slice.specs.Place.{bytes_of_place}
use Rattle.mt_tree.specs.Seen.{entry_place}
use Rattle.mt_walk.specs.Standing.{slices_of}
use Rattle.mt_walk.proofs.Spelled.{is_spelled}
use Rattle.mt_walk.proofs.spelling.spell.Goals as goal

-- the bytes are those of the key that the entry holds
pub returns : goal.returns
returns c = (
  c.requires.key.key,
  c.in_ok-push_entry.ensures
      ∙ ap (λ (bytes : List ℕ). bytes ++ bytes_of_place (entry_place c.args.entry.now)) c.in_ok-push_slices.ensures
      ∙ append_assoc c.args.key.now.items (flat_map (to_be_bytes w64) (slices_of c.args.path.now)) (bytes_of_place (entry_place c.args.entry.now))
      ∙ ap (λ (key : List ℕ). c.args.key.now.items ++ key) (is_spelled c.args.path.now c.args.entry.now (flat_map (to_be_bytes w64) (slices_of c.args.path.now) ++ bytes_of_place (entry_place c.args.entry.now)) c.requires.key refl),
  c.requires.key.place,
  c.requires.key.bytes,
  c.requires.key.fits,
)
