-- The stage of a tidy after it has read a field of the border above an empty layer.
use Rattle.std.specs.Prelude.{ℕ, ◌==◌, nat_le, nat_lt, Bool, if◌then◌else◌, length, slice_index, Option, Some, None}
use Rattle.mt_types.specs.declared.numbers.NodeNo.{NodeNo}
use Rattle.mt_word.specs.Slots.{Slots}
use Rattle.mt_border.specs.Keys.{KeyView}
use Rattle.mt_border.specs.declared.entry.RightLink.{RightLink}
use Rattle.mt_remove.specs.declared.stage.EmptyLayer.{EmptyLayer}
use Rattle.mt_remove.specs.declared.stage.Layer.{Layer}
use Rattle.mt_remove.specs.declared.stage.Stage.{Stage}
use Rattle.mt_remove.specs.declared.stage.Stage.TheVariants.{AboveBounded, AboveSearched, AboveFound, LinkFound, KeepsLayer}
use Rattle.mt_remove.specs.Seen.{leads_below}

-- it gives up
abbrev pub gives_up : EmptyLayer → Stage
gives_up layer = KeepsLayer layer.above layer.root

-- ITS RIGHT LINK IS READ: the slice of the link to the layer must be before it
abbrev pub bound_stage : ℕ → EmptyLayer → Option RightLink → Stage
bound_stage slice layer None = AboveBounded layer
bound_stage slice layer (Some link) = if nat_le link.low slice then gives_up layer else AboveBounded layer

-- ITS ORDER AND THEN EACH OF ITS KEYS ARE READ; once all are, the key of the link must be among them
abbrev pub found_stage : EmptyLayer → Slots → Option ℕ → Stage
found_stage layer order None = gives_up layer
found_stage layer order (Some place) = AboveFound
    (record { above = layer.above; place = place; head = layer.head; root = layer.root })
    (slice_index order.live place)

-- the key of the slot at a place is that of the link, or the place of that was noted before
abbrev pub place_noted : Bool → ℕ → Option ℕ → Option ℕ
place_noted is_it place at = if is_it then Some place else at

abbrev pub key_noted : ℕ → ℕ → KeyView → Option ℕ → Option ℕ
key_noted slice place key at = place_noted (leads_below slice key) place at

abbrev pub searched : EmptyLayer → Slots → ℕ → Option ℕ → Stage
searched layer order place at =
    if nat_lt place (length order.live) then AboveSearched layer order place at else found_stage layer order at

-- ITS VALUE IS READ: it must be the link to the layer
abbrev pub link_stage : Layer → Option NodeNo → Stage
link_stage layer None = KeepsLayer layer.above layer.root
link_stage layer (Some head) =
    if head.0 == layer.head.0 then LinkFound layer else KeepsLayer layer.above layer.root
