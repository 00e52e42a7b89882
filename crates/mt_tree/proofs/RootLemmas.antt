-- What a posting finds at the head of its layer.
use Rattle.std.proofs.Common.{inr, ap, arith}
use Rattle.std.specs.Option.{option_map}
use Rattle.mt_arena.specs.Arena.{ArenaView, IsArena}
use Rattle.mt_chart.specs.TreeLaws.{EndsBy}
use Rattle.mt_chart.proofs.MarkedHeads.{marked_layers}
use Rattle.mt_chart.proofs.Roots.{root_of_split as plain_root_of_split}
use Rattle.mt_tree.specs.Seen.{arena_seen, node_seen, head_seen}
use Rattle.mt_tree.specs.HeadSteps.{HeadNamesTheSplit, HeadOfAPostingIsAlive}
use Rattle.mt_tree.proofs.SeenLemmas.{seen-head}
use Rattle.mt_tree.proofs.InteriorPlaces.{is_on_as}

-- an arena names no more nodes than it has numbers
ends_by : (a : ArenaView) → IsArena a → EndsBy (arena_seen a) 4294967295
ends_by a sound number past = ap (option_map node_seen) (sound.below.each number past)

pub root_of_split : HeadNamesTheSplit
root_of_split a now twins chart number split_number prefix head split sound index on_head is_head is_split stands no_higher =
    let w = is_on_as a split_number split is_split now twins chart index prefix stands in
    plain_root_of_split now 4294967295 twins (arena_seen a) chart index (ends_by a sound) number prefix (head_seen head) on_head (seen-head a number head is_head)
    split_number w.below stands.low stands.posted (rw w.is_level at stands.place) (omega (arith, no_higher, w.node_level))

pub head_alive : HeadOfAPostingIsAlive
head_alive a now twins chart number posted_number prefix head index on_head is_head stands to_post =
    marked_layers now twins (arena_seen a) chart index number prefix (head_seen head) on_head (seen-head a number head is_head) posted_number stands.low stands.posted stands.place (inr to_post)
