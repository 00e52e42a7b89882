-- A search that runs alone for the row of a key: what its loop keeps.
use Rattle.std.proofs.Common.{ℕ, ◌<◌, ◌≤◌, List, length}
use Rattle.mt_types.specs.declared.limits.TheConstants.{MAX_KEY_BYTES}
use Rattle.mt_slice.specs.Place.{AreBytes}
use Rattle.mt_arena.specs.Arena.{ArenaView}
use Rattle.mt_arena.specs.declared.node.Node.{Node}
use Rattle.mt_steps.specs.declared.way.Way.{Way}
use Rattle.mt_steps.specs.declared.way.Went.TheVariants.{To}
use Rattle.mt_steps.specs.Way.{prefix_of, start, IsOnWay, MayGo, MayGoAt, Names, Visits}
use Rattle.mt_steps.specs.Causes.{IsMarkedAt}
use Rattle.mt_steps.specs.Lone.{IsLoneTree}
use Rattle.mt_steps.proofs.GetLemmas.{may_go, may_go_at}
use Rattle.mt_steps.proofs.WayLemmas.{starts}
use Rattle.mt_steps.proofs.LoneWay.{way_left, IsOnThere, way_moves, not_marked, starts_on}

-- it is on the way to the key, at a node that is on
pub record IsSought (a : ArenaView) (key : List ℕ) (way : Way) : Type 0 where
  pub lone : IsLoneTree a
  pub bytes : AreBytes key
  pub fits : length key ≤ MAX_KEY_BYTES
  pub on : IsOnWay 0 key way lone.w
  pub there : IsOnThere lone.w key way

pub sought_begins : (a : ArenaView) (key : List ℕ) → IsLoneTree a → AreBytes key → length key ≤ MAX_KEY_BYTES → IsSought a key start
sought_begins a key lone bytes fits = record {
  lone = lone;
  bytes = bytes;
  fits = fits;
  on = starts a lone.now lone.w 0 key lone.world;
  there = starts_on a lone.now lone.w key lone.world;
}

pub sought_may_go : (a : ArenaView) (key : List ℕ) (way : Way) → IsSought a key way → MayGo a key way
sought_may_go a key way s = may_go a key way s.lone.now 0 s.lone.w s.lone.world s.on

pub sought_may_go_at : (a : ArenaView) (key : List ℕ) (way : Way) (node : Node) → IsSought a key way → Names a way.node.0 node → MayGoAt key way node
sought_may_go_at a key way node s names = may_go_at a key way node names (sought_may_go a key way s)

pub sought_goes : (a : ArenaView) (key : List ℕ) (way next : Way) → IsSought a key way → Visits a key way (To next)
    → IsSought a key next × (way_left a next.layer next.node.0 < way_left a way.layer way.node.0)
sought_goes a key way next s visits =
    let goes = visits.goes s.lone.now s.lone.w 0 s.lone.world s.on in
    let (there, falls) = way_moves a s.lone.now 0 s.lone.w key way next s.lone.world s.bytes s.fits s.on s.there goes in
    (record { lone = s.lone; bytes = s.bytes; fits = s.fits; on = goes.0; there = there }, falls)

pub sought_unmarked : (a : ArenaView) (key : List ℕ) (way : Way) → IsSought a key way → IsMarkedAt a way.node.0 → ⊥
sought_unmarked a key way s marked = not_marked a s.lone.now s.lone.w s.lone.world way.node.0 (s.lone.free way.node.0)
    (record { role = s.there.role; prefix = prefix_of key way; low = s.there.low; posted = s.there.posted; place = s.there.place }) marked
