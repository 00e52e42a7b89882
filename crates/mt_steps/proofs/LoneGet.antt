-- A get that runs alone: each node that it comes to is on, it doesn't wait, and with each move what is left of it falls.
use Rattle.std.proofs.Common.{ℕ, ◌≡◌, ◌<◌, ◌≤◌, ◌+◌, ◌-◌, ◌*◌, inl, inr, List, ◌∷◌, length, sym, subst, arith}
use Rattle.mt_types.specs.declared.limits.TheConstants.{MAX_KEY_BYTES}
use Rattle.mt_types.specs.declared.refusal.Refusal.TheVariants.{NoMemory}
use Rattle.mt_slice.specs.Place.{AreBytes}
use Rattle.mt_arena.specs.Arena.{ArenaView}
use Rattle.mt_chart.specs.Tree.{Arena}
use Rattle.mt_chart.specs.Walk.{Moves}
use Rattle.mt_tree.specs.Seen.{arena_seen}
use Rattle.mt_steps.specs.declared.finding.Sight.TheVariants.{Absent as AbsentSight, Row as RowSight, Link as LinkSight}
use Rattle.mt_types.specs.declared.event.Answer.TheVariants.{Absent as AbsentAnswer, Found}
use Rattle.mt_steps.specs.Finding.{Finding}
use Rattle.mt_steps.specs.declared.reader.Reader.TheVariants.{Begins, Looked, Bounded, Reads, AtValue, Settles}
use Rattle.mt_steps.specs.Finding.{FindReading}
use Rattle.mt_steps.specs.declared.reader.Reading.TheVariants.{Restarts, Repeats, GoesOn, To, Finds}
use Rattle.mt_steps.specs.declared.getting.Get.{Get}
use Rattle.mt_steps.specs.declared.way.Way.{Way}
use Rattle.mt_steps.specs.declared.progress.Progress.{Progress}
use Rattle.mt_steps.specs.declared.progress.Progress.TheVariants.{Moved, Waits, Answered, Refused}
use Rattle.mt_steps.specs.World.{World, IsWorld, IsTaken}
use Rattle.mt_steps.specs.Way.{prefix_of, IsOnWay}
use Rattle.mt_steps.specs.Getting.{FindingIsTrue, GetIsTrue, GetFollows, get_after, progress_of, reading_of, reads_made}
use Rattle.mt_steps.proofs.FieldLemmas.{LeadsTo, on_way}
use Rattle.mt_steps.proofs.GetLemmas.{may_go}
use Rattle.mt_steps.proofs.GetSteps.{leads, reads_few}
use Rattle.mt_steps.proofs.LoneFinding.{FindStands, FindGoes, FindMay, find_goes}
use Rattle.mt_steps.proofs.LoneLemmas.{untaken_alive, untaken_unlocked}
use Rattle.mt_steps.proofs.LoneWay.{way_left, IsOnThere, move_nearer}

-- its node is on, and it has noted what the border there has
pub record GetStands (a : ArenaView) (w : World) (get : Get) : Type 0 where
  pub there : IsOnThere w get.key get.way
  pub noted : FindStands a get.way.node.0 get.finding

-- WHAT IS LEFT of it: of its way, and of the fields that it reads where it is
abbrev pub get_left : ArenaView → Get → ℕ
get_left a get = 32 * way_left a get.way.layer get.way.node.0 + (24 - reads_made get.finding)

field_falls : (way one other : ℕ) → one < other → other ≤ 20 → 32 * way + (24 - other) < 32 * way + (24 - one)
field_falls way one other more few = omega (arith, more, few)

node_falls : (way left one other : ℕ) → left < way → 32 * left + (24 - one) < 32 * way + (24 - other)
node_falls way left one other less = omega (arith, less)

module _ (a : ArenaView) (now begun moves : ℕ) (past : List Arena) (w : World) (get new : Get) (world : IsWorld a now w) (truth : GetIsTrue get begun moves past a w) (stands : GetStands a w get) (free : (other : ℕ) → IsTaken a w other → ⊥) where
  abbrev IsTrue : Finding → Type 0
  IsTrue finding = FindingIsTrue get.key get.columns get.way finding begun (arena_seen a ∷ past) a w

  may : (finding : Finding) → IsTrue finding → FindMay a get finding
  may Begins on = (may_go a get.key get.way now begun w world on).may.has_child
  may (Looked counters) at = tt
  may (Bounded counters right) truth = tt
  may (Reads notes) truth = tt
  may (AtValue notes kind) (at, (within, fits), deep, is_true) = within
  may (Settles counters sight) truth = tt

  goes : (p : Progress) → (follows : GetFollows a get p new) → FindGoes a get.way.node.0 (reading_of get follows.part)
  goes p follows =
      find_goes a get (untaken_alive a now w world get.way.node.0 (free get.way.node.0) (record { role = stands.there.role; prefix = prefix_of get.key get.way; low = stands.there.low; posted = stands.there.posted; place = stands.there.place }))
      (untaken_unlocked a now w world get.way.node.0 (free get.way.node.0))
      get.finding (may get.finding truth.0) stands.noted follows.part follows.lent

  -- a get that runs alone doesn't wait
  pub lone_get_waits_not : GetFollows a get Waits new → ⊥
  lone_get_waits_not follows = elim follows.does [
    | inl refused ↦ (let clash : Waits ≡ Refused NoMemory = refused.0 in cc)
    | inr done ↦ go (reading_of get follows.part) (goes Waits follows) done.0
  ]
    where
      go : (reading : FindReading) → FindGoes a get.way.node.0 reading → Waits ≡ progress_of reading → ⊥
      go Restarts never is = never
      go Repeats never is = never
      go (GoesOn finding) noted is = (let clash : Waits ≡ Moved = is in cc)
      go (To node) move is = (let clash : Waits ≡ Moved = is in cc)
      go (Finds (LinkSight head)) move is = (let clash : Waits ≡ Moved = is in cc)
      go (Finds AbsentSight) right is = (let clash : Waits ≡ Answered AbsentAnswer = is in cc)
      go (Finds (RowSight row)) right is = (let clash : Waits ≡ Answered (Found row) = is in cc)

  -- and with each of its moves what is left of it falls
  module _ (bytes : AreBytes get.key) (fits : length get.key ≤ MAX_KEY_BYTES) where
    abbrev Nearer : Get → Type 0
    Nearer x = GetStands a w x × (get_left a x < get_left a get)

    on_there : (next : Way) → IsOnWay begun get.key next w → Moves (arena_seen a) get.way.node.0 next.node.0 → Nearer (record get { way = next; finding = Begins })
    on_there next on move =
        let (there, falls) = move_nearer a now begun w get.key get.way next world bytes fits (on_way a now w world begun get.key get.columns get.way past get.finding truth.0) stands.there on move in
        (record { there = there; noted = tt }, node_falls (way_left a get.way.layer get.way.node.0) (way_left a next.layer next.node.0) 0 (reads_made get.finding) falls)

    pub lone_get_nearer : GetFollows a get Moved new → Nearer new
    lone_get_nearer follows = elim follows.does [
      | inl refused ↦ absurd (let clash : Moved ≡ Refused NoMemory = refused.0 in cc)
      | inr done ↦ subst Nearer (sym done.1)
          (go (reading_of get follows.part) (goes Moved follows) (leads a now w world begun get.key get.columns get.way past bytes get.finding truth.0 follows.part follows.lent) done.0)
    ]
      where
        go : (reading : FindReading) → FindGoes a get.way.node.0 reading → LeadsTo get.key get.columns get.way get.finding begun past a w reading → Moved ≡ progress_of reading → Nearer (get_after get reading)
        go Restarts never led is = absurd never
        go Repeats never led is = absurd never
        go (GoesOn finding) noted led is = (
          record { there = stands.there; noted = noted },
          field_falls (way_left a get.way.layer get.way.node.0) (reads_made get.finding) (reads_made finding) led.1
              (reads_few finding get.key get.columns get.way begun (arena_seen a ∷ (arena_seen a ∷ past)) a w led.0),
        )
        go (To node) move led is = on_there (record { node = node; layer = get.way.layer }) led.on move
        go (Finds (LinkSight head)) move led is = on_there (record { node = head; layer = get.way.layer + 1 }) led.on move
        go (Finds AbsentSight) right led is = absurd (let clash : Moved ≡ Answered AbsentAnswer = is in cc)
        go (Finds (RowSight row)) right led is = absurd (let clash : Moved ≡ Answered (Found row) = is in cc)
