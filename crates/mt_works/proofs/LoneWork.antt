-- A call that runs alone, of any kind: what is known of it between its steps, and that each step brings it nearer to its end.
use Rattle.std.proofs.Common.{ℕ, ◌≡◌, ◌≤◌, ◌<◌, ◌+◌, ◌*◌, ◌⊎◌, inl, inr, List, [], ◌∷◌, length, Option, refl, sym, ap, subst, ◌∙◌, arith, None, Some}
use Rattle.mt_types.specs.declared.row.Delta.{Delta}
use Rattle.mt_commit.specs.Log.{LogView, newest}
use Rattle.mt_arena.specs.Arena.{ArenaView}
use Rattle.mt_chart.specs.Tree.{Arena, Among}
use Rattle.mt_chart.specs.Chart.{Evolves}
use Rattle.mt_tree.specs.Seen.{arena_seen}
use Rattle.mt_steps.specs.declared.progress.Progress.{Progress}
use Rattle.mt_steps.specs.declared.progress.Progress.TheVariants.{Moved, Waits, Committed}
use Rattle.mt_steps.specs.World.{World, IsWorld, IsTaken, NotAmong}
use Rattle.mt_steps.specs.Step.{Held, Stepped, StepLawIn, Does, left_with}
use Rattle.mt_types.specs.declared.numbers.NodeNo.{NodeNo}
use Rattle.mt_steps.specs.declared.way.Way.{Way}
use Rattle.mt_write.specs.declared.writing.Write.{Write as WriteView}
use Rattle.mt_write.specs.declared.writing.Edit.{Edit}
use Rattle.mt_write.specs.declared.writing.Edit.TheVariants.{Put, Remove}
use Rattle.mt_write.specs.Held.{write_request, edit_request}
use Rattle.mt_steps.specs.Finding.{Finding}
use Rattle.mt_steps.specs.Listing.{Listing}
use Rattle.mt_steps.specs.Getting.{reads_made}
use Rattle.mt_steps.proofs.GetSteps.{reads_few}
use Rattle.mt_steps.proofs.LoneFinding.{FindStands}
use Rattle.mt_steps.proofs.LoneGet.{GetStands, get_left, lone_get_waits_not}
use Rattle.mt_steps.proofs.LoneListing.{ListStands}
use Rattle.mt_steps.proofs.LoneWay.{IsOnThere, starts_on}
use Rattle.mt_steps.proofs.LoneRange.{ScanStands, RangeStands, range_left, lone_range_waits_not, range_begins}
use Rattle.mt_remove.proofs.LoneStages.{tidy_stands, tidy_left, tidy_begins, lone_tidy_waits_not}
use Rattle.mt_remove.proofs.LoneTidy.{lone_tidy_nearer}
use Rattle.mt_write.proofs.LoneWrite.{request_key}
use Rattle.mt_write.proofs.LoneWrites.{lone_stands as write_stands, lone_left as write_left, begins as write_begins, waits_not as write_waits_not, nearer as write_nearer}
use Rattle.mt_works.specs.Works.{IsKey}
use Rattle.mt_arena.specs.Node.{occupied}
use Rattle.mt_works.proofs.LoneGet.{trail_short}
use Rattle.mt_promise.specs.declared.limits.TheConstants.{MAX_READS}
use Rattle.mt_works.proofs.LoneBuild.{StandsBy, build_left, lone_build_waits_not}
use Rattle.mt_works.proofs.LoneKinds.{lone_build_stands, StandsWithin, get_nearer, range_nearer, build_nearer}
use Rattle.mt_works.specs.declared.work.Work.{Work}
use Rattle.mt_works.specs.declared.work.Work.TheVariants.{Get, Write, Range, Tidy, Build}
use Rattle.mt_works.specs.Works.{request_of, held, IsTrue, AsksForKey, IsNew, IsBuiltWork, WorkBuilds}
use Rattle.mt_works.specs.Causes.{WorkWaits}
use Rattle.mt_works.specs.Follows.{WorkFollows, WorkReads, WorkPosts}

-- what else is true of a call that runs alone, in a world, after `commits` commits
abbrev pub work_stands : ArenaView → ℕ → World → Work → Type 0
work_stands a commits w (Get get) = GetStands a w get
work_stands a commits w (Write write) = write_stands a w write
work_stands a commits w (Range range) = RangeStands a w range
work_stands a commits w (Tidy tidy) = tidy_stands a w tidy
work_stands a commits w (Build building) = lone_build_stands a commits w building

-- WHAT IS LEFT of it, at most
abbrev pub work_left : ArenaView → ℕ → Work → ℕ
work_left a commits (Get get) = get_left a get
work_left a commits (Write write) = write_left a write
work_left a commits (Range range) = range_left a range
work_left a commits (Tidy tidy) = tidy_left a tidy
work_left a commits (Build building) = build_left a commits building

-- what is taken is its own
abbrev pub OwnsAll : ArenaView → World → List ℕ → Type 0
OwnsAll a w owned = (number : ℕ) → IsTaken a w number → Among number owned

-- it continues
abbrev pub GoesOn : Progress → Type 0
GoesOn Moved = Unit {0}
GoesOn (Committed number) = Unit {0}
GoesOn _ = ⊥

-- a call alone in a world, after `commits` commits
pub record IsLone (C now begun moves : ℕ) (past : List Arena) (a : ArenaView) (commits : ℕ) (w : World) (work : Work) : Type 0 where
  pub world : IsWorld a now w
  pub before : begun ≤ now
  pub true : IsTrue C work begun moves past a w
  pub owns : OwnsAll a w (held work).owns
  pub stands : work_stands a commits w work

-- a get has moved with each of its steps
abbrev pub MovedBy : ℕ → ℕ → Work → Type 0
MovedBy moves made (Get get) = made ≡ moves
MovedBy moves made _ = Unit {0}

-- it is a get
abbrev pub IsGet : Work → Type 0
IsGet (Get get) = Unit {0}
IsGet _ = ⊥

-- the same in some world, after `made` steps, and what it asks for is a key; a get has made as many moves
pub record RunsLone (C now made : ℕ) (a : ArenaView) (commits : ℕ) (work : Work) : Type 0 where
  pub begun : ℕ
  pub moves : ℕ
  pub past : List Arena
  pub w : World
  pub lone : IsLone C now begun moves past a commits w work
  pub key : AsksForKey (request_of work)
  pub moved : MovedBy moves made work

-- what its step states if it continues, and the next world
pub record StepsOn (C now begun moves : ℕ) (before : List Arena) (a after : ArenaView) (log left : LogView) (w next : World) (work : Work) (p : Progress) (new : Work) : Type 0 where
  pub goes : GoesOn p
  pub world : IsWorld after now next
  pub spots : (number : ℕ) → NotAmong number (held work).owns → NotAmong number (held new).owns → next.chart number ≡ w.chart number
  pub evolves : (epoch : ℕ) → epoch ≤ now → Evolves epoch w.chart next.chart
  pub then : ℕ
  pub past : List Arena
  pub true : IsTrue C new begun then past after next
  pub owns : OwnsAll after next (held new).owns
  pub request : request_of new ≡ request_of work
  pub follows : WorkFollows a log work p new
  pub builds : WorkBuilds a log work p new
  pub read : WorkReads a after work
  pub posts : WorkPosts a after work p new
  pub does : Does C before a after log left (request_of work) (held work).committed p (held new).committed
  pub quiet : p ≡ Moved → newest left ≡ newest log

-- the laws of calls alone
pub record LoneLaws : Type 0 where
  pub begins : (C number : ℕ) (a : ArenaView) (now : ℕ) (w : World) → IsWorld a now w → ((n : ℕ) → IsTaken a w n → ⊥) → (work : Work) → IsNew C number work → work_stands a number w work
  pub waits_not : (C now begun moves : ℕ) (past : List Arena) (a : ArenaView) (log : LogView) (w : World) (work new : Work) → IsLone C now begun moves past a (newest log) w work → (IsBuiltWork work → ⊥) → AsksForKey (request_of work) → WorkWaits a work Waits → WorkFollows a log work Waits new → ⊥
  pub nearer : (C now begun moves : ℕ) (past : List Arena) (a after : ArenaView) (log left : LogView) (w next : World) (work : Work) (p : Progress) (new : Work)
      → IsLone C now begun moves past a (newest log) w work → (IsBuiltWork work → ⊥) → AsksForKey (request_of work) → StepsOn C now begun moves past a after log left w next work p new
      → work_stands after (newest left) next new × (work_left after (newest left) new < work_left a (newest log) work)

-- ---- a step, of any kind
then_owned : (owned : List ℕ) (owns : List ℕ) (a after : ArenaView) (w next : World) → ((number : ℕ) → IsTaken after next number → Among number owns ⊎ (IsTaken a w number × NotAmong number owned)) → OwnsAll a w owned → OwnsAll after next owns
then_owned owned owns a after w next takes all number taken = elim (takes number taken) [
  | inl mine ↦ mine
  | inr other ↦ absurd (other.1 (all number other.0))
]

-- it was a get before
was_get : (a : ArenaView) (log : LogView) (work new : Work) (p : Progress) → WorkFollows a log work p new → IsGet new → IsGet work
was_get a log (Get get) new p follows is = tt
was_get a log (Write write) (Get new) p follows is = absurd follows
was_get a log (Range range) (Get new) p follows is = absurd follows
was_get a log (Tidy tidy) (Get new) p follows is = absurd follows
was_get a log (Build building) (Get new) p follows is = absurd follows
was_get a log work (Write new) p follows is = absurd is
was_get a log work (Range new) p follows is = absurd is
was_get a log work (Tidy new) p follows is = absurd is
was_get a log work (Build new) p follows is = absurd is

-- a get makes no commit
get_commits_not : (C : ℕ) (past : List Arena) (a after : ArenaView) (log left : LogView) (work : Work) (number : ℕ) (then : Option ℕ) → IsGet work
    → Does C past a after log left (request_of work) (held work).committed (Committed number) then → ⊥
get_commits_not C past a after log left (Get get) number then is does = does.0
get_commits_not C past a after log left (Write write) number then is does = is
get_commits_not C past a after log left (Range range) number then is does = is
get_commits_not C past a after log left (Tidy tidy) number then is does = is
get_commits_not C past a after log left (Build building) number then is does = is

-- it has made one move more
moves_by : (a : ArenaView) (log : LogView) (moves made : ℕ) (work new : Work) → MovedBy moves made work → WorkFollows a log work Moved new → MovedBy (moves + 1) (made + 1) new
moves_by a log moves made (Get get) (Get new) moved follows = ap (λ (n : ℕ). n + 1) moved
moves_by a log moves made (Write write) (Get new) moved follows = absurd follows
moves_by a log moves made (Range range) (Get new) moved follows = absurd follows
moves_by a log moves made (Tidy tidy) (Get new) moved follows = absurd follows
moves_by a log moves made (Build building) (Get new) moved follows = absurd follows
moves_by a log moves made work (Write new) moved follows = tt
moves_by a log moves made work (Range new) moved follows = tt
moves_by a log moves made work (Tidy new) moved follows = tt
moves_by a log moves made work (Build new) moved follows = tt

no_get : (moves made : ℕ) (new : Work) → (IsGet new → ⊥) → MovedBy moves made new
no_get moves made (Get new) not = absurd (not tt)
no_get moves made (Write new) not = tt
no_get moves made (Range new) not = tt
no_get moves made (Tidy new) not = tt
no_get moves made (Build new) not = tt

module _ (laws : LoneLaws) (C now made : ℕ) (a after : ArenaView) (log left : LogView) (work : Work) (lone : RunsLone C now made a (newest log) work) (unbuilt : IsBuiltWork work → ⊥) where
  abbrev Law : Progress → Work → Type 0
  Law p new = StepLawIn now C a after log left (request_of work) (held work) p (held new) (IsTrue C work) (IsTrue C new)

  abbrev Goes_on : ArenaView → ℕ → Work → Type 0
  Goes_on then commits new = RunsLone C now (made + 1) then commits new × (work_left then commits new < work_left a (newest log) work)

  ends_so : (new : Work) (p : Progress) (moves : ℕ) (s : Stepped C now lone.moves lone.past a after log left lone.w (request_of work) (held work) p (held new) (λ m next. IsTrue C new lone.begun m (arena_seen a ∷ lone.past) after next))
      → GoesOn p → left_with p (held new) ≡ held new → IsTrue C new lone.begun moves (arena_seen a ∷ lone.past) after s.goes.next → (p ≡ Moved → newest left ≡ newest log)
      → MovedBy moves (made + 1) new
      → request_of new ≡ request_of work → WorkFollows a log work p new → WorkBuilds a log work p new → WorkReads a after work → WorkPosts a after work p new → Goes_on after (newest left) new
  ends_so new p moves s goes kept true quiet moved request follows builds read posts =
      let next = s.goes.next in
      let owns = then_owned (held work).owns (held new).owns a after lone.w next (subst (λ (h : Held). (number : ℕ) → IsTaken after next number → Among number h.owns ⊎ (IsTaken a lone.w number × NotAmong number (held work).owns)) kept s.goes.takes) lone.lone.owns in
      let steps : StepsOn C now lone.begun lone.moves lone.past a after log left lone.w next work p new = record {
        goes = goes;
        world = s.goes.world;
        spots = subst (λ (h : Held). (number : ℕ) → NotAmong number (held work).owns → NotAmong number h.owns → next.chart number ≡ lone.w.chart number) kept s.goes.spots;
        evolves = s.goes.evolves;
        then = moves;
        past = arena_seen a ∷ lone.past;
        true = true;
        owns = owns;
        request = request;
        follows = follows;
        builds = builds;
        read = read;
        posts = posts;
        does = s.does;
        quiet = quiet;
      } in
      let (stands, falls) = laws.nearer C now lone.begun lone.moves lone.past a after log left lone.w next work p new lone.lone unbuilt lone.key steps in (
        record {
          begun = lone.begun;
          moves = moves;
          past = arena_seen a ∷ lone.past;
          w = next;
          lone = record { world = s.goes.world; before = lone.lone.before; true = true; owns = owns; stands = stands };
          key = subst AsksForKey (sym request) lone.key;
          moved = moved;
        },
        falls,
      )

  pub lone_moves : (new : Work) → Law Moved new → request_of new ≡ request_of work → WorkFollows a log work Moved new → WorkBuilds a log work Moved new → WorkReads a after work → WorkPosts a after work Moved new → Goes_on after (newest left) new
  lone_moves new law request follows builds read posts =
      let s = law.steps lone.begun lone.moves lone.past lone.w lone.lone.world lone.lone.before lone.lone.true in
      ends_so new Moved (lone.moves + 1) s tt refl s.goes.true (λ moved. ap (λ (n : ℕ). n + length left.deltas) s.does.0.trimmed ∙ ap (λ (l : List Delta). log.held_after + length l) s.does.0.deltas)
      (moves_by a log lone.moves made work new lone.moved follows) request follows builds read posts

  pub lone_commits : (new : Work) (number : ℕ) → Law (Committed number) new → request_of new ≡ request_of work → WorkFollows a log work (Committed number) new → WorkBuilds a log work (Committed number) new → WorkReads a after work → WorkPosts a after work (Committed number) new → Goes_on after (newest left) new
  lone_commits new number law request follows builds read posts =
      let s = law.steps lone.begun lone.moves lone.past lone.w lone.lone.world lone.lone.before lone.lone.true in
      ends_so new (Committed number) 0 s tt refl s.goes.true (λ moved. absurd (let clash : Committed number ≡ Moved = moved in cc))
      (no_get 0 (made + 1) new (λ is. get_commits_not C lone.past a after log left work number (held new).committed (was_get a log work new (Committed number) follows is) s.does)) request follows builds read posts

  pub lone_waits_not : (new : Work) → WorkWaits a work Waits → WorkFollows a log work Waits new → ⊥
  lone_waits_not new waits follows = laws.waits_not C now lone.begun lone.moves lone.past a log lone.w work new lone.lone unbuilt lone.key waits follows

moved_none : (work : Work) → MovedBy 0 0 work
moved_none (Get get) = refl
moved_none (Write write) = tt
moved_none (Range range) = tt
moved_none (Tidy tidy) = tt
moved_none (Build building) = tt

-- from its begin on, if nothing is taken
pub lone_begins : (laws : LoneLaws) (C now number : ℕ) (a : ArenaView) (w : World) → IsWorld a now w → ((n : ℕ) → IsTaken a w n → ⊥) → (work : Work) → IsNew C number work → RunsLone C now 0 a number work
lone_begins laws C now number a w world free work new = record {
  begun = now;
  moves = 0;
  past = [];
  w = w;
  lone = record {
    world = world;
    before = omega arith;
    true = new.true a now now w world;
    owns = λ n taken. absurd (free n taken);
    stands = laws.begins C number a now w world free work new;
  };
  key = new.key;
  moved = moved_none work;
}

-- a get has made few steps for each node
few_steps : (made moves came reads nodes : ℕ) → made ≡ moves → moves ≤ MAX_READS * came + reads → reads ≤ 20 → came < nodes → made < MAX_READS * nodes
few_steps made moves came reads nodes same most few less = omega (arith, same, most, few, less)

pub lone_get_steps : (C now made : ℕ) (a : ArenaView) (commits : ℕ) (work : Work) → RunsLone C now made a commits work → IsGet work → made < MAX_READS * occupied a.nodes
lone_get_steps C now made a commits (Get get) runs is =
    let on = runs.lone.true.1 in
    few_steps made runs.moves on.came (reads_made get.finding) (occupied a.nodes) runs.moved on.few (reads_few get.finding get.key get.columns get.way runs.begun (arena_seen a ∷ runs.past) a runs.w runs.lone.true.0)
    (trail_short a now runs.w runs.lone.world runs.begun get.way.node.0 on.came on.trail)
lone_get_steps C now made a commits (Write write) runs is = absurd is
lone_get_steps C now made a commits (Range range) runs is = absurd is
lone_get_steps C now made a commits (Tidy tidy) runs is = absurd is
lone_get_steps C now made a commits (Build building) runs is = absurd is

-- the key of a put or remove
edit_key : (key : List ℕ) (edit : Edit) → AsksForKey (edit_request key edit) → IsKey key
edit_key key (Put sets None) is = is
edit_key key (Put sets (Some version)) is = is
edit_key key Remove is = is

write_key : (write : WriteView) → AsksForKey (write_request write) → IsKey write.key
write_key write is = edit_key write.key write.edit is

same_key : (write new : WriteView) → write_request new ≡ write_request write → new.key ≡ write.key
same_key write new request = request_key new.key write.key new.edit write.edit request

-- ---- the laws, of each kind
none_owned : (a : ArenaView) (w : World) → OwnsAll a w [] → (number : ℕ) → IsTaken a w number → ⊥
none_owned a w owns number taken = elim (owns number taken) [ ]

not_in_none : (number : ℕ) → NotAmong number []
not_in_none number i = elim i [ ]

begins_so : (C number : ℕ) (a : ArenaView) (now : ℕ) (w : World) → IsWorld a now w → ((n : ℕ) → IsTaken a w n → ⊥) → (work : Work) → IsNew C number work → work_stands a number w work
begins_so C number a now w world free (Get get) new = record {
  there = subst (λ (way : Way). IsOnThere w get.key way) (sym new.at_start.0) (starts_on a now w get.key world);
  noted = subst (λ (finding : Finding). FindStands a get.way.node.0 finding) (sym new.at_start.1) tt;
}
begins_so C number a now w world free (Write write) new = write_begins a now w write world free new.at_start.0 new.at_start.2 new.at_start.1
begins_so C number a now w world free (Range range) new = record {
  node = subst (λ (n : NodeNo). ScanStands w.chart n.0 range.scan.prefix) (sym new.at_start.0) (subst (λ (p : List ℕ). ScanStands w.chart 0 p) (sym new.at_start.1) (range_begins a now w world));
  noted = subst (λ (listing : Listing). ListStands a range.node.0 listing) (sym new.at_start.2) tt;
}
begins_so C number a now w world free (Tidy tidy) new = tidy_begins a now w tidy world new.at_start.0 new.at_start.1 new.at_start.2
begins_so C number a now w world free (Build building) new = (
  subst (λ (u : Option ℕ). StandsBy u a w building.node.0 building.build building.listing) (sym new.opens.0) (
    subst (λ (n : NodeNo). ScanStands w.chart n.0 building.build.prefix) (sym new.at_start.0) (subst (λ (p : List ℕ). ScanStands w.chart 0 p) (sym new.at_start.1) (range_begins a now w world)),
    subst (λ (listing : Listing). ListStands a building.node.0 listing) (sym new.at_start.2) tt,
  ),
  subst (λ (u : Option ℕ). StandsWithin u building.build.state.at number) (sym new.opens.0) (omega (arith, new.opens.1)),
)

waits_so : (C now begun moves : ℕ) (past : List Arena) (a : ArenaView) (log : LogView) (w : World) (work new : Work) → IsLone C now begun moves past a (newest log) w work → (IsBuiltWork work → ⊥) → AsksForKey (request_of work) → WorkWaits a work Waits → WorkFollows a log work Waits new → ⊥
waits_so C now begun moves past a log w (Get get) (Get new) lone unbuilt key waits follows = lone_get_waits_not a now begun moves past w get new lone.world lone.true lone.stands (none_owned a w lone.owns) follows
waits_so C now begun moves past a log w (Get get) _ lone unbuilt key waits follows = absurd follows
waits_so C now begun moves past a log w (Write write) new lone unbuilt key waits follows = write_waits_not C now begun a w write lone.world lone.before lone.true.0 lone.stands (write_key write key).0 (write_key write key).1 lone.owns waits
waits_so C now begun moves past a log w (Range range) (Range new) lone unbuilt key waits follows = lone_range_waits_not a now begun moves past w range new lone.world lone.true lone.stands (none_owned a w lone.owns) follows
waits_so C now begun moves past a log w (Range range) _ lone unbuilt key waits follows = absurd follows
waits_so C now begun moves past a log w (Tidy tidy) (Tidy new) lone unbuilt key waits follows = lone_tidy_waits_not a now begun w tidy new lone.world lone.true lone.stands lone.owns follows waits
waits_so C now begun moves past a log w (Tidy tidy) _ lone unbuilt key waits follows = absurd follows
waits_so C now begun moves past a log w (Build building) (Build new) lone unbuilt key waits follows = lone_build_waits_not a log now begun moves past w building new lone.world lone.true lone.stands.0 (none_owned a w lone.owns) follows waits
waits_so C now begun moves past a log w (Build building) _ lone unbuilt key waits follows = absurd follows

nearer_so : (C now begun moves : ℕ) (past : List Arena) (a after : ArenaView) (log left : LogView) (w next : World) (work : Work) (p : Progress) (new : Work)
    → IsLone C now begun moves past a (newest log) w work → (IsBuiltWork work → ⊥) → AsksForKey (request_of work) → StepsOn C now begun moves past a after log left w next work p new
    → work_stands after (newest left) next new × (work_left after (newest left) new < work_left a (newest log) work)
nearer_so C now begun moves past a after log left w next (Get get) Moved (Get new) lone unbuilt key s =
    get_nearer a after now begun moves past w next get new lone.world lone.true lone.stands (none_owned a w lone.owns) key s.follows s.read (λ n. s.spots n (not_in_none n) (not_in_none n))
nearer_so C now begun moves past a after log left w next (Get get) (Committed number) (Get new) lone unbuilt key s = absurd s.does.0
nearer_so C now begun moves past a after log left w next (Get get) p (Get new) lone unbuilt key s = absurd s.goes
nearer_so C now begun moves past a after log left w next (Get get) p _ lone unbuilt key s = absurd s.follows
nearer_so C now begun moves past a after log left w next (Write write) Moved (Write new) lone unbuilt key s =
    write_nearer C now begun a after w next write new Moved lone.world lone.before lone.true.0 lone.stands (write_key write key).0 (write_key write key).1 lone.owns s.posts.2 s.posts.3 s.follows s.posts.0 s.posts.1 tt s.world s.spots (s.evolves 0 (omega arith)) s.true.0 s.owns (same_key write new s.request)
nearer_so C now begun moves past a after log left w next (Write write) (Committed number) (Write new) lone unbuilt key s =
    write_nearer C now begun a after w next write new (Committed number) lone.world lone.before lone.true.0 lone.stands (write_key write key).0 (write_key write key).1 lone.owns s.posts.2 s.posts.3 s.follows s.posts.0 s.posts.1 tt s.world s.spots (s.evolves 0 (omega arith)) s.true.0 s.owns (same_key write new s.request)
nearer_so C now begun moves past a after log left w next (Write write) p (Write new) lone unbuilt key s = absurd s.goes
nearer_so C now begun moves past a after log left w next (Write write) p _ lone unbuilt key s = absurd s.follows
nearer_so C now begun moves past a after log left w next (Range range) Moved (Range new) lone unbuilt key s =
    range_nearer a after now begun moves begun s.then past s.past w next range new lone.world lone.true lone.stands (none_owned a w lone.owns) s.follows s.read (λ n. s.spots n (not_in_none n) (not_in_none n)) s.true
nearer_so C now begun moves past a after log left w next (Range range) (Committed number) (Range new) lone unbuilt key s = absurd s.does.0
nearer_so C now begun moves past a after log left w next (Range range) p (Range new) lone unbuilt key s = absurd s.goes
nearer_so C now begun moves past a after log left w next (Range range) p _ lone unbuilt key s = absurd s.follows
nearer_so C now begun moves past a after log left w next (Tidy tidy) Moved (Tidy new) lone unbuilt key s =
    lone_tidy_nearer a after now begun w next tidy new lone.world lone.true lone.stands lone.owns key.0 key.1 s.read s.follows s.world s.spots s.true
nearer_so C now begun moves past a after log left w next (Tidy tidy) (Committed number) (Tidy new) lone unbuilt key s = absurd s.does.0
nearer_so C now begun moves past a after log left w next (Tidy tidy) p (Tidy new) lone unbuilt key s = absurd s.goes
nearer_so C now begun moves past a after log left w next (Tidy tidy) p _ lone unbuilt key s = absurd s.follows
nearer_so C now begun moves past a after log left w next (Build building) Moved (Build new) lone unbuilt key s =
    build_nearer a after log left now begun moves begun s.then past s.past w next building new lone.world lone.true lone.stands (none_owned a w lone.owns) unbuilt s.builds s.follows s.read (λ n. s.spots n (not_in_none n) (not_in_none n)) (s.quiet refl) s.true
nearer_so C now begun moves past a after log left w next (Build building) (Committed number) (Build new) lone unbuilt key s = absurd s.does.0
nearer_so C now begun moves past a after log left w next (Build building) p (Build new) lone unbuilt key s = absurd s.goes
nearer_so C now begun moves past a after log left w next (Build building) p _ lone unbuilt key s = absurd s.follows

pub lone_laws : LoneLaws
lone_laws = record { begins = begins_so; waits_not = waits_so; nearer = nearer_so }
