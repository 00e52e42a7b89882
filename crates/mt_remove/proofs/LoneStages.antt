-- What is left of a tidy that runs alone, and that it never waits.
use Rattle.std.proofs.Common.{ℕ, ◌≡◌, ◌≢◌, ◌≤◌, ◌+◌, ◌*◌, ◌-◌, inl, inr, List, [], ◌∷◌, length, Option, Some, None, Bool, true, false, refl, sym, ap, subst, ◌∙◌, arith}
use Rattle.std.specs.Prelude.{IsSomeAnd}
use Rattle.mt_types.specs.declared.numbers.NodeNo.{NodeNo}
use Rattle.mt_types.specs.declared.event.Answer.TheVariants.{Tidied}
use Rattle.mt_types.specs.declared.event.TidyRule.TheVariants.{Nothing as NoRule}
use Rattle.mt_border.specs.Border.{BorderView}
use Rattle.mt_arena.specs.Node.{border_at}
use Rattle.mt_arena.specs.Arena.{ArenaView}
use Rattle.mt_arena.specs.declared.node.Node.{Node}
use Rattle.mt_arena.proofs.NodeLemmas.{node-from_border}
use Rattle.mt_chart.specs.Tree.{Arena, Among, first, later}
use Rattle.mt_chart.specs.Chart.{Role, top, at_level, Standing, on, Spot, spot, Chart, Holds}
use Rattle.mt_chart.specs.Walk.{all_heights, IsOn}
use Rattle.mt_tree.specs.Seen.{arena_seen}
use Rattle.mt_tree.proofs.HeldLemmas.{held_may_visit}
use Rattle.mt_steps.specs.declared.finding.Kind.TheVariants.{Row as RowKind, Link as LinkKind}
use Rattle.mt_steps.specs.declared.finding.Sight.TheVariants.{Absent as AbsentSight, Row as RowSight, Link as LinkSight}
use Rattle.mt_steps.specs.declared.reader.Reader.TheVariants.{Begins, Looked, Bounded, Reads, AtValue, Settles}
use Rattle.mt_steps.specs.declared.reader.Reading.TheVariants.{Restarts, Repeats, GoesOn, To, Finds}
use Rattle.mt_steps.specs.declared.way.Way.{Way}
use Rattle.mt_steps.specs.declared.progress.Progress.{Progress}
use Rattle.mt_steps.specs.declared.progress.Progress.TheVariants.{Moved, Waits, Answered}
use Rattle.mt_tree.specs.Descent.{is_marked}
use Rattle.mt_steps.specs.Finding.{Finding, FindReading}
use Rattle.mt_steps.specs.Getting.{reads_made}
use Rattle.mt_steps.specs.Way.{start, prefix_of, rest_of}
use Rattle.mt_steps.specs.World.{World, IsWorld, IsTaken, IsLocked, NotAmong}
use Rattle.mt_steps.proofs.GetLemmas.{may_go}
use Rattle.mt_steps.specs.Reader.{wants}
use Rattle.mt_steps.specs.Standing.{Lends}
use Rattle.mt_arena.specs.declared.part.Part.{Part}
use Rattle.mt_steps.proofs.LoneFinding.{FindStands, FindGoes, FindMay}
use Rattle.mt_steps.proofs.LoneLemmas.{untaken_alive, untaken_unlocked}
use Rattle.mt_steps.proofs.LoneWay.{way_left, IsOnThere, not_marked, starts_on}
use Rattle.mt_steps.proofs.RangeLemmas.{slice_back}
use Rattle.mt_remove.specs.declared.noted.Noted.{Noted}
use Rattle.mt_remove.specs.declared.sign.Sign.{Sign}
use Rattle.mt_remove.specs.declared.sign.Sign.TheVariants.{Nothing, Empty, LoneChild}
use Rattle.mt_remove.specs.declared.tidy.Tidy.{Tidy}
use Rattle.mt_remove.specs.declared.stage.Unlinking.{Unlinking}
use Rattle.mt_remove.specs.declared.stage.Stage.{Stage}
use Rattle.mt_remove.specs.declared.stage.Stage.TheVariants.{Seeks, LooksAgain, LooksRight, Locked, Dropped, Marked, LeftLocked, LeftNames, LeftMissed, LeftWritten, Lonely, LoneLocked, RootLocked, AboveLocked, AboveBounded, AboveSearched, AboveFound, LinkFound, HeadMarked, RootMarked, LinkHidden, LayerGone, KeepsLayer}
use Rattle.mt_remove.specs.Noted.{glanced, sign_of}
use Rattle.mt_remove.specs.Reading.{seek_reading}
use Rattle.mt_remove.specs.Tidy.{stage_owns, tidy_held, StageIsTrue, TidyIsTrue}
use Rattle.mt_remove.specs.Locked.{IsUnlinking}
use Rattle.mt_remove.specs.Known.{SeekFinding, AtLock}
use Rattle.mt_remove.specs.Follows.{not_noted, names, slice_rest, unread, approach_progress, LocksLeftBy, BeginsAt, BeginsBy, FollowsReading, StageWaits, TidyWaits, Follows, TidyFollows}
use Rattle.mt_remove.proofs.LoneReads.{NoRow, LeftStands, LeftGoes, seek_goes, left_goes}

-- ---- what else is true of it
-- the head of the layer where it is is on, and the layer is one of the key's
abbrev pub head_stands : World → List ℕ → Way → NodeNo → Type 0
head_stands w key way head = IsOn w.chart head.0 × (8 * way.layer ≤ length key - 1)

-- the border before the one that it unlinks names that
abbrev pub LeftNamesIt : ArenaView → Unlinking → Type 0
LeftNamesIt a u = (b : BorderView) × (border_at a.nodes u.node.0 ≡ Some b) × (names b.right u.border ≡ true)

-- the nodes through which it is yet to go are on, and it has noted what the border has at which it is
abbrev pub stage_stands : ArenaView → World → List ℕ → Way → Finding → Stage → Type 0
stage_stands a w key way finding (Seeks noted) = IsOnThere w key way × IsOn w.chart noted.head.0 × FindStands a way.node.0 finding
stage_stands a w key way finding (LooksAgain border head emptied glance) = head_stands w key way head
stage_stands a w key way finding (LooksRight border head emptied right) = head_stands w key way head
stage_stands a w key way finding (Locked border head parent) = head_stands w key way head
stage_stands a w key way finding (Dropped border head) = head_stands w key way head
stage_stands a w key way finding (Marked u) = head_stands w key way u.head × IsOn w.chart u.node.0 × LeftStands a u.slice u.node.0 finding
stage_stands a w key way finding (LeftLocked u) = LeftNamesIt a u
stage_stands a w key way finding (LeftMissed u) = ⊥
stage_stands a w key way finding _ = Unit {0}

abbrev pub tidy_stands : ArenaView → World → Tidy → Type 0
tidy_stands a w tidy = stage_stands a w tidy.key tidy.way tidy.finding tidy.stage

-- how far it has read the border before the one that it unlinks
abbrev pub left_made : Finding → ℕ
left_made Begins = 0
left_made (Looked counters) = 1
left_made _ = 2

-- WHAT IS LEFT of it at most, in moves: the ways to its place and to the border before it, what it reads there, and its
-- stages
abbrev pub stage_left : ArenaView → Way → Finding → Stage → ℕ
stage_left a way finding (Seeks noted) = (8 * all_heights + 64) + (32 * way_left a way.layer way.node.0 + (24 - reads_made finding))
stage_left a way finding (LooksAgain border head emptied glance) = 8 * all_heights + 63
stage_left a way finding (LooksRight border head emptied right) = 8 * all_heights + 62
stage_left a way finding (Locked border head parent) = 8 * all_heights + 21
stage_left a way finding (Dropped border head) = 8 * all_heights + 20
stage_left a way finding (Marked u) = 8 * way_left a way.layer u.node.0 + (12 - left_made finding)
stage_left a way finding (LeftLocked u) = 4
stage_left a way finding (LeftNames u) = 3
stage_left a way finding (LeftWritten border left) = 2
stage_left a way finding (RootLocked layer) = 60
stage_left a way finding (AboveLocked layer) = 50
stage_left a way finding (AboveBounded layer) = 40
stage_left a way finding (AboveSearched layer order place at) = 10 + (length order.live - place)
stage_left a way finding (AboveFound layer slot) = 6
stage_left a way finding (LinkFound layer) = 5
stage_left a way finding (HeadMarked layer) = 4
stage_left a way finding (RootMarked layer) = 3
stage_left a way finding (LinkHidden layer) = 2
stage_left a way finding (Lonely lone) = 2
stage_left a way finding (LayerGone root head) = 1
stage_left a way finding (LoneLocked lone) = 1
stage_left a way finding (KeepsLayer above root) = 1
stage_left a way finding _ = 0

abbrev pub tidy_left : ArenaView → Tidy → ℕ
tidy_left a tidy = stage_left a tidy.way tidy.finding tidy.stage

-- A TIDY THAT BEGINS is at a node that is on
pub tidy_begins : (a : ArenaView) (now : ℕ) (w : World) (tidy : Tidy) → IsWorld a now w → tidy.way ≡ start → tidy.finding ≡ Begins → tidy.stage ≡ Seeks not_noted → tidy_stands a w tidy
tidy_begins a now w tidy world way finding stage = subst (λ (s : Stage). stage_stands a w tidy.key tidy.way tidy.finding s) (sym stage) (
  subst (λ (x : Way). IsOnThere w tidy.key x) (sym way) (starts_on a now w tidy.key world),
  record { role = top; prefix = []; low = 0; posted = true; place = world.index.tree.layer_0 },
  subst (λ (f : Finding). FindStands a tidy.way.node.0 f) (sym finding) tt,
)

-- ---- numbers that are apart
pub not_the_one : (number other : ℕ) → number ≢ other → NotAmong number (other ∷ [])
not_the_one number other apart first = apart refl
not_the_one number other apart (later i) = elim i [ ]

-- a head is no border
pub head_apart : (chart : Chart) (head border : ℕ) (prefix layer : List ℕ) (low least : ℕ) (standing stands : Standing) → chart head ≡ Some (spot top prefix low standing) → chart border ≡ Some (spot (at_level 0) layer least stands) → head ≢ border
head_apart chart head border prefix layer low least standing stands place there same =
    let clash : ◌≡◌ {A = Option Spot} (Some (spot top prefix low standing)) (Some (spot (at_level 0) layer least stands)) = sym place ∙ (ap chart same ∙ there) in
    cc

same_low : (one other : Role) (prefix layer : List ℕ) (low least : ℕ) (standing stands : Standing) → ◌≡◌ {A = Option Spot} (Some (spot one prefix low standing)) (Some (spot other layer least stands)) → low ≡ least
same_low one other prefix layer low least standing stands e = cc

pub same_prefix : (before new : Chart) (number : ℕ) (one other : Role) (prefix layer : List ℕ) (low least : ℕ) (standing stands : Standing) → before number ≡ Some (spot one prefix low standing) → new number ≡ before number → new number ≡ Some (spot other layer least stands) → prefix ≡ layer
same_prefix before new number one other prefix layer low least standing stands place same there =
    let both : ◌≡◌ {A = Option Spot} (Some (spot one prefix low standing)) (Some (spot other layer least stands)) = sym place ∙ (sym same ∙ there) in
    cc

pub same_standing : (one other : Role) (prefix layer : List ℕ) (low least : ℕ) (standing stands : Standing) → ◌≡◌ {A = Option Spot} (Some (spot one prefix low standing)) (Some (spot other layer least stands)) → standing ≡ stands
same_standing one other prefix layer low least standing stands e = cc

-- the node on the way to the border before the one that is unlinked is not that one
pub before_apart : (a : ArenaView) (begun : ℕ) (w : World) (u : Unlinking) (prefix : List ℕ) → IsUnlinking begun a w prefix u → Holds w.chart begun u.node.0 prefix u.slice → u.node.0 ≢ u.border.0
before_apart a begun w u prefix k held same =
    let low = same_low held.role (at_level 0) prefix prefix held.low k.border.b.low held.standing (on false) (sym held.place ∙ (ap w.chart same ∙ k.border.place)) in
    let most = held.at_most in
    let before = k.before in
    omega (arith, low, most, before)

-- ---- it doesn't wait
pub some_gives : {T : Type 0} (o : Option T) (P : T → Type 0) (Q : Type 0) → ((x : T) → P x → Q) → IsSomeAnd o P → Q
some_gives None P Q f h = absurd h
some_gives (Some x) P Q f h = f x h

module _ (a : ArenaView) (now begun : ℕ) (w : World) (world : IsWorld a now w) (tidy : Tidy) where
  abbrev Taken : Stage → Type 0
  Taken stage = (number : ℕ) → IsTaken a w number → Among number (stage_owns stage)

  -- ---- on its way
  module _ (noted : Noted) (truth : StageIsTrue begun tidy.key tidy.way tidy.finding (Seeks noted) a w) (stands : stage_stands a w tidy.key tidy.way tidy.finding (Seeks noted)) (owned : Taken (Seeks noted)) where
    abbrev n : ℕ
    n = tidy.way.node.0

    free : IsTaken a w n → ⊥
    free taken = elim (owned n taken) [ ]

    is_on : IsOn w.chart n
    is_on = record { role = stands.0.role; prefix = prefix_of tidy.key tidy.way; low = stands.0.low; posted = stands.0.posted; place = stands.0.place }

    may : (past : List Arena) (finding : Finding) → SeekFinding tidy.key tidy.way finding begun (arena_seen a ∷ past) a w → FindMay a (record { key = tidy.key; columns = []; way = tidy.way; finding = Begins }) finding
    may past Begins t = (may_go a tidy.key tidy.way now begun w world truth.0).may.has_child
    may past (Looked counters) t = tt
    may past (Bounded counters right) t = tt
    may past (Reads notes) t = tt
    may past (AtValue notes RowKind) t = absurd t
    may past (AtValue notes LinkKind) (at, (within, fits), deep, is_true) = within
    may past (Settles counters sight) t = tt

    no_row : (past : List Arena) (finding : Finding) → SeekFinding tidy.key tidy.way finding begun (arena_seen a ∷ past) a w → NoRow finding
    no_row past Begins t = tt
    no_row past (Looked counters) t = tt
    no_row past (Bounded counters right) t = tt
    no_row past (Reads notes) t = tt
    no_row past (AtValue notes RowKind) t = absurd t
    no_row past (AtValue notes LinkKind) t = tt
    no_row past (Settles counters sight) t = tt

    pub goes_there : (p : Progress) (new : Tidy) (follows : Follows a tidy (Seeks noted) p new) → FindGoes a n (seek_reading tidy.finding (rest_of tidy.key tidy.way) follows.part)
    goes_there p new follows = seek_goes a tidy.key tidy.way (untaken_alive a now w world n free is_on) (untaken_unlocked a now w world n free)
        tidy.finding (no_row truth.2.0 tidy.finding truth.2.1) (may truth.2.0 tidy.finding truth.2.1) stands.2 follows.part follows.lent

    no_sign : (new : Tidy) (seen : Noted) (sign : Sign) → BeginsBy (unread tidy) seen sign Waits new → ⊥
    no_sign new seen Nothing is = (let clash : Waits ≡ Answered (Tidied NoRule) = is in cc)
    no_sign new seen (Empty emptied glance) is = (let clash : Waits ≡ Moved = is.0 in cc)
    no_sign new seen (LoneChild lone) is = (let clash : Waits ≡ Moved = is.0 in cc)

    no_begin : (new : Tidy) (seen : Noted) → IsSomeAnd (border_at a.nodes n) (λ b. BeginsAt (unread tidy) seen b Waits new) → ⊥
    no_begin new seen begins = some_gives (border_at a.nodes n) _ ⊥ (λ b h. elim h [ inl locked ↦ (let clash : Waits ≡ Answered (Tidied NoRule) = locked.1 in cc) | inr other ↦ no_sign new seen (sign_of b.low seen) other.1 ]) begins

    seeks_not : (new : Tidy) (seen : Noted) (reading : FindReading) → FindGoes a n reading → FollowsReading a (unread tidy) seen reading Waits new → ⊥
    seeks_not new seen Restarts goes follows = goes
    seeks_not new seen Repeats goes follows = goes
    seeks_not new seen (GoesOn next) goes follows = (let clash : Waits ≡ Moved = follows.0 in cc)
    seeks_not new seen (To node) goes follows = (let clash : Waits ≡ Moved = follows.0 in cc)
    seeks_not new seen (Finds (LinkSight head)) goes follows = (let clash : Waits ≡ Moved = follows.0 in cc)
    seeks_not new seen (Finds AbsentSight) goes follows = no_begin new seen follows
    seeks_not new seen (Finds (RowSight row)) goes follows = no_begin new seen follows

  -- ---- on its way to the border before the one that it unlinks
  module _ (u : Unlinking) (truth : StageIsTrue begun tidy.key tidy.way tidy.finding (Marked u) a w) (stands : stage_stands a w tidy.key tidy.way tidy.finding (Marked u)) (owned : Taken (Marked u)) where
    pub left_free : IsTaken a w u.node.0 → ⊥
    left_free taken = not_the_one u.node.0 u.border.0 (before_apart a begun w u (prefix_of tidy.key tidy.way) truth.0 truth.1) (owned u.node.0 taken)

    pub goes_left : (before : AtLock tidy.finding → ⊥) (part : Part) → Lends a u.node.0 (wants tidy.finding) part → LeftGoes a u.node (slice_rest u) u.slice (slice_back u.slice (slice_rest u) refl truth.0.fits) (untaken_alive a now w world u.node.0 left_free stands.1) (untaken_unlocked a now w world u.node.0 left_free) (seek_reading tidy.finding (slice_rest u) part)
    goes_left before part lent = left_goes a u.node (slice_rest u) u.slice (slice_back u.slice (slice_rest u) refl truth.0.fits) (untaken_alive a now w world u.node.0 left_free stands.1) (untaken_unlocked a now w world u.node.0 left_free)
        (held_may_visit a now w.twins w.chart begun u.node.0 u.slice (prefix_of tidy.key tidy.way) world.index truth.1).has_child tidy.finding before stands.2 part lent

    left_waits_not : (new : Tidy) → Follows a tidy (Marked u) Waits new → ⊥
    left_waits_not new (inl read) = go (seek_reading tidy.finding (slice_rest u) read.part) (goes_left read.before read.part read.lent) read.does.0
      where
        go : (reading : FindReading) → LeftGoes a u.node (slice_rest u) u.slice (slice_back u.slice (slice_rest u) refl truth.0.fits) (untaken_alive a now w world u.node.0 left_free stands.1) (untaken_unlocked a now w world u.node.0 left_free) reading → Waits ≡ approach_progress reading → ⊥
        go Restarts goes is = goes
        go Repeats goes is = goes
        go (GoesOn next) goes is = (let clash : Waits ≡ Moved = is in cc)
        go (To next) goes is = (let clash : Waits ≡ Moved = is in cc)
        go (Finds sight) goes is = goes
    left_waits_not new (inr (lock, looked)) = go (border_at a.nodes u.node.0) refl looked
      where
        by_both : (b : BorderView) → border_at a.nodes u.node.0 ≡ Some b → (deleted locked : Bool) → b.version.deleted ≡ deleted → b.version.locked ≡ locked → LocksLeftBy tidy u deleted locked Waits new → ⊥
        by_both b named true locked marked held does = not_marked a now w world u.node.0 left_free stands.1 (subst (λ (o : Option Node). IsSomeAnd o (λ node. is_marked node ≡ true)) (sym (node-from_border a.nodes u.node.0 b named)) marked)
        by_both b named false true alive held does = left_free (inl (subst (λ (x : Option Node). IsLocked x) (sym (node-from_border a.nodes u.node.0 b named)) held))
        by_both b named false false alive held does = (let clash : Waits ≡ Moved = does.0 in cc)

        go : (o : Option BorderView) → border_at a.nodes u.node.0 ≡ o → IsSomeAnd o (λ b. LocksLeftBy tidy u b.version.deleted b.version.locked Waits new) → ⊥
        go None named h = absurd h
        go (Some b) named h = by_both b named b.version.deleted b.version.locked refl refl h

  -- ---- at any stage
  stage_waits_not : (stage : Stage) (new : Tidy) → StageIsTrue begun tidy.key tidy.way tidy.finding stage a w → stage_stands a w tidy.key tidy.way tidy.finding stage → Taken stage → Follows a tidy stage Waits new → StageWaits a tidy stage Waits → ⊥
  stage_waits_not (Seeks noted) new truth stands owned follows why = seeks_not noted truth stands owned new (glanced tidy.finding (border_at a.nodes tidy.way.node.0) noted) (seek_reading tidy.finding (rest_of tidy.key tidy.way) follows.part) (goes_there noted truth stands owned Waits new follows) follows.does
  stage_waits_not (Marked u) new truth stands owned follows why = left_waits_not u truth stands owned new follows
  stage_waits_not _ new truth stands owned follows why = why

-- A TIDY WAITS FOR NOTHING if all that is taken is its own
pub lone_tidy_waits_not : (a : ArenaView) (now begun : ℕ) (w : World) (tidy new : Tidy) → IsWorld a now w → TidyIsTrue tidy begun a w → tidy_stands a w tidy → ((number : ℕ) → IsTaken a w number → Among number (tidy_held tidy).owns) → TidyFollows a tidy Waits new → TidyWaits a tidy Waits → ⊥
lone_tidy_waits_not a now begun w tidy new world truth stands owned follows why = stage_waits_not a now begun w world tidy tidy.stage new truth stands owned follows why
