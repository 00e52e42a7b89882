-- Of each kind of call that runs alone: it waits nowhere, and each step brings it nearer to its end.
use Rattle.std.proofs.Common.{ℕ, ◌≡◌, ◌≤◌, ◌<◌, List, Option, Some, None, inl, inr, refl, sym, ap, subst, ◌∙◌, arith}
use Rattle.std.proofs.lemmas.Bool.{cases_lt}
use Rattle.mt_commit.specs.Log.{LogView, newest}
use Rattle.mt_view.specs.State.{StateView}
use Rattle.mt_arena.specs.Arena.{ArenaView}
use Rattle.mt_chart.specs.Tree.{Arena}
use Rattle.mt_steps.specs.declared.way.Way.{Way}
use Rattle.mt_steps.specs.declared.getting.Get.{Get}
use Rattle.mt_steps.specs.declared.ranging.Range.{Range}
use Rattle.mt_steps.specs.declared.progress.Progress.TheVariants.{Moved}
use Rattle.mt_steps.specs.World.{World, IsWorld, IsTaken}
use Rattle.mt_steps.specs.Getting.{GetIsTrue, GetFollows}
use Rattle.mt_steps.specs.Ranging.{RangeIsTrue, RangeReads}
use Rattle.mt_steps.proofs.LoneGet.{GetStands, get_left, lone_get_nearer}
use Rattle.mt_steps.proofs.LoneRange.{RangeStands, range_left, lone_range_nearer}
use Rattle.mt_steps.proofs.LoneWay.{IsOnThere}
use Rattle.mt_works.specs.declared.building.Building.{Building}
use Rattle.mt_works.specs.Building.{GoesOn, BuildsOn, BuildFollows, FollowsBy, BuildingIsTrue, IsBuilt, IsUpTo}
use Rattle.mt_works.specs.Works.{IsKey}
use Rattle.mt_works.proofs.LoneBuild.{build_stands, build_left, HasToTake, lone_build_nearer}

-- the charts are the same, number by number
abbrev pub SameCharts : World → World → Type 0
SameCharts w next = (number : ℕ) → next.chart number ≡ w.chart number

-- ---- a get
on_there_still : (w next : World) (key : List ℕ) (way : Way) → SameCharts w next → IsOnThere w key way → IsOnThere next key way
on_there_still w next key way same there = record { posted = there.posted; role = there.role; low = there.low; place = same way.node.0 ∙ there.place }

pub get_nearer : (a after : ArenaView) (now begun moves : ℕ) (past : List Arena) (w next : World) (get new : Get) → IsWorld a now w → GetIsTrue get begun moves past a w → GetStands a w get → ((n : ℕ) → IsTaken a w n → ⊥) → IsKey get.key
    → GetFollows a get Moved new → after ≡ a → SameCharts w next → GetStands after next new × (get_left after new < get_left a get)
get_nearer a after now begun moves past w next get new world truth stands free key follows same_tree same =
    let (there, falls) = lone_get_nearer a now begun moves past w get new world truth stands free key.0 key.1 follows in (
      subst (λ (x : ArenaView). GetStands x next new) (sym same_tree) (record { there = on_there_still w next new.key new.way same there.there; noted = there.noted }),
      subst (λ (x : ArenaView). get_left x new < get_left a get) (sym same_tree) falls,
    )

-- ---- a range
pub range_nearer : (a after : ArenaView) (now begun moves then made : ℕ) (past since : List Arena) (w next : World) (range new : Range) → IsWorld a now w → RangeIsTrue range begun moves past a w → RangeStands a w range → ((n : ℕ) → IsTaken a w n → ⊥)
    → RangeReads a range Moved new → after ≡ a → SameCharts w next → RangeIsTrue new then made since after next
    → RangeStands after next new × (range_left after new < range_left a range)
range_nearer a after now begun moves then made past since w next range new world truth stands free follows same_tree same true_then =
    let (there, falls) = lone_range_nearer a now begun moves past w range new world truth stands free next same then made since follows (subst (λ (x : ArenaView). RangeIsTrue new then made since x next) same_tree true_then) in (
      subst (λ (x : ArenaView). RangeStands x next new) (sym same_tree) there,
      subst (λ (x : ArenaView). range_left x new < range_left a range) (sym same_tree) falls,
    )

-- ---- a build
-- at how many commits it is: while it scans, at most as many as there are; then, at most as many as it is to reach
abbrev pub StandsWithin : Option ℕ → ℕ → ℕ → Type 0
StandsWithin None at commits = at ≤ commits
StandsWithin (Some upto) at commits = at ≤ upto

abbrev pub lone_build_stands : ArenaView → ℕ → World → Building → Type 0
lone_build_stands a commits w building = build_stands a w building × StandsWithin building.upto building.build.state.at commits

to_take : (upto : Option ℕ) (at commits : ℕ) → StandsWithin upto at commits → (IsUpTo upto at → ⊥) → HasToTake upto at
to_take None at commits within unbuilt = tt
to_take (Some upto) at commits within unbuilt = not_there at upto within unbuilt
  where
    not_there : (n m : ℕ) → n ≤ m → (n ≡ m → ⊥) → n < m
    not_there n m less differ = elim (cases_lt n m) [ inl below ↦ below | inr above ↦ absurd (differ (omega (arith, less, above))) ]

build_within : (a : ArenaView) (log left : LogView) (old new : Building) (upto later : Option ℕ) → new.upto ≡ later → GoesOn a log upto old.build old.node.0 old.listing later new.build → FollowsBy a log upto old Moved new
    → HasToTake upto old.build.state.at → StandsWithin upto old.build.state.at (newest log) → newest left ≡ newest log → StandsWithin later new.build.state.at (newest left)
build_within a log left old new None None is keeps reads has within quiet = let at : new.build.state.at ≡ old.build.state.at = ap (λ (s : StateView). s.at) keeps in omega (arith, at, within, quiet)
build_within a log left old new None (Some upto) is (all_of, keeps, all) reads has within quiet = let at : new.build.state.at ≡ old.build.state.at = ap (λ (s : StateView). s.at) keeps in omega (arith, at, within, all_of)
build_within a log left old new (Some upto) None is goes takes has within quiet = absurd (let clash : ◌≡◌ {A = Option ℕ} None (Some upto) = sym is ∙ takes.0 in cc)
build_within a log left old new (Some upto) (Some other) is goes (still, at) has within quiet =
    let same : other ≡ upto = (let both : ◌≡◌ {A = Option ℕ} (Some other) (Some upto) = sym is ∙ still in cc) in omega (arith, same, at, has)

pub build_nearer : (a after : ArenaView) (log left : LogView) (now begun moves then made : ℕ) (past since : List Arena) (w next : World) (old new : Building) → IsWorld a now w → BuildingIsTrue old begun moves past a w
    → lone_build_stands a (newest log) w old → ((n : ℕ) → IsTaken a w n → ⊥) → (IsBuilt old → ⊥) → BuildsOn a log old Moved new → BuildFollows a log old Moved new → after ≡ a → SameCharts w next → newest left ≡ newest log → BuildingIsTrue new then made since after next
    → lone_build_stands after (newest left) next new × (build_left after (newest left) new < build_left a (newest log) old)
build_nearer a after log left now begun moves then made past since w next old new world truth (stands, within) free unbuilt builds follows same_tree same quiet true_then =
    let has = to_take old.upto old.build.state.at (newest log) within unbuilt in
    let (further, falls) = lone_build_nearer a log now begun moves past w old new world truth stands free follows has next same then made since (subst (λ (x : ArenaView). BuildingIsTrue new then made since x next) same_tree true_then) in (
      (subst (λ (x : ArenaView). build_stands x next new) (sym same_tree) further, build_within a log left old new old.upto new.upto refl builds follows has within quiet),
      subst (λ (x : ArenaView). build_left x (newest left) new < build_left a (newest log) old) (sym same_tree) (subst (λ (n : ℕ). build_left a n new < build_left a (newest log) old) (sym quiet) falls),
    )
