-- What others' steps leave of each kind of call, and what each kind owns.
use Rattle.std.proofs.Common.{ℕ, ◌≡◌, List, [], ◌∷◌, Option, Some, None, sym, subst}
use Rattle.mt_types.specs.Rows.{shown}
use Rattle.mt_types.specs.declared.refusal.Refusal.{Refusal}
use Rattle.mt_types.specs.declared.event.Request.{Request}
use Rattle.mt_slice.specs.Place.{first_slice}
use Rattle.mt_commit.specs.Log.{LogView}
use Rattle.mt_arena.specs.Arena.{ArenaView}
use Rattle.mt_chart.specs.Tree.{Arena, Among}
use Rattle.mt_chart.specs.Chart.{Evolves}
use Rattle.mt_tree.specs.Seen.{arena_seen}
use Rattle.mt_works.specs.Build.{BuildView}
use Rattle.mt_works.proofs.ReadLemmas.{others_keep}
use Rattle.mt_steps.specs.declared.getting.Get.{Get}
use Rattle.mt_steps.proofs.GetStays.{get_stays}
use Rattle.mt_steps.proofs.ListStays.{keys_later, listing_stays, range_stays}
use Rattle.mt_steps.specs.Listing.{Listing}
use Rattle.mt_steps.specs.declared.ranging.Range.{Range}
use Rattle.mt_steps.specs.declared.progress.Progress.{Progress}
use Rattle.mt_steps.specs.declared.progress.Progress.TheVariants.{Refused}
use Rattle.mt_steps.specs.World.{World, IsWorld, IsTaken, IsSame, GoneSince, BordersAge}
use Rattle.mt_steps.specs.Step.{Held, Truth, StepLaw, StepLawIn, MayStep, MayStepIn, nothing}
use Rattle.mt_steps.specs.Getting.{GetIsTrue, get_request}
use Rattle.mt_steps.specs.Ranging.{range_request, RangeIsTrue}
use Rattle.mt_write.specs.declared.writing.Write.{Write}
use Rattle.mt_write.specs.Held.{write_request, write_held}
use Rattle.mt_write.specs.Writing.{WriteIsTrue}
use Rattle.mt_write.proofs.CauseLemmas.{stage_refused}
use Rattle.mt_write.proofs.WorkLemmas.{write_stays, write_taken}
use Rattle.mt_write.proofs.WriteLasts.{write_since}
use Rattle.mt_remove.specs.declared.tidy.Tidy.{Tidy}
use Rattle.mt_remove.specs.Tidy.{tidy_request, tidy_held, TidyTruth}
use Rattle.mt_remove.proofs.TidyLasts.{tidy_stays, tidy_taken, tidy_since}
use Rattle.mt_works.specs.declared.building.Building.{Building}
use Rattle.mt_works.specs.declared.work.Work.{Work}
use Rattle.mt_works.specs.declared.work.Work.TheVariants.{Get as GetWork, Write as WriteWork, Range as RangeWork, Tidy as TidyWork, Build as BuildWork}
use Rattle.mt_works.specs.Building.{building_request, BuildingIsTrue, BuildingLaw, ScansOn}
use Rattle.mt_works.specs.Causes.{WorkFails, WorkRefuses}
use Rattle.mt_works.specs.Works.{request_of, held, IsTrue, MayWork}

-- ---- a step of one kind is a step of a call
in_epoch : (now C : ℕ) (a after : ArenaView) (log left : LogView) (request : Request) (held : Held) (p : Progress) (then : Held) (True Then : Truth) → StepLaw C a after log left request held p then True Then → StepLawIn now C a after log left request held p then True Then
in_epoch now C a after log left request held p then True Then law = record { steps = law.steps now }

pub step_get : (now C : ℕ) (a after : ArenaView) (log left : LogView) (work : Work) (get : Get) (p : Progress) (then : Held) (Then : Truth) → work ≡ GetWork get → StepLaw C a after log left (get_request get) nothing p then (GetIsTrue get) Then
    → StepLawIn now C a after log left (request_of work) (held work) p then (IsTrue C work) Then
step_get now C a after log left work get p then Then is law = subst (λ (x : Work). StepLawIn now C a after log left (request_of x) (held x) p then (IsTrue C x) Then) (sym is) (in_epoch now C a after log left (get_request get) nothing p then (GetIsTrue get) Then law)

pub step_write : (now C : ℕ) (a after : ArenaView) (log left : LogView) (work : Work) (write : Write) (p : Progress) (then : Held) (Then : Truth) → work ≡ WriteWork write → StepLaw C a after log left (write_request write) (write_held write) p then (WriteIsTrue C write) Then
    → StepLawIn now C a after log left (request_of work) (held work) p then (IsTrue C work) Then
step_write now C a after log left work write p then Then is law = subst (λ (x : Work). StepLawIn now C a after log left (request_of x) (held x) p then (IsTrue C x) Then) (sym is) (in_epoch now C a after log left (write_request write) (write_held write) p then (WriteIsTrue C write) Then law)

pub step_range : (now C : ℕ) (a after : ArenaView) (log left : LogView) (work : Work) (range : Range) (p : Progress) (then : Held) (Then : Truth) → work ≡ RangeWork range → StepLaw C a after log left (range_request range) nothing p then (RangeIsTrue range) Then
    → StepLawIn now C a after log left (request_of work) (held work) p then (IsTrue C work) Then
step_range now C a after log left work range p then Then is law = subst (λ (x : Work). StepLawIn now C a after log left (request_of x) (held x) p then (IsTrue C x) Then) (sym is) (in_epoch now C a after log left (range_request range) nothing p then (RangeIsTrue range) Then law)

pub step_tidy : (now C : ℕ) (a after : ArenaView) (log left : LogView) (work : Work) (tidy : Tidy) (p : Progress) (then : Held) (Then : Truth) → work ≡ TidyWork tidy → StepLawIn now C a after log left (tidy_request tidy) (tidy_held tidy) p then (TidyTruth tidy) Then
    → StepLawIn now C a after log left (request_of work) (held work) p then (IsTrue C work) Then
step_tidy now C a after log left work tidy p then Then is law = subst (λ (x : Work). StepLawIn now C a after log left (request_of x) (held x) p then (IsTrue C x) Then) (sym is) law

pub step_build : (now C : ℕ) (a : ArenaView) (log : LogView) (work : Work) (building : Building) (p : Progress) (new : Building) → work ≡ BuildWork building → BuildingLaw C a log building p new
    → StepLawIn now C a a log log (request_of work) (held work) p nothing (IsTrue C work) (BuildingIsTrue new)
step_build now C a log work building p new is law = subst (λ (x : Work). StepLawIn now C a a log log (request_of x) (held x) p nothing (IsTrue C x) (BuildingIsTrue new)) (sym is) (in_epoch now C a a log log (building_request building) nothing p nothing (BuildingIsTrue building) (BuildingIsTrue new) law)

-- ---- what a step asks, of each kind
may_step : (now C : ℕ) (a : ArenaView) (log : LogView) (work : Work) → MayWork now C a log work → MayStep a log (held work) (IsTrue C work)
may_step now C a log work m = record { now = now; begun = m.begun; moves = m.moves; past = m.past; w = m.w; world = m.world; true = m.true; room = m.room }

pub may_get : (now C : ℕ) (a : ArenaView) (log : LogView) (work : Work) (get : Get) → work ≡ GetWork get → MayWork now C a log work → MayStep a log nothing (GetIsTrue get)
may_get now C a log work get is m = subst (λ (x : Work). MayStep a log (held x) (IsTrue C x)) is (may_step now C a log work m)

pub may_write : (now C : ℕ) (a : ArenaView) (log : LogView) (work : Work) (write : Write) → work ≡ WriteWork write → MayWork now C a log work → MayStep a log (write_held write) (WriteIsTrue C write)
may_write now C a log work write is m = subst (λ (x : Work). MayStep a log (held x) (IsTrue C x)) is (may_step now C a log work m)

pub may_range : (now C : ℕ) (a : ArenaView) (log : LogView) (work : Work) (range : Range) → work ≡ RangeWork range → MayWork now C a log work → MayStep a log nothing (RangeIsTrue range)
may_range now C a log work range is m = subst (λ (x : Work). MayStep a log (held x) (IsTrue C x)) is (may_step now C a log work m)

pub may_tidy : (now C : ℕ) (a : ArenaView) (log : LogView) (work : Work) (tidy : Tidy) → work ≡ TidyWork tidy → MayWork now C a log work → MayStepIn now a (TidyTruth tidy)
may_tidy now C a log work tidy is m = record {
  begun = m.begun;
  moves = m.moves;
  past = m.past;
  w = m.w;
  world = m.world;
  true = subst (λ (x : Work). IsTrue C x m.begun m.moves m.past a m.w) is m.true;
}

-- ---- what others' steps leave
-- the law of others' steps: if they don't change what a call owns, and each border ages, what is true of it stays true
module _ (a after : ArenaView) (w next : World) (C begun moves : ℕ) (past : List Arena) (evolves : Evolves begun w.chart next.chart) where
  scan_stays : (now : ℕ) → IsWorld after now next → BordersAge a after w next → (upto : Option ℕ) (build : BuildView) (number : ℕ) (listing : Listing) → ScansOn upto build number listing begun past a w → ScansOn upto build number listing begun (arena_seen a ∷ past) after next
  scan_stays now world age None build number listing truth = record {
    scans = others_keep w.chart next.chart begun number (arena_seen after) (arena_seen a ∷ past) build evolves truth.scans;
    keys = keys_later after now next world (arena_seen a ∷ past) truth.keys;
    reads = listing_stays (shown []) a after now w next world age begun evolves build.prefix (first_slice build.at) number past listing truth.reads;
  }
  scan_stays now world age (Some upto) build number listing truth = tt

  pub stays : (now : ℕ) → IsWorld after now next → BordersAge a after w next → (work : Work) → ((number : ℕ) → Among number (held work).owns → IsSame a after w next number) → IsTrue C work begun moves past a w → IsTrue C work begun moves (arena_seen a ∷ past) after next
  stays now world age (GetWork get) same truth = get_stays a after now w next world age begun moves evolves past get truth
  stays now world age (WriteWork write) same truth = write_stays a after w next C begun moves past evolves write same truth
  stays now world age (RangeWork range) same truth = range_stays a after now w next world age begun moves evolves past range truth
  stays now world age (TidyWork tidy) same truth = tidy_stays a after now w next world age begun evolves tidy same truth
  stays now world age (BuildWork building) same truth = scan_stays now world age building.upto building.build building.node.0 building.listing truth

-- ---- what a call owns is taken
pub owned_taken : (C begun moves : ℕ) (past : List Arena) (a : ArenaView) (w : World) (work : Work) → IsTrue C work begun moves past a w → (number : ℕ) → Among number (held work).owns → IsTaken a w number
owned_taken C begun moves past a w (GetWork get) truth number i = elim i [ ]
owned_taken C begun moves past a w (WriteWork write) truth number i = write_taken C begun moves past a w write truth number i
owned_taken C begun moves past a w (RangeWork range) truth number i = elim i [ ]
owned_taken C begun moves past a w (TidyWork tidy) truth number i = tidy_taken a w begun tidy truth number i
owned_taken C begun moves past a w (BuildWork building) truth number i = elim i [ ]

-- ---- an interior that a call owns, and that is gone, went since its begin
pub owned_since : (C begun moves : ℕ) (past : List Arena) (a : ArenaView) (now : ℕ) (w : World) → IsWorld a now w → (work : Work) → IsTrue C work begun moves past a w → GoneSince begun w (held work).owns
owned_since C begun moves past a now w world (GetWork get) truth = λ number i. elim i [ ]
owned_since C begun moves past a now w world (WriteWork write) truth = write_since C a now begun w world write moves past truth
owned_since C begun moves past a now w world (RangeWork range) truth = λ number i. elim i [ ]
owned_since C begun moves past a now w world (TidyWork tidy) truth = tidy_since a w begun now world tidy truth
owned_since C begun moves past a now w world (BuildWork building) truth = λ number i. elim i [ ]

-- ---- a call is refused for what it had failed for
pub refused_for : (a : ArenaView) (log : LogView) (work : Work) (refusal : Refusal) (new : Work) → WorkFails a log work (Refused refusal) new → WorkRefuses a work refusal
refused_for a log (GetWork get) refusal new fails = fails
refused_for a log (RangeWork range) refusal new fails = fails
refused_for a log (TidyWork tidy) refusal new fails = absurd fails
refused_for a log (BuildWork building) refusal new fails = fails
refused_for a log (WriteWork write) refusal (WriteWork new) fails = stage_refused a log write.key write.edit write.way write.stage refusal new.stage fails
refused_for a log (WriteWork write) refusal (GetWork new) fails = absurd fails
refused_for a log (WriteWork write) refusal (RangeWork new) fails = absurd fails
refused_for a log (WriteWork write) refusal (TidyWork new) fails = absurd fails
refused_for a log (WriteWork write) refusal (BuildWork new) fails = absurd fails
