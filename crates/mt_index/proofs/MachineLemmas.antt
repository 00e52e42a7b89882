-- What the functions of the machine do to its fields, as the specifications of its events state it.
use Rattle.std.proofs.Common.{ℕ, ◌≡◌, ◌≤◌, ◌<◌, ◌+◌, ◌⊎◌, inl, inr, length, true, cond, List, Option, Some, None, refl, sym, ap, subst, ◌∙◌, arith}
use Rattle.std.specs.Option.{option_map}
use Rattle.mt_types.specs.Numbers.{greatest_number}
use Rattle.mt_types.specs.Limits.{key_fault, request_fault}
use Rattle.mt_types.specs.declared.event.Request.{Request}
use Rattle.mt_types.specs.declared.event.Request.TheVariants.{Get as GetRequest, Put as PutRequest, PutIf as PutIfRequest, Remove as RemoveRequest, Range as RangeRequest, Tidy as TidyRequest, Build as BuildRequest}
use Rattle.mt_types.specs.declared.event.Outcome.{Outcome}
use Rattle.mt_types.specs.declared.event.Outcome.TheVariants.{Applied, Current, Dropped, Refused}
use Rattle.mt_types.specs.declared.refusal.Refusal.{Refusal}
use Rattle.mt_types.specs.declared.refusal.Refusal.TheVariants.{NoMemory, Spent}
use Rattle.mt_promise.specs.History.{History, moment, view_of}
use Rattle.mt_promise.proofs.RowLimits.{neither_of, key_fits}
use Rattle.mt_commit.specs.Log.{LogView, IsLog, newest, delta_of, trimmed}
use Rattle.mt_commit.specs.Laws.{times_held}
use Rattle.mt_commit.specs.Holders.{with_holder, without_holder}
use Rattle.mt_view.specs.State.{StateView}
use Rattle.mt_view.specs.Views.{ViewsView, Rises, standing, state_at, without}
use Rattle.mt_view.proofs.StandingLemmas.{view-of-state}
use Rattle.std.specs.Prelude.{Result, Ok, Err, IfOk, IfErr, OnOk, OnErr}
use Rattle.mt_promise.specs.Legal.{is_build as is_build_request, reads_log}
use Rattle.mt_works.specs.declared.work.Work.{Work}
use Rattle.mt_works.specs.declared.work.Work.TheVariants.{Build as BuildWork}
use Rattle.mt_works.specs.declared.building.Building.{Building}
use Rattle.mt_works.specs.Building.{IsUpTo}
use Rattle.mt_works.specs.Works.{request_of, KeyFits, IsBuiltWork}
use Rattle.mt_index.specs.declared.calls.Call.{Call}
use Rattle.mt_index.specs.Calls.{CallsView, IsBuiltCall, call_at, without as without_call}
use Rattle.mt_index.specs.Viewing.{TakesView, CopiesView, ListsViews}
use Rattle.mt_index.specs.Stands.{MachineView, CallStands, Stands, Applies, Drops, EndsBuild, HasBounds, built_outcome, meant_number, with_view, vacated}
use Rattle.mt_index.proofs.ListLemmas.{total_without}
use Rattle.mt_index.proofs.PairedLemmas.{paired-some, paired-length}
use Rattle.mt_index.proofs.OpenLemmas.{few_open}
use Rattle.mt_index.proofs.LogStands.{reader_counts}
use Rattle.mt_index.proofs.ViewStands.{builds_of, exact_at}
use Rattle.mt_index.proofs.StepStands.{held_before, builds_before}
use Rattle.mt_index.proofs.EventStands.{few_hold, held_reaches}
use Rattle.mt_index.proofs.LaterStands.{seen}
use Rattle.mt_index.proofs.ViewEvents.{exact_now}
use Rattle.mt_index.proofs.ApplyStands.{meant_state}

-- a request that breaks no limit has a key that is not too long
pub key_fits_in : (C : ℕ) (request : Request) → request_fault C request ≡ None → KeyFits request
key_fits_in C (GetRequest key columns) none = key_fits key (neither_of (key_fault key) _ none).0
key_fits_in C (PutRequest key sets) none = key_fits key (neither_of (key_fault key) _ none).0
key_fits_in C (PutIfRequest key sets version) none = key_fits key (neither_of (key_fault key) _ none).0
key_fits_in C (RemoveRequest key) none = key_fits key none
key_fits_in C (RangeRequest start limit columns) none = key_fits start (neither_of (key_fault start) _ none).0
key_fits_in C (TidyRequest key) none = key_fits key none
key_fits_in C (BuildRequest spec) none = tt

-- if a view exists, it has a state
pub state_there : (o : Option StateView) (at : ℕ) → option_map (λ (s : StateView). s.at) o ≡ Some at → (state : StateView) × (o ≡ Some state) × (state.at ≡ at)
state_there None at is = absurd (let clash : ◌≡◌ {A = Option ℕ} None (Some at) = is in cc)
state_there (Some state) at is = (state, refl, let both : ◌≡◌ {A = Option ℕ} (Some state.at) (Some at) = is in cc)

pub no_state : (o : Option StateView) → option_map (λ (s : StateView). s.at) o ≡ None → o ≡ None
no_state None is = refl
no_state (Some state) is = absurd (let clash : ◌≡◌ {A = Option ℕ} (Some state.at) None = is in cc)

-- the view that is meant exists
pub meant_found : (s : MachineView) (h : History) → Stands s h → (asked number : ℕ) → meant_number s asked ≡ Some number → state_at number s.views.views ≡ None → ⊥
meant_found s h st asked number meant none =
    let (state, there) = meant_state asked number s.views.built s.views.views st.views.rises meant in
    let clash : ◌≡◌ {A = Option StateView} (Some state) None = sym there ∙ none in cc

-- so few hold the log that one more may
pub room_to_pin : (s : MachineView) (h : History) → Stands s h → length s.log.holders < 18446744073709551615
room_to_pin s h st =
    let few = few_hold s h st in
    let views = st.views.few in
    let open_calls = few_open s.columns h st.legal in
    let all = paired-length (CallStands s.columns s.epoch s.tree st.w h) 0 s.calls.begun s.calls.calls (moment h).calls st.calls in
    omega (arith, few, views, open_calls, all)

-- ---- a copy
pub copies_view : (s : MachineView) (h : History) (st : Stands s h) (number : ℕ) (state : StateView) → state_at number s.views.views ≡ Some state → CopiesView s.columns (moment h) number state
copies_view s h st number state there = record {
  view = standing (number, state);
  there = ap (view_of number) st.views.standing ∙ view-of-state number s.views.views state there;
  is_its = (exact_at s.columns (moment h) number state s.views.views st.views.exact there).state;
}

pub lists_views : (s : MachineView) (h : History) (st : Stands s h) (listed : List (ℕ × StateView)) → listed ≡ s.views.views → ListsViews s.columns (moment h) listed
lists_views s h st listed are = subst (λ (views : List (ℕ × StateView)). ListsViews s.columns (moment h) views) (sym are) (record {
  standing = st.views.standing;
  exact = st.views.exact;
  rises = subst (λ (built : ℕ). Rises 0 built s.views.views) st.views.built st.views.rises;
})

-- ---- a drop
pub drops_view : (s : MachineView) (view at : ℕ) (unpinned left : LogView) (kept : ViewsView) → option_map (λ (st : StateView). st.at) (state_at view s.views.views) ≡ Some at → unpinned ≡ record s.log { holders = without_holder at s.log.holders } → IsLog unpinned → left ≡ trimmed unpinned
    → kept ≡ record s.views { views = without view s.views.views } → Drops s view Dropped (seen s.columns s.epoch s.tree left s.calls kept)
drops_view s view at unpinned left kept there is sound done views =
    let (state, found, at_is) = state_there (state_at view s.views.views) at there in
    inr (record {
      state = state;
      there = found;
      holders = without_holder state.at s.log.holders;
      are = refl;
      sound = subst IsLog (is ∙ ap (λ (n : ℕ). record s.log { holders = without_holder n s.log.holders }) (sym at_is)) sound;
      is_outcome = refl;
      is_next = ap (λ (l : LogView). seen s.columns s.epoch s.tree l s.calls kept) (done ∙ ap trimmed (is ∙ ap (λ (n : ℕ). record s.log { holders = without_holder n s.log.holders }) (sym at_is)))
          ∙ ap (seen s.columns s.epoch s.tree (trimmed (record s.log { holders = without_holder state.at s.log.holders })) s.calls) views;
    })

-- ---- an apply
pub takes_on : (s : MachineView) (asked number at : ℕ) (moved left : LogView) (kept : ViewsView) → meant_number s asked ≡ Some number → option_map (λ (st : StateView). st.at) (state_at number s.views.views) ≡ Some at → at < newest s.log
    → moved ≡ record s.log { holders = without_holder at (with_holder (at + 1) s.log.holders) } → IsLog moved → left ≡ trimmed moved → ((state : StateView) → state_at number s.views.views ≡ Some state → TakesView number at s.log s.views state kept)
    → Applies s asked (Applied (at + 1)) (seen s.columns s.epoch s.tree left s.calls kept)
takes_on s asked number at moved left kept meant there behind is sound done views =
    let (state, found, at_is) = state_there (state_at number s.views.views) at there in
    let taken = views state found in
    subst (λ (n : ℕ). Applies s asked (Applied (n + 1)) (seen s.columns s.epoch s.tree left s.calls kept)) at_is
    (inr (record {
      number = number;
      state = state;
      meant = meant;
      there = found;
      comes = inr (inr (record {
        behind = omega (arith, behind, at_is);
        delta = taken.delta;
        is_delta = ap (λ (n : ℕ). delta_of s.log (n + 1)) at_is ∙ taken.is_delta;
        holders = without_holder state.at (with_holder (state.at + 1) s.log.holders);
        are = refl;
        sound = subst IsLog (is ∙ ap (λ (n : ℕ). record s.log { holders = without_holder n (with_holder (n + 1) s.log.holders) }) (sym at_is)) sound;
        is_outcome = refl;
        is_next = ap (λ (l : LogView). seen s.columns s.epoch s.tree l s.calls kept) (done ∙ ap trimmed (is ∙ ap (λ (n : ℕ). record s.log { holders = without_holder n (with_holder (n + 1) s.log.holders) }) (sym at_is)))
            ∙ ap (seen s.columns s.epoch s.tree (trimmed (record s.log { holders = without_holder state.at (with_holder (state.at + 1) s.log.holders) })) s.calls) taken.taken;
      }));
    }))

pub is_current : (s : MachineView) (asked number at : ℕ) → meant_number s asked ≡ Some number → option_map (λ (st : StateView). st.at) (state_at number s.views.views) ≡ Some at → newest s.log ≤ at → Applies s asked Current s
is_current s asked number at meant there up =
    let (state, found, at_is) = state_there (state_at number s.views.views) at there in
    inr (record { number = number; state = state; meant = meant; there = found; comes = inl (omega (arith, up, at_is), refl, refl) })

pub lacks_memory : (s t : MachineView) (asked number at : ℕ) → meant_number s asked ≡ Some number → option_map (λ (st : StateView). st.at) (state_at number s.views.views) ≡ Some at → at < newest s.log → t ≡ s → Applies s asked (Refused NoMemory) t
lacks_memory s t asked number at meant there behind same =
    let (state, found, at_is) = state_there (state_at number s.views.views) at there in
    inr (record { number = number; state = state; meant = meant; there = found; comes = inr (inl (omega (arith, behind, at_is), refl, same)) })

-- ---- the end of a build
module _ (s : MachineView) (h : History) (st : Stands s h) (number : ℕ) (call : Call) (building : Building) (at : call_at number s.calls.calls ≡ Some call) (is_build : call.work ≡ BuildWork building) (is_built : IsUpTo building.upto building.build.state.at) where
  pub build_place : 0 < s.views.building
  build_place =
      let all = builds_before s h st in
      let rest = total_without number call builds_of s.calls.calls at in
      let one : builds_of call ≡ 1 = ap (λ (w : Work). cond (is_build_request (request_of w)) 1 0) is_build in
      omega (arith, all, rest, one)

  pub build_held : 0 < times_held call.from s.log.holders
  build_held = reader_counts number _ call s.calls.calls s.log.holders at (held_before s h st call.from) (ap (λ (w : Work). reads_log (request_of w)) is_build)

  pub build_within : (s.log.held_after ≤ building.build.state.at) × (building.build.state.at ≤ newest s.log)
  build_within =
      let low = held_reaches s h st number call at (ap (λ (w : Work). reads_log (request_of w)) is_build) in
      let f = paired-some (CallStands s.columns s.epoch s.tree st.w h) 0 s.calls.begun number s.calls.calls (moment h).calls call st.calls at in
      let same = f.related.from in
      let (since, within, fresh) = exact_now s h st number call building at is_build is_built in
      let all = st.commits in
      (omega (arith, low, same, since), omega (arith, within, all))

-- by whether its view was opened
pub ends_build : (s : MachineView) (number from : ℕ) (call : Call) (building : Building) (state : StateView) (opened : Result ℕ Refusal) (closed left : LogView) (calls : CallsView) (kept : ViewsView) → call_at number s.calls.calls ≡ Some call → call.work ≡ BuildWork building → IsUpTo building.upto building.build.state.at → state ≡ building.build.state → from ≡ call.from
    → IfOk opened (λ view. view ≡ s.views.built + 1) → OnOk opened (s.views.built < greatest_number) → OnOk opened (closed ≡ record s.log { holders = without_holder from (with_holder state.at s.log.holders) }) → OnOk opened (kept ≡ with_view state s.views)
    → OnErr opened (closed ≡ record s.log { holders = without_holder from s.log.holders }) → OnErr opened (kept ≡ vacated true s.views) → IfErr opened (λ refusal. (refusal ≡ NoMemory) ⊎ ((refusal ≡ Spent) × (greatest_number ≤ s.views.built)))
    → IsLog closed → left ≡ trimmed closed → calls ≡ record s.calls { calls = without_call number s.calls.calls }
    → EndsBuild s number (built_outcome call.pass number from (newest s.log) opened) (seen s.columns s.epoch s.tree left calls kept)
ends_build s number from call building state (Ok view) closed left calls kept at is_build is_built state_is from_is view_is unspent log views err_log err_views why sound done ended =
    let log_is : closed ≡ record s.log { holders = without_holder call.from (with_holder building.build.state.at s.log.holders) } =
    log ∙ ap (λ (n : ℕ). record s.log { holders = without_holder n (with_holder state.at s.log.holders) }) from_is ∙ ap (λ (z : StateView). record s.log { holders = without_holder call.from (with_holder z.at s.log.holders) }) state_is in
    record {
      call = call;
      building = building;
      is_open = at;
      is_build = is_build;
      is_built = is_built;
      comes = inl (record {
        holders = without_holder call.from (with_holder building.build.state.at s.log.holders);
        are = refl;
        sound = subst IsLog log_is sound;
        unspent = unspent;
        is_outcome = ap (λ (n : ℕ). built_outcome call.pass number n (newest s.log) (Ok view)) from_is ∙ ap (λ (v : ℕ). built_outcome call.pass number call.from (newest s.log) (Ok v)) view_is;
        is_next = ap (λ (l : LogView). seen s.columns s.epoch s.tree l calls kept) (done ∙ ap trimmed log_is)
            ∙ ap (λ (c : CallsView). seen s.columns s.epoch s.tree (trimmed (record s.log { holders = without_holder call.from (with_holder building.build.state.at s.log.holders) })) c kept) ended
            ∙ ap (seen s.columns s.epoch s.tree (trimmed (record s.log { holders = without_holder call.from (with_holder building.build.state.at s.log.holders) })) (record s.calls { calls = without_call number s.calls.calls })) (views ∙ ap (λ (z : StateView). with_view z s.views) state_is);
      });
    }
ends_build s number from call building state (Err refusal) closed left calls kept at is_build is_built state_is from_is view_is unspent log views err_log err_views why sound done ended =
    let log_is : closed ≡ record s.log { holders = without_holder call.from s.log.holders } = err_log ∙ ap (λ (n : ℕ). record s.log { holders = without_holder n s.log.holders }) from_is in
    record {
      call = call;
      building = building;
      is_open = at;
      is_build = is_build;
      is_built = is_built;
      comes = inr (record {
        refusal = refusal;
        why = why;
        holders = without_holder call.from s.log.holders;
        are = refl;
        sound = subst IsLog log_is sound;
        is_outcome = refl;
        is_next = ap (λ (l : LogView). seen s.columns s.epoch s.tree l calls kept) (done ∙ ap trimmed log_is)
            ∙ ap (λ (c : CallsView). seen s.columns s.epoch s.tree (trimmed (record s.log { holders = without_holder call.from s.log.holders })) c kept) ended
            ∙ ap (seen s.columns s.epoch s.tree (trimmed (record s.log { holders = without_holder call.from s.log.holders })) (record s.calls { calls = without_call number s.calls.calls })) err_views;
      });
    }

-- ---- how much the log may hold
pub bounds_kept : (s t : MachineView) (number : ℕ) (outcome : Outcome) → EndsBuild s number outcome t → HasBounds s.log.capacity s.log.retention t.log
bounds_kept s t number outcome ends = elim ends.comes [
  | inl o ↦ subst (λ (m : MachineView). HasBounds s.log.capacity s.log.retention m.log) (sym o.is_next) (refl, refl)
  | inr o ↦ subst (λ (m : MachineView). HasBounds s.log.capacity s.log.retention m.log) (sym o.is_next) (refl, refl)
]

-- ---- begins and steps
pub is_built_of : (o : Option Call) (call : Call) (building : Building) → o ≡ Some call → call.work ≡ BuildWork building → IsBuiltCall o → IsUpTo building.upto building.build.state.at
is_built_of o call building is work built = subst IsBuiltWork work (subst IsBuiltCall is built)
