-- What has happened: events with their outcomes, and what can be read off them.
--     A history is kept newest first, so a moment of it is an end of the list: what had happened by then.
use Rattle.std.specs.Prelude.{ℕ, ◌+◌, ◌==◌, ◌≡◌, ◌≤◌, ◌⊎◌, nat_lt, not, if◌then◌else◌, List, [], ◌∷◌, ◌++◌, map, length, filter, find, Option, Some, None}
use Rattle.mt_types.specs.declared.event.Event.{Event}
use Rattle.mt_types.specs.declared.event.Event.TheVariants.{Begin, Step, Apply, ViewRead, ViewDrop, Advance, Collect}
use Rattle.mt_types.specs.declared.event.Outcome.{Outcome}
use Rattle.mt_types.specs.declared.event.Outcome.TheVariants.{Call, Moved, Again, Commit, Done, Applied, Dropped, Epoch, Refused}
use Rattle.mt_types.specs.declared.event.Request.{Request}
use Rattle.mt_types.specs.declared.event.Request.TheVariants.{Get, Put as PutRequest, PutIf, Remove, Range, Tidy, Build}
use Rattle.mt_types.specs.declared.event.Answer.{Answer}
use Rattle.mt_types.specs.declared.event.Answer.TheVariants.{Built}
use Rattle.mt_types.specs.declared.row.Change.{Change}
use Rattle.mt_types.specs.declared.row.Change.TheVariants.{Put, Drop}
use Rattle.mt_types.specs.declared.view.ViewSpec.{ViewSpec}
use Rattle.mt_types.specs.Rows.{Rows, after}

-- An event and its outcome. If the outcome is a new view, opens is the number of commits at which the view opens;
--     otherwise it says nothing.
pub record Happening : Type 0 where
  pub event : Event
  pub outcome : Outcome
  pub opens : ℕ

abbrev pub happening : Event → Outcome → ℕ → Happening
happening event outcome opens = record { event = event; outcome = outcome; opens = opens }

abbrev pub History : Type 0
History = List Happening

-- a call that has begun and has not ended
pub record OpenCall : Type 0 where
  pub number : ℕ
  pub pass : ℕ
  pub request : Request
  pub began : ℕ  -- how much had happened when it began
  pub from : ℕ  -- how many commits there were
  pub committed : Option ℕ  -- the number of its commit
  pub moves : ℕ  -- how often in a row its last steps answered Moved

-- a view at a number of commits
pub record StandingView : Type 0 where
  pub number : ℕ
  pub spec : ViewSpec
  pub at : ℕ

-- what can be read off a history at its end
pub record Moment : Type 0 where
  pub happened : ℕ
  pub commits : List Change  -- the oldest first
  pub begun : ℕ  -- how many calls have begun
  pub calls : List OpenCall  -- those that are open, in the order of their begins
  pub built : ℕ  -- how many views were built
  pub views : List StandingView
  pub epoch : ℕ

abbrev pub first_moment : Moment
first_moment = record { happened = 0; commits = []; begun = 0; calls = []; built = 0; views = []; epoch = 0 }

abbrev pub call_of : ℕ → List OpenCall → Option OpenCall
call_of number calls = find (λ call. call.number == number) calls

abbrev pub without_call : ℕ → List OpenCall → List OpenCall
without_call number calls = filter (λ call. not (call.number == number)) calls

abbrev pub replace_call : OpenCall → List OpenCall → List OpenCall
replace_call new calls = map (λ call. if call.number == new.number then new else call) calls

abbrev pub view_of : ℕ → List StandingView → Option StandingView
view_of number views = find (λ v. v.number == number) views

-- the view that is furthest behind, the first on a tie: views stand in the order of their numbers
abbrev pub furthest : Option StandingView → List StandingView → Option StandingView
furthest best [] = best
furthest None (v ∷ views) = furthest (Some v) views
furthest (Some best) (v ∷ views) = furthest (Some (if nat_lt v.at best.at then v else best)) views

-- the view that an Apply means: 0 stands for the one that is furthest behind
abbrev pub meant_view : ℕ → List StandingView → Option StandingView
meant_view number views = if number == 0 then furthest None views else view_of number views

-- the change that a request asks for
abbrev pub change_of : Request → List Change
change_of (PutRequest key sets) = Put key sets ∷ []
change_of (PutIf key sets version) = Put key sets ∷ []
change_of (Remove key) = Drop key ∷ []
change_of (Get key columns) = []
change_of (Range start limit columns) = []
change_of (Tidy key) = []
change_of (Build spec) = []

-- the view that a reply builds for its call
abbrev pub view_built : Request → Answer → ℕ → List StandingView
view_built (Build spec) (Built number) opens = record { number = number.0; spec = spec; at = opens } ∷ []
view_built _ _ opens = []

-- a step of an open call
abbrev pub after_step : Moment → OpenCall → Outcome → ℕ → Moment
after_step m call Moved opens = record m { calls = replace_call (record call { moves = call.moves + 1 }) m.calls }
after_step m call Again opens = record m { calls = replace_call (record call { moves = 0 }) m.calls }
after_step m call (Commit number) opens = record m {
  commits = m.commits ++ change_of call.request;
  calls = replace_call (record call { committed = Some number; moves = 0 }) m.calls;
}
after_step m call (Done reply) opens = record m {
  calls = without_call call.number m.calls;
  built = m.built + length (view_built call.request reply.answer opens);
  views = m.views ++ view_built call.request reply.answer opens;
}
after_step m call (Refused refusal) opens = record m { calls = without_call call.number m.calls }
after_step m call _ opens = m

abbrev pub after_call_step : Moment → Option OpenCall → Outcome → ℕ → Moment
after_call_step m None outcome opens = m
after_call_step m (Some call) outcome opens = after_step m call outcome opens

abbrev pub new_call : Moment → ℕ → Request → ℕ → OpenCall
new_call m pass request number = record {
  number = number;
  pass = pass;
  request = request;
  began = m.happened;
  from = length m.commits;
  committed = None;
  moves = 0;
}

abbrev pub after_begin : Moment → ℕ → Request → Outcome → Moment
after_begin m pass request (Call number) = record m {
  begun = m.begun + 1;
  calls = m.calls ++ new_call m pass request number.0 ∷ [];
}
after_begin m pass request _ = m

abbrev pub move_view : Option StandingView → List StandingView → List StandingView
move_view None views = views
move_view (Some moved) views =
    map (λ (v : StandingView). if v.number == moved.number then record v { at = v.at + 1 } else v) views

abbrev pub after_apply : Moment → ℕ → Outcome → Moment
after_apply m view (Applied number) = record m { views = move_view (meant_view view m.views) m.views }
after_apply m view _ = m

abbrev pub without_view : ℕ → List StandingView → List StandingView
without_view number views = filter (λ v. not (v.number == number)) views

abbrev pub after_drop : Moment → ℕ → Outcome → Moment
after_drop m view Dropped = record m { views = without_view view m.views }
after_drop m view _ = m

abbrev pub after_advance : Moment → Outcome → Moment
after_advance m (Epoch number) = record m { epoch = number }
after_advance m _ = m

abbrev pub after_event : Moment → Event → Outcome → ℕ → Moment
after_event m (Begin pass request) outcome opens = after_begin m pass.0 request outcome
after_event m (Step call) outcome opens = after_call_step m (call_of call.0 m.calls) outcome opens
after_event m (Apply view) outcome opens = after_apply m view.0 outcome
after_event m (ViewDrop view) outcome opens = after_drop m view.0 outcome
after_event m Advance outcome opens = after_advance m outcome
after_event m (ViewRead view floor start limit) outcome opens = m
after_event m Collect outcome opens = m

abbrev pub moment : History → Moment
moment [] = first_moment
moment (h ∷ past) = record (after_event (moment past) h.event h.outcome h.opens) { happened = length (h ∷ past) }

-- the rows of an index of C columns at a moment
abbrev pub rows : ℕ → Moment → Rows
rows C m = after C m.commits

-- at some moment since so much had happened
abbrev pub Sometime : ℕ → (Moment → Type 0) → History → Type 0
Sometime began P [] = (began ≤ 0) × P (moment [])
Sometime began P (x ∷ h) = ((began ≤ length (x ∷ h)) × P (moment (x ∷ h))) ⊎ Sometime began P h

-- at each moment since so much had happened
abbrev pub Throughout : ℕ → (Moment → Type 0) → History → Type 0
Throughout began P [] = began ≤ 0 → P (moment [])
Throughout began P (x ∷ h) = (began ≤ length (x ∷ h) → P (moment (x ∷ h))) × Throughout began P h

-- h continues past by these events with these outcomes, one for each, in their order
abbrev pub GoesOn : History → List Event → List Outcome → History → Type 0
GoesOn past [] [] h = h ≡ past
GoesOn past (e ∷ es) (o ∷ os) h = (opens : ℕ) × GoesOn (happening e o opens ∷ past) es os h
GoesOn past [] (o ∷ os) h = ⊥
GoesOn past (e ∷ es) [] h = ⊥
