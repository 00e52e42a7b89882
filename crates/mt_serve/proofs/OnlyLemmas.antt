-- Queries that read make no events but those of reads.
use Rattle.std.proofs.Common.{◌≡◌, ℕ, Bool, true, false, inl, inr, List, [], ◌∷◌, ◌++◌, refl, sym, subst}
use Rattle.std.specs.Prelude.{◌||◌, not, MatchBool, All, Result, Ok, Err}
use Rattle.std.specs.List.{list_any, AllByRecursion}
use Rattle.std.proofs.lemmas.List.Elements.{All-append, All-head, All-tail, All-nil, All-cons}
use Rattle.mt_types.specs.declared.numbers.PassNo.{PassNo}
use Rattle.mt_types.specs.declared.numbers.CallNo.{CallNo}
use Rattle.mt_types.specs.declared.numbers.ViewNo.{ViewNo}
use Rattle.mt_types.specs.declared.refusal.Refusal.{Refusal}
use Rattle.mt_types.specs.declared.event.Event.{Event}
use Rattle.mt_types.specs.declared.event.Event.TheVariants.{Begin, Step, ViewRead as ReadOf}
use Rattle.mt_types.specs.declared.event.Outcome.{Outcome}
use Rattle.mt_types.specs.declared.event.Outcome.TheVariants.{Call as Called, Done, Current, Refused}
use Rattle.mt_types.specs.declared.event.Reply.{Reply}
use Rattle.mt_types.specs.declared.event.Request.{Request}
use Rattle.mt_types.specs.declared.event.Request.TheVariants.{Get, Put, PutIf, Remove, Range, Tidy, Build}
use Rattle.mt_types.specs.declared.view.Page.{Page}
use Rattle.mt_shared.specs.declared.trace.Entry.{Entry}
use Rattle.mt_shared.specs.Traces.{entry}
use Rattle.mt_shared.specs.Passes.{PassView}
use Rattle.mt_shared.specs.Drives.{EventLaw, Runs, IsStep, IsDriven, IsDrive, IsCut, whole}
use Rattle.mt_shared.specs.Reads.{ReadLaw, IsRead, IsCall}
use Rattle.mt_shared.specs.Pages.{PageLaw, PageIsRead}
use Rattle.mt_shared.specs.Quiet.{QuietLaw}
use Rattle.mt_shared.specs.Tidies.{LookLaw}
use Rattle.mt_shared.specs.Turns.{furthest, turn, IsTurn, HasTurned, IsLast}
use Rattle.mt_wire.specs.declared.query.Query.{Query}
use Rattle.mt_wire.specs.declared.query.Query.TheVariants.{Call, ViewRead, ViewDrop, Read, Server}
use Rattle.mt_wire.specs.declared.response.Response.{Response}
use Rattle.mt_wire.specs.declared.frame.Frame.{Frame}
use Rattle.mt_wire.specs.declared.server.Role.TheVariants as role
use Rattle.mt_talk.specs.Serving.{reads, may, may_all}
use Rattle.mt_serve.specs.Asking.{Asks, KeepsViews, PurgesFor, Follows, AnswersAll, AnswersFrames, changes}
use Rattle.mt_serve.specs.Reading.{AllRead, only}

-- ---- each query of a list reads
absurd_read : {X : Type 0} → ◌≡◌ {A = Bool} false true → X
absurd_read e = cc

first_reads : (one rest : Bool) → not (not one || rest) ≡ true → one ≡ true
first_reads true rest e = refl
first_reads false rest e = absurd_read e

rest_reads : (one rest : Bool) → not (not one || rest) ≡ true → not rest ≡ true
rest_reads true rest e = e
rest_reads false rest e = absurd_read e

pub head_reads : (query : Query) (queries : List Query) → may_all role.Read (query ∷ queries) ≡ true → reads query ≡ true
head_reads query queries e = first_reads (reads query) (list_any (λ (q : Query). not (may role.Read q)) queries) e

pub tail_reads : (query : Query) (queries : List Query) → may_all role.Read (query ∷ queries) ≡ true → may_all role.Read queries ≡ true
tail_reads query queries e = rest_reads (reads query) (list_any (λ (q : Query). not (may role.Read q)) queries) e

-- ---- events of these kinds alone
module _ {S : Type 0} (does : EventLaw S) (shows : ReadLaw S) (pages : PageLaw S) (glances : QuietLaw S) (looks : LookLaw S) (Allowed : Event → Type 0)
    (begins : (pass : PassNo) (request : Request) → IsRead request → Allowed (Begin pass request))
    (steps : (call : CallNo) → Allowed (Step call))
    (shown : (view : ViewNo) (floor : ℕ) (start : List ℕ) (limit : ℕ) → Allowed (ReadOf view floor start limit)) where
  abbrev Kind : Entry → Type 0
  Kind x = Allowed x.event

  runs_only : (s t : S) (p q : PassView) (xs : List Entry) → All Kind xs → Runs does s p xs t q → Runs (only Allowed does) s p xs t q
  runs_only s t p q [] all same = same
  runs_only s t p q (x ∷ xs) all (m, r, one, more) =
      (m, r, (All-head Kind x xs all, one), runs_only m t r q xs (All-tail Kind x xs all) more)

  -- a call
  steps_only : (pass : PassNo) (call : CallNo) (last : Outcome) (xs : List Entry) → All (IsStep pass call) xs → All Kind (xs ++ entry pass (Step call) last ∷ [])
  steps_only pass call last [] all = All-cons Kind (entry pass (Step call) last) [] (steps call) (All-nil Kind)
  steps_only pass call last (x ∷ xs) all =
      let is = All-head (IsStep pass call) x xs all in
      All-cons Kind x (xs ++ entry pass (Step call) last ∷ []) (subst Allowed (sym is.event) (steps call)) (steps_only pass call last xs (All-tail (IsStep pass call) x xs all))

  whole_only : (pass : PassNo) (request : Request) (call : CallNo) (xs : List Entry) (last : Outcome) → IsRead request → All (IsStep pass call) xs → All Kind (whole pass request call xs last)
  whole_only pass request call xs last read all =
      All-cons Kind (entry pass (Begin pass request) (Called call)) (xs ++ entry pass (Step call) last ∷ []) (begins pass request read) (steps_only pass call last xs all)

  driven_only : (s t : S) (p q : PassView) (request : Request) (reply : Reply) → IsRead request → IsDriven does s p request reply t q → IsDriven (only Allowed does) s p request reply t q
  driven_only s t p q request reply read d = record {
    steps = d.steps;
    are_steps = d.are_steps;
    runs = runs_only s t p q (whole p.number request reply.call d.steps (Done reply)) (whole_only p.number request reply.call d.steps (Done reply) read d.are_steps) d.runs;
    traced = d.traced;
  }

  cut_only : (s t : S) (p q : PassView) (request : Request) (refusal : Refusal) → IsRead request → IsCut does s p request refusal t q → IsCut (only Allowed does) s p request refusal t q
  cut_only s t p q request refusal read d = record {
    call = d.call;
    steps = d.steps;
    last = d.last;
    are_steps = d.are_steps;
    runs = runs_only s t p q (whole p.number request d.call d.steps d.last) (whole_only p.number request d.call d.steps d.last read d.are_steps) d.runs;
    ends = d.ends;
  }

  drive_only : (s t : S) (p q : PassView) (request : Request) (result : Result Reply Refusal) → IsRead request → IsDrive does s p request result t q → IsDrive (only Allowed does) s p request result t q
  drive_only s t p q request (Ok reply) read d = record {
    number = d.number;
    seen = d.seen;
    reply = d.reply;
    driven = driven_only s t p q request reply read d.driven;
    refused = d.refused;
  }
  drive_only s t p q request (Err refusal) read d = record {
    number = d.number;
    seen = d.seen;
    reply = d.reply;
    driven = d.driven;
    refused = elim d.refused [
      | inl turned ↦ inl (begins p.number request read, turned)
      | inr cut ↦ inr (cut_only s t p q request refusal read cut)
    ];
  }

  call_only : (s t : S) (p q : PassView) (request : Request) (result : Result Reply Refusal) → IsRead request → IsCall does shows s p request result t q → IsCall (only Allowed does) shows s p request result t q
  call_only s t p q request result read (inl (must, drive)) = inl (must, drive_only s t p q request result read drive)
  call_only s t p q request result read (inr now) = inr now

  page_only : (s t : S) (p q : PassView) (view : ViewNo) (floor : ℕ) (start : List ℕ) (limit : ℕ) (result : Result Page Refusal) → PageIsRead does pages s p view floor start limit result t q
      → PageIsRead (only Allowed does) pages s p view floor start limit result t q
  page_only s t p q view floor start limit result (inl now) = inl now
  page_only s t p q view floor start limit result (inr (none, does, told)) = inr (none, (shown view floor start limit, does), told)

  asks_only : (s t : S) (p q : PassView) (query : Query) (response : Response) → reads query ≡ true → Asks does shows pages glances s p query response t q → Asks (only Allowed does) shows pages glances s p query response t q
  asks_only s t p q (Call (Get key asked)) response read (result, inl call, is) = (result, inl (call_only s t p q (Get key asked) result tt call), is)
  asks_only s t p q (Call (Get key asked)) response read (result, inr short, is) = (result, inr short, is)
  asks_only s t p q (Call (Range start limit asked)) response read (result, inl call, is) = (result, inl (call_only s t p q (Range start limit asked) result tt call), is)
  asks_only s t p q (Call (Range start limit asked)) response read (result, inr short, is) = (result, inr short, is)
  asks_only s t p q (Call (Put key sets)) response read asks = absurd_read read
  asks_only s t p q (Call (PutIf key sets version)) response read asks = absurd_read read
  asks_only s t p q (Call (Remove key)) response read asks = absurd_read read
  asks_only s t p q (Call (Tidy key)) response read asks = absurd_read read
  asks_only s t p q (Call (Build spec)) response read asks = absurd_read read
  asks_only s t p q (ViewRead view floor start limit) response read (result, page, is) = (result, page_only s t p q view floor start limit result page, is)
  asks_only s t p q (ViewDrop view) response read asks = absurd_read read
  asks_only s t p q (Read query) response read asks = asks
  asks_only s t p q (Server query) response read asks = asks

  -- turns
  turns_only : Allowed furthest → (pass : PassNo) (xs : List Entry) → All (IsTurn pass) xs → All Kind xs
  turns_only kind pass [] all = All-nil Kind
  turns_only kind pass (x ∷ xs) all =
      let is = All-head (IsTurn pass) x xs all in
      All-cons Kind x xs (subst Kind (sym is.1) kind) (turns_only kind pass xs (All-tail (IsTurn pass) x xs all))

  last_only : Allowed furthest → (pass : PassNo) (most applied : ℕ) (last : List Entry) → IsLast pass most applied last → All Kind last
  last_only kind pass most applied last (inl (all, none)) = subst (All Kind) (sym none) (All-nil Kind)
  last_only kind pass most applied last (inr (fewer, one)) = subst (All Kind) (sym one) (All-cons Kind (turn pass Current) [] kind (All-nil Kind))

  turned_only : Allowed furthest → (s t : S) (p q : PassView) (applied : ℕ) (last : List Entry) → All Kind last → HasTurned does s p applied last t q → HasTurned (only Allowed does) s p applied last t q
  turned_only kind s t p q applied last all d = record {
    turns = d.turns;
    count = d.count;
    are_turns = d.are_turns;
    runs = runs_only s t p q (d.turns ++ last) (All-append Kind d.turns last (turns_only kind p.number d.turns d.are_turns) all) d.runs;
  }

  keeps_only : Allowed furthest → (s t : S) (p q : PassView) → KeepsViews does s p t q → KeepsViews (only Allowed does) s p t q
  unfolding turned_only
  keeps_only kind s t p q (inl (applied, kept)) = inl (
    applied,
    record {
      last = kept.last;
      is_last = kept.is_last;
      turned = turned_only kind s t p q applied kept.last (last_only kind p.number 64 applied kept.last kept.is_last) kept.turned;
      traced = kept.traced;
    },
  )
  keeps_only kind s t p q (inr (refusal, stopped)) = inr (
    refusal,
    record {
      applied = stopped.applied;
      fewer = stopped.fewer;
      turned = turned_only kind s t p q stopped.applied (turn p.number (Refused refusal) ∷ []) (All-cons Kind (turn p.number (Refused refusal)) [] kind (All-nil Kind)) stopped.turned;
    },
  )

  purges_only : (s t : S) (p q : PassView) (query : Query) → reads query ≡ true → PurgesFor does looks query s p t q → PurgesFor (only Allowed does) looks query s p t q
  purges_only s t p q (Call (Remove key)) read purges = absurd_read read
  purges_only s t p q _ read purges = purges

  follows_only : (s t : S) (p q : PassView) (query : Query) (b : Bool) → (b ≡ true → Allowed furthest) → reads query ≡ true → MatchBool b (Follows does looks query s p t q) ((t ≡ s) × (q ≡ p))
      → MatchBool b (Follows (only Allowed does) looks query s p t q) ((t ≡ s) × (q ≡ p))
  follows_only s t p q query true kind read (m, r, kept, purges) =
      (m, r, keeps_only (kind refl) s m p r kept, purges_only m t r q query read purges)
  follows_only s t p q query false kind read same = same

  -- ---- a frame, and frames
  -- turns are such events, if this answer says that something was changed
  abbrev Turns : Response → Type 0
  Turns response = changes response ≡ true → Allowed furthest

  pub all_only : (s t : S) (p q : PassView) (queries : List Query) (responses : List Response) → may_all role.Read queries ≡ true → AllByRecursion Turns responses → AnswersAll does shows pages glances looks s p queries responses t q
      → AnswersAll (only Allowed does) shows pages glances looks s p queries responses t q
  all_only s t p q [] [] read kinds same = same
  all_only s t p q [] (response ∷ responses) read kinds never = absurd never
  all_only s t p q (query ∷ queries) [] read kinds never = absurd never
  all_only s t p q (query ∷ queries) (response ∷ responses) read (kind, kinds) (m, r, (n, v, asks, final), more) =
      let head = head_reads query queries read in (
        m,
        r,
        (n, v, asks_only s n p v query response head asks, follows_only n m v r query (changes response) kind head final),
        all_only m t r q queries responses (tail_reads query queries read) kinds more,
      )

  abbrev AllTurn : List (Frame Response) → Type 0
  AllTurn replies = AllByRecursion (λ (reply : Frame Response). AllByRecursion Turns reply.messages) replies

  pub frames_only : (s t : S) (p q : PassView) (frames : List (Frame Query)) (replies : List (Frame Response)) → AllRead frames → AllTurn replies → AnswersFrames does shows pages glances looks s p frames replies t q
      → AnswersFrames (only Allowed does) shows pages glances looks s p frames replies t q
  frames_only s t p q [] [] read kinds same = same
  frames_only s t p q [] (reply ∷ replies) read kinds never = absurd never
  frames_only s t p q (frame ∷ frames) [] read kinds never = absurd never
  frames_only s t p q (frame ∷ frames) (reply ∷ replies) (read, reads) (kind, kinds) (m, r, (version, all), more) =
      (m, r, (version, all_only s m p r frame.messages reply.messages read kind all), frames_only m t r q frames replies reads kinds more)
