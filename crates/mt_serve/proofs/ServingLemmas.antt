-- Queries, frames that have been answered so far.
use Rattle.std.proofs.Common.{◌≡◌, ◌≢◌, inl, inr, ℕ, suc, ◌+◌, ◌*◌, ◌≤◌, List, [], ◌∷◌, ◌++◌, length, fold, refl, ap, subst, sym, ◌∙◌, arith, append_assoc, append-nil, length-append, Option, None, Some, IfSome, Bool, true, false}
use Rattle.std.specs.Prelude.{sum_by, ⊤, Result, Ok, Err, IfOk, MatchBool}
use Rattle.std.specs.List.{AllByRecursion}
use Rattle.std.specs.Io.KnownBytes.{Appends}
use Rattle.std.proofs.KnownBytes.{Appends-nil, Appends-trans}
use Rattle.mt_shared.specs.Passes.{PassView}
use Rattle.mt_shared.specs.Drives.{EventLaw}
use Rattle.mt_shared.specs.Reads.{ReadLaw, MustDrive}
use Rattle.mt_shared.specs.Changes.{has_changed, is_change}
use Rattle.mt_shared.specs.Pages.{PageIsRead, PageLaw}
use Rattle.mt_shared.specs.Quiet.{Answered, IsQuietRead, QuietLaw}
use Rattle.mt_shared.specs.Tidies.{IsDriveTidied, LookLaw, PurgesAfter}
use Rattle.mt_shared.proofs.ReadLemmas.{driven_call}
use Rattle.mt_shared.specs.Turns.{drop_outcome}
use Rattle.mt_types.specs.declared.event.Event.TheVariants.{ViewDrop as DropOf}
use Rattle.mt_types.specs.declared.numbers.ViewNo.{ViewNo}
use Rattle.mt_wire.specs.declared.query.Query.{Query}
use Rattle.mt_types.specs.declared.event.Answer.{Answer}
use Rattle.mt_types.specs.declared.event.Answer.TheVariants.{Absent, Found, Stored, Removed, Rows, Tidied, Built}
use Rattle.mt_types.specs.declared.event.Reply.{Reply}
use Rattle.mt_types.specs.declared.event.Request.{Request}
use Rattle.mt_wire.specs.Answered.{end_of}
use Rattle.mt_wire.specs.declared.query.Query.TheVariants.{Call, Read, ViewDrop, ViewRead, Server}
use Rattle.mt_wire.specs.declared.server.ServerQuery.{ServerQuery}
use Rattle.mt_wire.specs.declared.response.Response.{Response}
use Rattle.mt_wire.specs.declared.frame.Frame.{Frame}
use Rattle.mt_reads.specs.Quiet.{QuietAnswerIsLimited}
use Rattle.mt_reads.specs.declared.quiet.QuietAnswer.{QuietAnswer}
use Rattle.mt_reads.specs.declared.quiet.QuietAnswer.TheVariants.{Rows as FoundRows, Pairs as FoundPairs, Count as Counts}
use Rattle.mt_types.specs.Limited.{PageIsLimited}
use Rattle.mt_types.specs.declared.refusal.Refusal.TheVariants.{BadLimit}
use Rattle.mt_wire.specs.declared.read.ReadQuery.{ReadQuery}
use Rattle.mt_wire.specs.declared.response.Response.TheVariants.{Refused}
use Rattle.mt_types.specs.declared.refusal.Refusal.{Refusal}
use Rattle.mt_types.specs.declared.view.Page.{Page}
use Rattle.mt_wire.specs.Limited.{ResponseIsLimited}
use Rattle.mt_wire.specs.Frames.{Holds, RequestsFit, request_frame, reply_frame}
use Rattle.mt_serve.specs.declared.fault.SessionFault.{SessionFault}
use Rattle.mt_serve.specs.declared.fault.SessionFault.TheVariants.{Write}
use Rattle.mt_serve.specs.declared.session.Summary.{Summary}
use Rattle.mt_serve.specs.Asking.{ReadsOnce, counts_too_far, found_response, not_alone, quiet_of, quiet_response, Answers, AnswersAll, AnswersFrame, AnswersFrames, Follows, KeepsViews, call_response, changes, drop_response, end_changes, page_response}
use Rattle.mt_serve.specs.Sources.{LosesFrame, StopsAt}
use Rattle.mt_serve.specs.Sessions.{HasServed, IsBroken, BreaksIn, requests_of, replies_of}

-- one query more
pub AnswersAll-push : {S : Type 0} (does : EventLaw S) (shows : ReadLaw S) (pages : PageLaw S) (glances : QuietLaw S) (looks : LookLaw S) (s m t : S) (p r q : PassView) (queries : List Query) (responses : List Response) (query : Query) (response : Response)
    → AnswersAll does shows pages glances looks s p queries responses m r → Answers does shows pages glances looks m r query response t q → AnswersAll does shows pages glances looks s p (queries ++ query ∷ []) (responses ++ response ∷ []) t q
AnswersAll-push {S} does shows pages glances looks s m t p r q [] [] query response all one =
    (t, q, subst (λ (x : S). Answers does shows pages glances looks x p query response t q) all.0 (subst (λ (y : PassView). Answers does shows pages glances looks m y query response t q) all.1 one), (refl, refl))
AnswersAll-push does shows pages glances looks s m t p r q [] (y ∷ ys) query response all one = absurd all
AnswersAll-push does shows pages glances looks s m t p r q (x ∷ xs) [] query response all one = absurd all
AnswersAll-push does shows pages glances looks s m t p r q (x ∷ xs) (y ∷ ys) query response all one = (all.0, all.1, all.2, AnswersAll-push does shows pages glances looks all.0 m t all.1 r q xs ys query response all.3 one)

-- ---- after a call that was driven views are kept up, if it was a change
end_change : (answer : Answer) → is_change answer ≡ end_changes (end_of answer)
end_change Absent = refl
end_change (Found row) = refl
end_change (Stored number) = refl
end_change (Removed number) = refl
end_change (Rows pairs) = refl
end_change (Tidied rule) = refl
end_change (Built view) = refl

same_change : (result : Result Reply Refusal) → has_changed result ≡ changes (call_response result)
same_change (Ok reply) = end_change reply.answer
same_change (Err refusal) = refl

follows_by : {S : Type 0} (does : EventLaw S) (looks : LookLaw S) (request : Request) (m n t : S) (v w q : PassView) (b : Bool)
    → MatchBool b (KeepsViews does m v n w) ((n ≡ m) × (w ≡ v)) → MatchBool b (PurgesAfter does looks request n w t q) ((t ≡ n) × (q ≡ w))
    → MatchBool b (Follows does looks (Call request) m v t q) ((t ≡ m) × (q ≡ v))
follows_by does looks request m n t v w q true kept purges = (n, w, kept, purges)
follows_by does looks request m n t v w q false (is, same) (more, other) = (more ∙ is, other ∙ same)

pub driven_answers : {S : Type 0} (does : EventLaw S) (shows : ReadLaw S) (pages : PageLaw S) (glances : QuietLaw S) (looks : LookLaw S) (s t : S) (p r q : PassView) (request : Request) (result : Result Reply Refusal)
    → MustDrive shows s p.number request × (r ≡ p) → IsDriveTidied does looks s r request 64 result t q → Answers does shows pages glances looks s p (Call request) (call_response result) t q
driven_answers does shows pages glances looks s t p r q request result must (inr (within, short, same, pass)) = (
  t,
  q,
  (result, inr (within, short, same, pass ∙ must.1), refl),
  subst (λ (b : Bool). MatchBool b (Follows does looks (Call request) t q t q) ((t ≡ t) × (q ≡ q))) (sym (ap (λ (r : Result Reply Refusal). changes (call_response r)) short)) (refl, refl),
)
driven_answers does shows pages glances looks s t p r q request result must (inl (n, w, (m, v, drive, kept), purges)) = (
  m,
  v,
  (result, inl (driven_call does shows s m p r v request result must drive), refl),
  subst (λ (b : Bool). MatchBool b (Follows does looks (Call request) m v t q) ((t ≡ m) × (q ≡ v))) (same_change result)
      (follows_by does looks request m n t v w q (has_changed result) kept purges),
)

-- ---- an event of a view leaves each view at the newest commit
page_changes_none : (result : Result Page Refusal) → changes (page_response result) ≡ false
page_changes_none (Ok page) = refl
page_changes_none (Err refusal) = refl

pub page_answers : {S : Type 0} (does : EventLaw S) (shows : ReadLaw S) (pages : PageLaw S) (glances : QuietLaw S) (looks : LookLaw S) (s t : S) (p q : PassView) (view : ViewNo) (floor : ℕ) (start : List ℕ) (limit : ℕ) (result : Result Page Refusal)
    → PageIsRead does pages s p view floor start limit result t q → Answers does shows pages glances looks s p (ViewRead view floor start limit) (page_response result) t q
page_answers does shows pages glances looks s t p q view floor start limit result read =
    (t, q, (result, read, refl), subst (λ (b : Bool). MatchBool b (Follows does looks (ViewRead view floor start limit) t q t q) ((t ≡ t) × (q ≡ q))) (sym (page_changes_none result)) (refl, refl))

drop_changes_none : (result : Result ⊤ Refusal) → changes (drop_response result) ≡ false
drop_changes_none (Ok done) = refl
drop_changes_none (Err refusal) = refl

pub drop_answers : {S : Type 0} (does : EventLaw S) (shows : ReadLaw S) (pages : PageLaw S) (glances : QuietLaw S) (looks : LookLaw S) (s t : S) (p q : PassView) (view : ViewNo) (result : Result ⊤ Refusal)
    → does s p (DropOf view) (drop_outcome result) t q → Answers does shows pages glances looks s p (ViewDrop view) (drop_response result) t q
drop_answers does shows pages glances looks s t p q view result event =
    (t, q, (result, event, refl), subst (λ (b : Bool). MatchBool b (Follows does looks (ViewDrop view) t q t q) ((t ≡ t) × (q ≡ q))) (sym (drop_changes_none result)) (refl, refl))

found_changes_none : (from to : ℕ) (answer : QuietAnswer) → changes (found_response from to answer) ≡ false
found_changes_none from to (FoundRows found) = refl
found_changes_none from to (FoundPairs pairs) = refl
found_changes_none from to (Counts count) = refl

read_changes_none : (ended : Answered) → changes (quiet_response ended) ≡ false
read_changes_none (Some (Ok at)) = found_changes_none at.from at.to at.value
read_changes_none (Some (Err refusal)) = refl
read_changes_none None = refl

pub read_answers : {S : Type 0} (does : EventLaw S) (shows : ReadLaw S) (pages : PageLaw S) (glances : QuietLaw S) (looks : LookLaw S) (s : S) (p q : PassView) (query : ReadQuery) (ended : Answered) → counts_too_far query ≡ false
    → IsQuietRead glances s p (quiet_of query) ended q → Answers does shows pages glances looks s p (Read query) (quiet_response ended) s q
read_answers does shows pages glances looks s p q query ended within read = (
  s,
  q,
  (refl, subst (λ (b : Bool). MatchBool b ((quiet_response ended ≡ Refused BadLimit) × (q ≡ p)) (ReadsOnce glances s p query (quiet_response ended) q)) (sym within) (ended, read, refl)),
  subst (λ (b : Bool). MatchBool b (Follows does looks (Read query) s q s q) ((s ≡ s) × (q ≡ q))) (sym (read_changes_none ended)) (refl, refl),
)

pub far_answers : {S : Type 0} (does : EventLaw S) (shows : ReadLaw S) (pages : PageLaw S) (glances : QuietLaw S) (looks : LookLaw S) (s : S) (p : PassView) (query : ReadQuery) → counts_too_far query ≡ true
    → Answers does shows pages glances looks s p (Read query) (Refused BadLimit) s p
far_answers does shows pages glances looks s p query far = (
  s,
  p,
  (refl, subst (λ (b : Bool). MatchBool b ((Refused BadLimit ≡ Refused BadLimit) × (p ≡ p)) (ReadsOnce glances s p query (Refused BadLimit) p)) (sym far) (refl, refl)),
  (refl, refl),
)

read_limited_by : (from to : ℕ) (answer : QuietAnswer) → QuietAnswerIsLimited answer → ResponseIsLimited (found_response from to answer)
read_limited_by from to (FoundRows found) limited = limited
read_limited_by from to (FoundPairs pairs) limited = limited
read_limited_by from to (Counts count) limited = tt

pub read_limited : (ended : Answered) → IfSome ended (λ result. IfOk result (λ at. QuietAnswerIsLimited at.value)) → ResponseIsLimited (quiet_response ended)
read_limited (Some (Ok at)) limited = read_limited_by at.from at.to at.value limited
read_limited (Some (Err refusal)) limited = tt
read_limited None limited = tt

pub server_answers : {S : Type 0} (does : EventLaw S) (shows : ReadLaw S) (pages : PageLaw S) (glances : QuietLaw S) (looks : LookLaw S) (s : S) (p : PassView) (query : ServerQuery) → Answers does shows pages glances looks s p (Server query) not_alone s p
server_answers does shows pages glances looks s p query = (s, p, (refl, refl, refl), (refl, refl))

-- ---- the answers to a frame of queries are as many, and keep the limits: so they are a frame
pub limited_more : (responses : List Response) (response : Response) → AllByRecursion ResponseIsLimited responses → ResponseIsLimited response → AllByRecursion ResponseIsLimited (responses ++ response ∷ [])
limited_more [] response all one = (one, tt)
limited_more (x ∷ xs) response all one = (all.0, limited_more xs response all.1 one)

as_many : {S : Type 0} (does : EventLaw S) (shows : ReadLaw S) (pages : PageLaw S) (glances : QuietLaw S) (looks : LookLaw S) (s t : S) (p q : PassView) (queries : List Query) (responses : List Response) → AnswersAll does shows pages glances looks s p queries responses t q → length responses ≡ length queries
as_many does shows pages glances looks s t p q [] [] all = refl
as_many does shows pages glances looks s t p q [] (y ∷ ys) all = absurd all
as_many does shows pages glances looks s t p q (x ∷ xs) [] all = absurd all
as_many does shows pages glances looks s t p q (x ∷ xs) (y ∷ ys) all = ap suc (as_many does shows pages glances looks all.0 t all.1 q xs ys all.3)

pub answers_hold : {S : Type 0} (does : EventLaw S) (shows : ReadLaw S) (pages : PageLaw S) (glances : QuietLaw S) (looks : LookLaw S) (s t : S) (p q : PassView) (frame : Frame Query) (responses : List Response) → RequestsFit frame → AnswersAll does shows pages glances looks s p frame.messages responses t q
    → AllByRecursion ResponseIsLimited responses → Holds ResponseIsLimited responses
answers_hold does shows pages glances looks s t p q frame responses fits all limited =
    let same = as_many does shows pages glances looks s t p q frame.messages responses all in
    let some = fits.0.0 in
    let few = fits.0.1 in
    (omega (arith, same, some), omega (arith, same, few), limited)

-- ---- what one query is answered keeps the limits
pub page_limited : (result : Result Page Refusal) → IfOk result PageIsLimited → ResponseIsLimited (page_response result)
page_limited (Ok page) limited = limited
page_limited (Err refusal) limited = tt

pub drop_limited : (result : Result ⊤ Refusal) → ResponseIsLimited (drop_response result)
drop_limited (Ok done) = tt
drop_limited (Err refusal) = tt

-- ---- frames
-- one frame more
AnswersFrames-push : {S : Type 0} (does : EventLaw S) (shows : ReadLaw S) (pages : PageLaw S) (glances : QuietLaw S) (looks : LookLaw S) (s m t : S) (p r q : PassView) (frames : List (Frame Query)) (replies : List (Frame Response)) (frame : Frame Query) (reply : Frame Response)
    → AnswersFrames does shows pages glances looks s p frames replies m r → AnswersFrame does shows pages glances looks m r frame reply t q → AnswersFrames does shows pages glances looks s p (frames ++ frame ∷ []) (replies ++ reply ∷ []) t q
AnswersFrames-push {S} does shows pages glances looks s m t p r q [] [] frame reply all one =
    (t, q, subst (λ (x : S). AnswersFrame does shows pages glances looks x p frame reply t q) all.0 (subst (λ (y : PassView). AnswersFrame does shows pages glances looks m y frame reply t q) all.1 one), (refl, refl))
AnswersFrames-push does shows pages glances looks s m t p r q [] (y ∷ ys) frame reply all one = absurd all
AnswersFrames-push does shows pages glances looks s m t p r q (x ∷ xs) [] frame reply all one = absurd all
AnswersFrames-push does shows pages glances looks s m t p r q (x ∷ xs) (y ∷ ys) frame reply all one = (all.0, all.1, all.2, AnswersFrames-push does shows pages glances looks all.0 m t all.1 r q xs ys frame reply all.3 one)

requests-push : (frames : List (Frame Query)) (frame : Frame Query) → requests_of (frames ++ frame ∷ []) ≡ requests_of frames ++ request_frame frame
requests-push [] frame = append-nil (request_frame frame)
requests-push (x ∷ xs) frame = ap (λ l. request_frame x ++ l) (requests-push xs frame) ∙ sym (append_assoc (request_frame x) (requests_of xs) (request_frame frame))

replies-push : (replies : List (Frame Response)) (reply : Frame Response) → replies_of (replies ++ reply ∷ []) ≡ replies_of replies ++ reply_frame reply
replies-push [] reply = append-nil (reply_frame reply)
replies-push (x ∷ xs) reply = ap (λ l. reply_frame x ++ l) (replies-push xs reply) ∙ sym (append_assoc (reply_frame x) (replies_of xs) (reply_frame reply))

fit-push : (frames : List (Frame Query)) (frame : Frame Query) → AllByRecursion RequestsFit frames → RequestsFit frame → AllByRecursion RequestsFit (frames ++ frame ∷ [])
fit-push [] frame all one = (one, tt)
fit-push (x ∷ xs) frame all one = (all.0, fit-push xs frame all.1 one)

-- what was read are the frames, and the rest is left
abbrev Goes : Option (List ℕ) → List (Frame Query) → Option (List ℕ) → Type 0
Goes input frames rest = IfSome input (λ bytes. (more : List ℕ) × (rest ≡ Some more) × (bytes ≡ requests_of frames ++ more))

Goes-start : (input : Option (List ℕ)) → Goes input [] input
Goes-start None = tt
Goes-start (Some xs) = (xs, refl, refl)

Goes-more : (input now next : Option (List ℕ)) (frames : List (Frame Query)) (frame : Frame Query) → Goes input frames now → LosesFrame frame now next → Goes input (frames ++ frame ∷ []) next
Goes-more None now next frames frame goes lost = tt
Goes-more (Some xs) None next frames frame goes lost = absurd (cc goes.1)
Goes-more (Some xs) (Some ys) next frames frame goes lost =
    let same : ys ≡ goes.0 = cc goes.1 in
    (lost.0, lost.1, goes.2 ∙ ap (λ (l : List ℕ). requests_of frames ++ l) (sym same ∙ lost.2) ∙ sym (append_assoc (requests_of frames) (request_frame frame) lost.0) ∙ ap (λ (l : List ℕ). l ++ lost.0) (sym (requests-push frames frame)))

pub served_none : {S : Type 0} (does : EventLaw S) (shows : ReadLaw S) (pages : PageLaw S) (glances : QuietLaw S) (looks : LookLaw S) (s : S) (p : PassView) (input old : Option (List ℕ)) → HasServed does shows pages glances looks s p input old [] input old s p
served_none does shows pages glances looks s p input old = record {
  replies = [];
  fit = tt;
  read = Goes-start input;
  answered = (refl, refl);
  written = Appends-nil old;
}

pub served_more : {S : Type 0} (does : EventLaw S) (shows : ReadLaw S) (pages : PageLaw S) (glances : QuietLaw S) (looks : LookLaw S) (s m t : S) (p r q : PassView) (input old now new next out : Option (List ℕ)) (frames : List (Frame Query)) (frame : Frame Query) (reply : Frame Response)
    → HasServed does shows pages glances looks s p input old frames now new m r → RequestsFit frame → LosesFrame frame now next → AnswersFrame does shows pages glances looks m r frame reply t q → Appends new out (reply_frame reply)
    → HasServed does shows pages glances looks s p input old (frames ++ frame ∷ []) next out t q
served_more does shows pages glances looks s m t p r q input old now new next out frames frame reply h fits lost answered sent = record {
  replies = h.replies ++ reply ∷ [];
  fit = fit-push frames frame h.fit fits;
  read = Goes-more input now next frames frame h.read lost;
  answered = AnswersFrames-push does shows pages glances looks s m t p r q frames h.replies frame reply h.answered answered;
  written = subst (Appends old out) (sym (replies-push h.replies reply)) (Appends-trans old new out (replies_of h.replies) (reply_frame reply) h.written sent);
}

sum-push_from : (n : ℕ) (frames : List (Frame Query)) (frame : Frame Query) → fold (λ a (x : Frame Query). a + length x.messages) n (frames ++ frame ∷ []) ≡ fold (λ a (x : Frame Query). a + length x.messages) n frames + length frame.messages
sum-push_from n [] frame = refl
sum-push_from n (x ∷ xs) frame = sum-push_from (n + length x.messages) xs frame

sum-push : (frames : List (Frame Query)) (frame : Frame Query) → sum_by (λ (f : Frame Query). length f.messages) (frames ++ frame ∷ []) ≡ sum_by (λ (f : Frame Query). length f.messages) frames + length frame.messages
sum-push frames frame = sum-push_from 0 frames frame

-- the same, with what is counted
pub record Serving {S : Type 0} (does : EventLaw S) (shows : ReadLaw S) (pages : PageLaw S) (glances : QuietLaw S) (looks : LookLaw S) (s : S) (p : PassView) (input old : Option (List ℕ)) (summary : Summary) (rest new : Option (List ℕ)) (t : S) (q : PassView) : Type 0 where
  pub frames : List (Frame Query)
  pub served : HasServed does shows pages glances looks s p input old frames rest new t q
  pub frame_count : summary.frames ≡ length frames
  pub query_count : summary.queries ≡ sum_by (λ (f : Frame Query). length f.messages) frames
  pub few : summary.queries ≤ 64 * summary.frames

pub serving_none : {S : Type 0} (does : EventLaw S) (shows : ReadLaw S) (pages : PageLaw S) (glances : QuietLaw S) (looks : LookLaw S) (s : S) (p : PassView) (input old : Option (List ℕ)) → Serving does shows pages glances looks s p input old (record { frames = 0; queries = 0 }) input old s p
serving_none does shows pages glances looks s p input old = record {
  frames = [];
  served = served_none does shows pages glances looks s p input old;
  frame_count = refl;
  query_count = refl;
  few = omega arith;
}

-- a frame more is answered
pub serving_more : {S : Type 0} (does : EventLaw S) (shows : ReadLaw S) (pages : PageLaw S) (glances : QuietLaw S) (looks : LookLaw S) (s m t : S) (p r q : PassView) (input old now new next out : Option (List ℕ)) (before after : Summary) (frame : Frame Query) (reply : Frame Response)
    → Serving does shows pages glances looks s p input old before now new m r → RequestsFit frame → LosesFrame frame now next → AnswersFrame does shows pages glances looks m r frame reply t q → Appends new out (reply_frame reply)
    → after.frames ≡ before.frames + 1 → after.queries ≡ before.queries + length frame.messages → Serving does shows pages glances looks s p input old after next out t q
serving_more does shows pages glances looks s m t p r q input old now new next out before after frame reply h fits lost answered sent one more = record {
  frames = h.frames ++ frame ∷ [];
  served = served_more does shows pages glances looks s m t p r q input old now new next out h.frames frame reply h.served fits lost answered sent;
  frame_count = (let long = length-append h.frames (frame ∷ []) in let so_far = h.frame_count in omega (arith, long, so_far, one));
  query_count = more ∙ ap (λ n. n + length frame.messages) h.query_count ∙ sym (sum-push h.frames frame);
  few = (let most = fits.0.1 in let so_far = h.few in omega (arith, most, so_far, one, more));
}

front_of : (frame : Frame Query) (now next : Option (List ℕ)) → LosesFrame frame now next → IfSome now (λ bytes. (more : List ℕ) × (bytes ≡ request_frame frame ++ more))
front_of frame None next lost = tt
front_of frame (Some bytes) next lost = (lost.0, lost.2)

-- it broke off in a frame
pub broken_in : {S : Type 0} (does : EventLaw S) (shows : ReadLaw S) (pages : PageLaw S) (glances : QuietLaw S) (looks : LookLaw S) (s m t : S) (p r q : PassView) (input old now new next unread out : Option (List ℕ)) (summary : Summary) (fault : SessionFault) (frame : Frame Query)
    → Serving does shows pages glances looks s p input old summary now new m r → RequestsFit frame → LosesFrame frame now next → BreaksIn does shows pages glances looks m r fault frame new out t q → IsBroken does shows pages glances looks s p input old fault unread out t q
broken_in does shows pages glances looks s m t p r q input old now new next unread out summary fault frame h fits lost breaks = record {
  frames = h.frames;
  rest = now;
  between = new;
  shared = m;
  pass = r;
  served = h.served;
  breaks = inr (frame, fits, front_of frame now next lost, breaks);
}

-- when memory ran out in a frame: a front of its queries was done
abbrev pub StopsIn : {S : Type 0} → EventLaw S → ReadLaw S → PageLaw S → QuietLaw S → LookLaw S → S → PassView → Frame Query → S → PassView → Type 0
StopsIn does shows pages glances looks s p frame t q =
    (done : List Query) × (undone : List Query) × (responses : List Response) × (frame.messages ≡ done ++ undone) × AnswersAll does shows pages glances looks s p done responses t q

-- it broke off before a frame was answered
pub broken_at : {S : Type 0} (does : EventLaw S) (shows : ReadLaw S) (pages : PageLaw S) (glances : QuietLaw S) (looks : LookLaw S) (s m t : S) (p r q : PassView) (input old now new unread : Option (List ℕ)) (summary : Summary) (fault : SessionFault)
    → Serving does shows pages glances looks s p input old summary now new m r → fault ≢ Write → StopsAt (StopsIn does shows pages glances looks) m r now fault unread t q → IsBroken does shows pages glances looks s p input old fault unread new t q
broken_at does shows pages glances looks s m t p r q input old now new unread summary fault h other stops = record {
  frames = h.frames;
  rest = now;
  between = new;
  shared = m;
  pass = r;
  served = h.served;
  breaks = elim stops [
    | inl h ↦ inl (other, h.0, refl, h.1, h.2)
    | inr h ↦ inr (
      h.1.0,
      h.1.1,
      h.1.2,
      subst (λ (f : SessionFault). BreaksIn does shows pages glances looks m r f h.1.0 new new t q) (sym h.0)
          (h.1.3.0, h.1.3.1, h.1.3.2, h.1.3.3, h.1.3.4, refl),
    )
  ];
}

-- one query of a frame is answered
pub answered_more : {S : Type 0} (does : EventLaw S) (shows : ReadLaw S) (pages : PageLaw S) (glances : QuietLaw S) (looks : LookLaw S) (s m t : S) (p r q : PassView) (queries rest next : List Query) (responses : List Response) (query : Query) (response : Response)
    → (done : List Query) × (queries ≡ done ++ rest) × AnswersAll does shows pages glances looks s p done responses m r → rest ≡ query ∷ next → Answers does shows pages glances looks m r query response t q
    → (done : List Query) × (queries ≡ done ++ next) × AnswersAll does shows pages glances looks s p done (responses ++ response ∷ []) t q
answered_more does shows pages glances looks s m t p r q queries rest next responses query response h front one = (
  h.0 ++ query ∷ [],
  h.1 ∙ ap (λ (l : List Query). h.0 ++ l) front ∙ sym (append_assoc h.0 (query ∷ []) next),
  AnswersAll-push does shows pages glances looks s m t p r q h.0 responses query response h.2 one,
)
