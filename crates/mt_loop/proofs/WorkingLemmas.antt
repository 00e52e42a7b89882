-- The turns of connections are the frames of their worker.
use Rattle.std.proofs.Common.{◌≡◌, ◌≢◌, ℕ, Bool, true, false, List, [], ◌∷◌, ◌++◌, Option, Some, None, refl, sym, ap, subst, ◌∙◌, inl, inr, append-nil}
use Rattle.std.specs.Prelude.{◌⊎◌, Err, IsTrue, IsFalse, IsErrOf}
use Rattle.mt_shared.specs.Passes.{PassView}
use Rattle.mt_shared.specs.Drives.{EventLaw}
use Rattle.mt_shared.specs.Reads.{ReadLaw}
use Rattle.mt_shared.specs.Pages.{PageLaw}
use Rattle.mt_shared.specs.Quiet.{QuietLaw}
use Rattle.mt_shared.specs.Tidies.{LookLaw}
use Rattle.mt_wire.specs.declared.query.Query.{Query}
use Rattle.mt_wire.specs.declared.response.Response.{Response}
use Rattle.mt_wire.specs.declared.server.Role.{Role}
use Rattle.mt_wire.specs.declared.server.ServerQuery.{ServerQuery}
use Rattle.mt_wire.specs.declared.server.ServerQuery.TheVariants.{Hello, Ping, Info, Views, Wait, Stop}
use Rattle.mt_wire.specs.declared.frame.Frame.{Frame}
use Rattle.mt_wire.specs.declared.fault.WireFault.{WireFault}
use Rattle.mt_wire.specs.declared.fault.WireFault.TheVariants.{BadLength, BadVersion, BadBody, NoMemory}
use Rattle.mt_types.specs.declared.limits.TheConstants.{MAX_REQUEST_BODY}
use Rattle.mt_wire.specs.Frames.{IsBegun, RequestsFit, FaultStands, request_frame, reply_frame}
use Rattle.mt_wire.proofs.ReadingLaws.{request_frames_read_one_way}
use Rattle.mt_talk.specs.declared.tokens.Token.{Token}
use Rattle.mt_talk.specs.declared.serving.Server.{Server}
use Rattle.mt_talk.specs.Tokens.{first_role}
use Rattle.mt_talk.specs.Serving.{alone}
use Rattle.mt_talk.specs.Frames.{ServesFrame, StopsFrame}
use Rattle.mt_talk.specs.Turns.{Kept, HasFront, Takes, Waits, GivesUp}
use Rattle.mt_talk.specs.Sessions.{IsRoleFor, ServesOne}
use Rattle.mt_serve.specs.declared.answerer.Answerer.{Answerer}
use Rattle.mt_serve.specs.Asking.{AnswersFrames}
use Rattle.mt_serve.specs.Reading.{answers_by}
use Rattle.mt_loop.specs.Working.{Taken, Answered, Stopped, stops_by, DoesAll, Works, AreAsked, FramesAreOneChain, Gains, Turns}

-- ---- in which role
pub role_kept : (tokens : List Token) (role now : Option Role) (query : Option ServerQuery) → now ≡ role → IsRoleFor tokens role query now
role_kept tokens role now (Some (Hello newest secret name)) same = inl same
role_kept tokens role now (Some (Ping number)) same = same
role_kept tokens role now (Some Info) same = same
role_kept tokens role now (Some Views) same = same
role_kept tokens role now (Some (Wait of number milliseconds)) same = same
role_kept tokens role now (Some (Stop is_at_once)) same = same
role_kept tokens role now None same = same

-- the frame at the front is one
pub one_front : (a b : Frame Query) (bytes : List ℕ) → HasFront a bytes → HasFront b bytes → a ≡ b
one_front a b bytes (fits, (rest, is)) (other, (more, so)) = (request_frames_read_one_way a b rest more fits other (sym is ∙ so)).0

pub role_again : (tokens : List Token) (role now : Option Role) (bytes secret name : List ℕ) (newest : ℕ) (frame : Frame Query) → HasFront frame bytes → alone frame.messages ≡ Some (Hello newest secret name) → now ≡ first_role tokens
    → (other : Frame Query) → HasFront other bytes → IsRoleFor tokens role (alone other.messages) now
role_again tokens role now bytes secret name newest frame front hello is other there =
    subst (λ (query : Option ServerQuery). IsRoleFor tokens role query now) (sym hello ∙ ap (λ (f : Frame Query). alone f.messages) (one_front frame other bytes front there)) (inr is)

pub output_then : (IsBroken Then : Type 0) (w x y : Kept) → Then → y ≡ x → (x.output ≡ w.output) ⊎ (IsBroken × (x.output ≡ [])) → (y.output ≡ w.output) ⊎ (Then × (y.output ≡ []))
output_then IsBroken Then w x y then same (inl is) = inl (ap (λ (k : Kept). k.output) same ∙ is)
output_then IsBroken Then w x y then same (inr gone) = inr (then, ap (λ (k : Kept). k.output) same ∙ gone.1)

module _ {S : Type 0} (does : EventLaw S) (shows : ReadLaw S) (pages : PageLaw S) (glances : QuietLaw S) (looks : LookLaw S) where
  -- ---- frames, one after the other
  pub works_none : (s t : S) (p q : PassView) → t ≡ s → q ≡ p → Works does shows pages glances looks s p t q
  works_none s t p q same pass = ([], (same, pass))

  all_on : (s m t : S) (p r q : PassView) (xs ys : List Taken) → DoesAll does shows pages glances looks s p xs m r → DoesAll does shows pages glances looks m r ys t q → DoesAll does shows pages glances looks s p (xs ++ ys) t q
  all_on s m t p r q [] ys (same, pass) more =
      subst (λ (x : S). DoesAll does shows pages glances looks x p ys t q) same (subst (λ (v : PassView). DoesAll does shows pages glances looks m v ys t q) pass more)
  all_on s m t p r q (x ∷ xs) ys (n, v, one, rest) more = (n, v, one, all_on n m t v r q xs ys rest more)

  pub works_on : (s m t : S) (p r q : PassView) → Works does shows pages glances looks s p m r → Works does shows pages glances looks m r t q → Works does shows pages glances looks s p t q
  works_on s m t p r q (xs, one) (ys, more) = (xs ++ ys, all_on s m t p r q xs ys one more)

  pub works_at : (s t u : S) (p q v : PassView) → Works does shows pages glances looks s p t q → u ≡ t → v ≡ q → Works does shows pages glances looks s p u v
  works_at s t u p q v works shared pass =
      subst (λ (x : S). Works does shows pages glances looks s p x v) (sym shared) (subst (λ (w : PassView). Works does shows pages glances looks s p t w) (sym pass) works)

  pub works_next : (s m n t u : S) (p r v q : PassView) → Works does shows pages glances looks s p m r → n ≡ m → v ≡ r → Works does shows pages glances looks n v t q → u ≡ t → Works does shows pages glances looks s p u q
  works_next s m n t u p r v q one shared pass more then =
      works_at s t u p q q (works_on s n t p v q (works_at s m n p r v one shared pass) more) then refl

  -- ---- one chain
  abbrev Chain : S → PassView → List Taken → S → PassView → Type 0
  Chain s p taken t q = (frames : List (Frame Query)) × (replies : List (Frame Response)) × AreAsked taken frames replies
      × AnswersFrames does shows pages glances looks s p frames replies t q

  chain_more : (s m t : S) (p r q : PassView) (frame : Frame Query) (reply : Frame Response) (more : List Taken) (a b : Server Answerer) → ServesFrame (answers_by does shows pages glances looks) a s p frame reply b m r → Chain m r more t q → Chain s p (Answered frame reply ∷ more) t q
  chain_more s m t p r q frame reply more a b (None, keeps, then) (frames, replies, asked, answers) =
      (frame ∷ frames, reply ∷ replies, inl (frames, replies, refl, refl, asked), (m, r, then.0, answers))
  chain_more s m t p r q frame reply more a b (Some responses, keeps, then) (frames, replies, asked, answers) = (
    frames,
    replies,
    inr asked,
    subst (λ (x : S). AnswersFrames does shows pages glances looks x p frames replies t q) then.2
        (subst (λ (v : PassView). AnswersFrames does shows pages glances looks m v frames replies t q) then.3 answers),
  )

  pub frames_are_one_chain : FramesAreOneChain does shows pages glances looks
  frames_are_one_chain s t p q [] whole (same, pass) = ([], [], (refl, refl), (same, pass))
  frames_are_one_chain s t p q (Answered frame reply ∷ more) whole (m, r, (a, b, serves), rest) =
      chain_more s m t p r q frame reply more a b serves (frames_are_one_chain m t r q more whole rest)
  frames_are_one_chain s t p q (Stopped frame ∷ more) whole all = absurd whole

  -- ---- a turn of a connection
  answered_at : (s t : S) (p q : PassView) (frame : Frame Query) (reply : Frame Response) (tokens : List Token) (role after : Option Role) (one : ServesOne (answers_by does shows pages glances looks) tokens role frame reply after)
      → one.shared ≡ s → one.pass ≡ p → one.shared_then ≡ t → one.pass_then ≡ q → ServesFrame (answers_by does shows pages glances looks) one.server s p frame reply one.server_then t q
  answered_at s t p q frame reply tokens role after one es ep et eq =
      subst (λ (x : S). ServesFrame (answers_by does shows pages glances looks) one.server x p frame reply one.server_then t q) es
      (subst (λ (v : PassView). ServesFrame (answers_by does shows pages glances looks) one.server one.shared v frame reply one.server_then t q) ep
      (subst (λ (x : S). ServesFrame (answers_by does shows pages glances looks) one.server one.shared one.pass frame reply one.server_then x q) et
      (subst (λ (v : PassView). ServesFrame (answers_by does shows pages glances looks) one.server one.shared one.pass frame reply one.server_then one.shared_then v) eq one.served)))

  pub turns_work : (tokens : List Token) (IsBroken : Type 0) (v w : Kept) (role after : Option Role) (s t : S) (p q : PassView) → (taken : Option Taken) × Turns does shows pages glances looks tokens IsBroken v role s p taken w after t q
      → Works does shows pages glances looks s p t q
  turns_work tokens IsBroken v w role after s t p q (None, turn) = ([], (turn.2, turn.3))
  turns_work tokens IsBroken v w role after s t p q (Some (Answered frame reply), (fits, front, gains, one, es, ep, et, eq)) =
      (Answered frame reply ∷ [], (t, q, (one.server, one.server_then, answered_at s t p q frame reply tokens role after one es ep et eq), (refl, refl)))
  turns_work tokens IsBroken v w role after s t p q (Some (Stopped frame), (fits, front, gains, broken, a, stops)) =
      (Stopped frame ∷ [], (t, q, (a, stops), (refl, refl)))

  -- what follows leaves the bytes, and may break the session off
  gains_then : (IsBroken Then : Type 0) (old more new last : List ℕ) → (IsBroken → Then) → Gains IsBroken old more new → (last ≡ new) ⊎ (Then × (last ≡ [])) → Gains Then old more last
  gains_then IsBroken Then old more new last on (inl is) (inl same) = inl (same ∙ is)
  gains_then IsBroken Then old more new last on (inr (broken, none)) (inl same) = inr (on broken, same ∙ none)
  gains_then IsBroken Then old more new last on gains (inr gone) = inr gone

  rests_then : (Begun IsBroken Then : Type 0) → (IsBroken → Then) → Begun ⊎ IsBroken → Begun ⊎ Then
  rests_then Begun IsBroken Then on (inl begun) = inl begun
  rests_then Begun IsBroken Then on (inr broken) = inr (on broken)

  pub turns_then : (tokens : List Token) (IsBroken Then : Type 0) (v w x : Kept) (role after last : Option Role) (s t : S) (p q : PassView) → (IsBroken → Then) → x.bytes ≡ w.bytes → (x.output ≡ w.output) ⊎ (Then × (x.output ≡ [])) → last ≡ after
      → (taken : Option Taken) × Turns does shows pages glances looks tokens IsBroken v role s p taken w after t q
      → (taken : Option Taken) × Turns does shows pages glances looks tokens Then v role s p taken x last t q
  turns_then tokens IsBroken Then v w x role after last s t p q on bytes output is (None, turn) =
      (None, (bytes ∙ turn.0, gains_then IsBroken Then v.output [] w.output x.output on turn.1 output, turn.2, turn.3, rests_then (IsBegun MAX_REQUEST_BODY v.bytes) IsBroken Then on turn.4))
  turns_then tokens IsBroken Then v w x role after last s t p q on bytes output is (Some (Answered frame reply), (fits, front, gains, one, es, ep, et, eq)) = (
    Some (Answered frame reply),
    (
      fits,
      front ∙ ap (λ (l : List ℕ). request_frame frame ++ l) (sym bytes),
      gains_then IsBroken Then v.output (reply_frame reply) w.output x.output on gains output,
      record {
        server = one.server;
        shared = one.shared;
        pass = one.pass;
        server_then = one.server_then;
        shared_then = one.shared_then;
        pass_then = one.pass_then;
        tokens_are = one.tokens_are;
        role_is = one.role_is;
        served = one.served;
        role_then = one.role_then ∙ sym is;
      },
      es,
      ep,
      et,
      eq,
    ),
  )
  turns_then tokens IsBroken Then v w x role after last s t p q on bytes output is (Some (Stopped frame), (fits, front, gains, broken, a, stops)) =
      (Some (Stopped frame), (fits, front ∙ ap (λ (l : List ℕ). request_frame frame ++ l) (sym bytes), gains_then IsBroken Then v.output [] w.output x.output on gains output, on broken, a, stops))

  -- the turn of its session
  module _ (tokens : List Token) (IsBroken : Type 0) (v w : Kept) (role : Option Role) (a b : Server Answerer) (s t : S) (p q : PassView)
      (tokens_are : a.keeper.tokens.items ≡ tokens) (role_is : (frame : Frame Query) → HasFront frame v.bytes → IsRoleFor tokens role (alone frame.messages) a.keeper.role) where
    abbrev Turned : Type 0
    Turned = (taken : Option Taken) × Turns does shows pages glances looks tokens IsBroken v role s p taken w b.keeper.role t q

    pub turned_took : Takes (ServesFrame (answers_by does shows pages glances looks)) a s p v w b t q → Turned
    turned_took took = (
      Some (Answered took.frame took.reply),
      (
        took.fits,
        took.taken,
        inl took.written,
        record {
          server = a;
          shared = s;
          pass = p;
          server_then = b;
          shared_then = t;
          pass_then = q;
          tokens_are = tokens_are;
          role_is = role_is took.frame (took.fits, (w.bytes, took.taken));
          served = took.answered;
          role_then = refl;
        },
        refl,
        refl,
        refl,
        refl,
      ),
    )

    same_output : w.output ≡ v.output → Gains IsBroken v.output [] w.output
    same_output same = inl (same ∙ sym (append-nil v.output))

    pub turned_waits : Waits a s p v w b t q → Turned
    turned_waits waits = (None, (ap (λ (k : Kept). k.bytes) waits.2, same_output (ap (λ (k : Kept). k.output) waits.2), waits.4, waits.5, inl waits.0))

    turned_not : IsBroken → w.bytes ≡ v.bytes → w.output ≡ v.output → t ≡ s → q ≡ p → Turned
    turned_not broken bytes output same pass = (None, (bytes, same_output output, same, pass, inr broken))

    gave_up : w.output ≡ v.output → IsBroken
        → ((w.bytes ≡ v.bytes) × (t ≡ s) × (q ≡ p)) ⊎ ((frame : Frame Query) × RequestsFit frame × (v.bytes ≡ request_frame frame ++ w.bytes) × StopsFrame (stops_by does shows pages glances looks) a s p frame t q) → Turned
    gave_up output broken (inl (bytes, same, pass)) = turned_not broken bytes output same pass
    gave_up output broken (inr (frame, fits, front, stops)) = (Some (Stopped frame), (fits, front, same_output output, broken, a, stops))

    pub turned_gave_up : IsBroken → GivesUp (StopsFrame (stops_by does shows pages glances looks) a) s p v w t q → Turned
    turned_gave_up broken up = gave_up up.output broken up.how

    pub turned_fault : (fault : WireFault) → IsBroken
        → (fault ≢ NoMemory → FaultStands fault v.bytes × (w.bytes ≡ v.bytes) × (w.output ≡ v.output) × (t ≡ s) × (q ≡ p))
        → (fault ≡ NoMemory → GivesUp (StopsFrame (stops_by does shows pages glances looks) a) s p v w t q) → Turned
    turned_fault BadLength broken fault memory = let f = fault (λ e. cc) in turned_not broken f.1 f.2 f.3 f.4
    turned_fault BadVersion broken fault memory = let f = fault (λ e. cc) in turned_not broken f.1 f.2 f.3 f.4
    turned_fault BadBody broken fault memory = let f = fault (λ e. cc) in turned_not broken f.1 f.2 f.3 f.4
    turned_fault NoMemory broken fault memory = turned_gave_up broken (memory refl)

    pub turned_ok : (some : Bool) → (IsTrue some → Takes (ServesFrame (answers_by does shows pages glances looks)) a s p v w b t q) → (IsFalse some → Waits a s p v w b t q) → Turned
    turned_ok true took waits = turned_took (took refl)
    turned_ok false took waits = turned_waits (waits refl)

    pub turned_err : (fault : WireFault) → IsBroken
        → (fault ≢ NoMemory → FaultStands fault v.bytes × (w.bytes ≡ v.bytes) × (w.output ≡ v.output) × (t ≡ s) × (q ≡ p))
        → (IsErrOf {T = Bool} {E = WireFault} (Err fault) NoMemory → GivesUp (StopsFrame (stops_by does shows pages glances looks) a) s p v w t q) → Turned
    turned_err fault broken is memory = turned_fault fault broken is (λ e. memory (ap (λ (f : WireFault). Err f) e))
