-- A session that reads leaves the index of one caller as it is.
use Rattle.std.proofs.Common.{◌≡◌, ◌<◌, ◌≤◌, List, [], ◌∷◌, None, Some, sym, ap, subst, arith}
use Rattle.mt_types.specs.Numbers.{greatest_number}
use Rattle.mt_promise.specs.History.{History}
use Rattle.mt_shared.specs.Inner.{InnerView, Does}
use Rattle.mt_shared.specs.Passes.{PassView}
use Rattle.mt_shared.specs.Reads.{ReadsNow}
use Rattle.mt_shared.specs.Pages.{PagesNow}
use Rattle.mt_shared.specs.Quiet.{QuietReadsNow}
use Rattle.mt_shared.specs.Tidies.{Looks}
use Rattle.mt_wire.specs.declared.query.Query.{Query}
use Rattle.mt_wire.specs.declared.response.Response.{Response}
use Rattle.mt_wire.specs.declared.frame.Frame.{Frame}
use Rattle.mt_talk.specs.declared.serving.Server.{Server}
use Rattle.mt_talk.specs.Frames.{ServesFrame}
use Rattle.mt_talk.specs.Laws.{Talk, Step, Came, Took, Went}
use Rattle.mt_talk.specs.Sessions.{FrameLaw, Serves}
use Rattle.mt_talk.specs.Clients.{reading}
use Rattle.mt_talk.proofs.ClientLemmas.{reading_sessions_read}
use Rattle.mt_serve.specs.declared.answerer.Answerer.{Answerer}
use Rattle.mt_serve.specs.Store.{Store}
use Rattle.mt_serve.specs.Plain.{IsAlone, store_of}
use Rattle.mt_serve.specs.Reading.{answers_by, HoldsTheSame, ReadersKeepTheStore}
use Rattle.mt_serve.proofs.PlainLemmas.{all_rise, alone_answers}
use Rattle.mt_serve.proofs.KeepLemmas.{same_store, same_on, all_kept}

abbrev Frames : FrameLaw Answerer InnerView PassView
Frames = reading (answers_by Does ReadsNow PagesNow QuietReadsNow Looks)

-- ---- events are counted
frame_rises : (a b : Server Answerer) (s t : InnerView) (p q : PassView) (frame : Frame Query) (reply : Frame Response) → ServesFrame Frames a s p frame reply b t q → s.events ≤ t.events
frame_rises a b s t p q frame reply (None, keeps, then) = all_rise s t p q frame.messages reply.messages then.1.0.1
frame_rises a b s t p q frame reply (Some responses, keeps, then) =
    let equal = ap (λ (k : InnerView). k.events) then.2 in omega (arith, equal)

session_rises : (a b : Server Answerer) (s t : InnerView) (p q : PassView) (v w : Talk) (steps : List Step) → Serves (ServesFrame Frames) v a s p steps w b t q → s.events ≤ t.events
session_rises a b s t p q v w [] (same, server, shared, pass) = let equal = ap (λ (k : InnerView). k.events) shared in omega (arith, equal)
session_rises a b s t p q v w (Came piece ∷ steps) (m, c, u, r, goes, (server, shared, pass), more) =
    let equal = ap (λ (k : InnerView). k.events) shared in
    let rest = session_rises c b u t r q m w steps more in omega (arith, equal, rest)
session_rises a b s t p q v w (Went bytes ∷ steps) (m, c, u, r, goes, (server, shared, pass), more) =
    let equal = ap (λ (k : InnerView). k.events) shared in
    let rest = session_rises c b u t r q m w steps more in omega (arith, equal, rest)
session_rises a b s t p q v w (Took frame reply ∷ steps) (m, c, u, r, goes, serves, more) =
    let first = frame_rises a c s u p r frame reply serves in
    let rest = session_rises c b u t r q m w steps more in omega (arith, first, rest)

-- ---- the store is the same
abbrev Kept : Store → InnerView → PassView → Type 0
Kept s t q = (then : History) × IsAlone t q then × HoldsTheSame s (store_of t then)

still : (s t : InnerView) (p q : PassView) (h : History) → IsAlone s p h → t ≡ s → q ≡ p → Kept (store_of s h) t q
still s t p q h a same pass = (
  h,
  subst (λ (k : InnerView). IsAlone k q h) (sym same) (subst (λ (v : PassView). IsAlone s v h) (sym pass) a),
  same_store (store_of s h) (store_of t h) (ap (λ (k : InnerView). store_of k h) same),
)

frame_kept : (a b : Server Answerer) (s t : InnerView) (p q : PassView) (h : History) (frame : Frame Query) (reply : Frame Response) → IsAlone s p h → t.events < greatest_number → ServesFrame Frames a s p frame reply b t q → Kept (store_of s h) t q
frame_kept a b s t p q h frame reply alone few (None, keeps, then) =
    let (final, ends, columns, plain) = alone_answers s t p q h frame.messages reply.messages alone few then.1.0.1 in
    (final, ends, all_kept (store_of s h) (store_of t final) frame.messages reply.messages then.0 plain)
frame_kept a b s t p q h frame reply alone few (Some responses, keeps, then) = still s t p q h alone then.2 then.3

kept_on : (s m : Store) (t : InnerView) (q : PassView) → HoldsTheSame s m → Kept m t q → Kept s t q
kept_on s m t q one kept = (kept.0, kept.1, same_on s m (store_of t kept.0) one kept.2)

session_kept : (a b : Server Answerer) (s t : InnerView) (p q : PassView) (h : History) (v w : Talk) (steps : List Step) → IsAlone s p h → t.events < greatest_number → Serves (ServesFrame Frames) v a s p steps w b t q → Kept (store_of s h) t q
session_kept a b s t p q h v w [] alone few (same, server, shared, pass) = still s t p q h alone shared pass
session_kept a b s t p q h v w (Came piece ∷ steps) alone few (m, c, u, r, goes, (server, shared, pass), more) =
    let first = still s u p r h alone shared pass in
    kept_on (store_of s h) (store_of u first.0) t q first.2 (session_kept c b u t r q first.0 m w steps first.1 few more)
session_kept a b s t p q h v w (Went bytes ∷ steps) alone few (m, c, u, r, goes, (server, shared, pass), more) =
    let first = still s u p r h alone shared pass in
    kept_on (store_of s h) (store_of u first.0) t q first.2 (session_kept c b u t r q first.0 m w steps first.1 few more)
session_kept a b s t p q h v w (Took frame reply ∷ steps) alone few (m, c, u, r, goes, serves, more) =
    let rest = session_rises c b u t r q m w steps more in
    let first = frame_kept a c s u p r h frame reply alone (omega (arith, few, rest)) serves in
    kept_on (store_of s h) (store_of u first.0) t q first.2 (session_kept c b u t r q first.0 m w steps first.1 few more)

pub readers_keep_the_store : ReadersKeepTheStore
readers_keep_the_store a b s t p q h v w steps alone few serves has grants =
    let read = reading_sessions_read (answers_by Does ReadsNow PagesNow QuietReadsNow Looks) a b s t p q v w steps serves has grants in
    session_kept a b s t p q h v w steps alone few read.1
