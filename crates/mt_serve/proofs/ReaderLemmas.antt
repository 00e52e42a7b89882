-- A client that may read makes no change.
use Rattle.std.proofs.Common.{◌≡◌, Bool, true, false, inl, inr, List, [], ◌∷◌, refl, sym, ◌∙◌}
use Rattle.std.specs.List.{AllByRecursion}
use Rattle.mt_shared.specs.Drives.{EventLaw}
use Rattle.mt_shared.specs.Reads.{ReadLaw}
use Rattle.mt_shared.specs.Pages.{PageLaw}
use Rattle.mt_shared.specs.Quiet.{QuietLaw}
use Rattle.mt_shared.specs.Tidies.{LookLaw}
use Rattle.mt_shared.specs.Turns.{furthest}
use Rattle.mt_wire.specs.declared.response.Response.{Response}
use Rattle.mt_wire.specs.declared.frame.Frame.{Frame}
use Rattle.mt_talk.specs.Clients.{reading}
use Rattle.mt_talk.proofs.SessionLemmas.{among_as}
use Rattle.mt_talk.proofs.ClientLemmas.{reading_clients_read}
use Rattle.mt_serve.specs.Asking.{changes}
use Rattle.mt_serve.specs.Reading.{IsReading, IsReadingOrTurn, only, NoneChanges, ReadsMakeNoChange, answers_by, ReadersMakeNoChange}
use Rattle.mt_serve.proofs.OnlyLemmas.{all_only, frames_only}

any_turns : (responses : List Response) → AllByRecursion (λ (response : Response). changes response ≡ true → IsReadingOrTurn furthest) responses
any_turns [] = tt
any_turns (response ∷ responses) = ((λ changed. inr refl), any_turns responses)

all_turn : (replies : List (Frame Response)) → AllByRecursion (λ (reply : Frame Response). AllByRecursion (λ (response : Response). changes response ≡ true → IsReadingOrTurn furthest) reply.messages) replies
all_turn [] = tt
all_turn (reply ∷ replies) = (any_turns reply.messages, all_turn replies)

no_turn : (b : Bool) → b ≡ false → b ≡ true → IsReading furthest
no_turn b none changed = let clash : ◌≡◌ {A = Bool} true false = sym changed ∙ none in cc

none_turns : (responses : List Response) → AllByRecursion (λ (response : Response). changes response ≡ false) responses → AllByRecursion (λ (response : Response). changes response ≡ true → IsReading furthest) responses
none_turns [] none = tt
none_turns (response ∷ responses) (none, more) = (no_turn (changes response) none, none_turns responses more)

none_turn : (replies : List (Frame Response)) → NoneChanges replies → AllByRecursion (λ (reply : Frame Response). AllByRecursion (λ (response : Response). changes response ≡ true → IsReading furthest) reply.messages) replies
none_turn [] none = tt
none_turn (reply ∷ replies) (none, more) = (none_turns reply.messages none, none_turn replies more)

pub reads_make_no_change : {S : Type 0} (does : EventLaw S) (shows : ReadLaw S) (pages : PageLaw S) (glances : QuietLaw S) (looks : LookLaw S) → ReadsMakeNoChange does shows pages glances looks
reads_make_no_change does shows pages glances looks s t p q frames replies read answers = (
  frames_only does shows pages glances looks IsReadingOrTurn (λ pass request is. inl is) (λ call. inl tt) (λ view floor start limit. inl tt)
      s t p q frames replies read (all_turn replies) answers,
  λ none. frames_only does shows pages glances looks IsReading (λ pass request is. is) (λ call. tt) (λ view floor start limit. tt)
      s t p q frames replies read (none_turn replies none) answers,
)

pub readers_make_no_change : {S : Type 0} (does : EventLaw S) (shows : ReadLaw S) (pages : PageLaw S) (glances : QuietLaw S) (looks : LookLaw S) → ReadersMakeNoChange does shows pages glances looks
readers_make_no_change does shows pages glances looks tokens role after v w steps serves has grants =
    let read = reading_clients_read (answers_by does shows pages glances looks) tokens role after v w steps serves has grants in (
      read.0,
      among_as (reading (answers_by does shows pages glances looks)) (answers_by (only IsReadingOrTurn does) shows pages glances looks)
          (λ a s p frame reply b t q it. (
            (
              it.1.0.0,
              all_only does shows pages glances looks IsReadingOrTurn (λ pass request is. inl is) (λ call. inl tt) (λ view floor start limit. inl tt)
                  s t p q frame.messages reply.messages it.0 (any_turns reply.messages) it.1.0.1,
            ),
            it.1.1,
          ))
          tokens role after v w steps read.1,
    )
