-- What the lines of a script do to an index, and what is written of it.
use Rattle.std.specs.Prelude.{◌≡◌, ◌⊎◌, ℕ, ◌-◌, ◌<◌, min, nat_lt, Bool, true, false, List, [], ◌∷◌, ◌++◌, length, map, take, drop, All, codes, decimal, Option, Some, None, IfSome}
use Rattle.std.specs.List.{flat_map, count_by}
use Rattle.std.specs.FinMap.{len}
use Rattle.std.specs.Option.{option_or}
use Rattle.std.specs.Io.KnownBytes.{Appends}
use Rattle.mt_types.specs.declared.numbers.CallNo.{CallNo}
use Rattle.mt_types.specs.declared.refusal.Refusal.{Refusal}
use Rattle.mt_types.specs.declared.refusal.Refusal.TheVariants.{NoMemory as WantOfMemory, Behind}
use Rattle.mt_types.specs.declared.event.Event.{Event}
use Rattle.mt_types.specs.declared.event.Event.TheVariants.{Step}
use Rattle.mt_types.specs.declared.event.Request.{Request}
use Rattle.mt_types.specs.declared.event.Outcome.{Outcome}
use Rattle.mt_types.specs.declared.event.Outcome.TheVariants.{Moved, Commit, Done, Refused}
use Rattle.mt_types.specs.Limits.{limit_fault, refused_if}
use Rattle.mt_promise.specs.History.{History, GoesOn, moment, rows}
use Rattle.mt_promise.specs.Legal.{Legal, held_from}
use Rattle.mt_promise.specs.Headline.{KeepsPromise}
use Rattle.mt_promise.specs.Alone.{RunsThrough, IsTurnedAway, EndsPlainly, EndsRefused}
use Rattle.mt_index.specs.Alone.{pass_0}
use Rattle.mt_commit.specs.Logged.{deltas_of}
use Rattle.mt_script.specs.declared.fault.ScriptFault.{ScriptFault}
use Rattle.mt_script.specs.declared.fault.ScriptFault.TheVariants.{Read, Start, NoMemory}
use Rattle.mt_script.specs.declared.command.Command.{Command}
use Rattle.mt_script.specs.declared.command.Command.TheVariants.{Once, Finish, Alone, Feed, Read as ReadLine, Len as LenLine}
use Rattle.mt_script.specs.declared.command.Reply.{Reply}
use Rattle.mt_script.specs.declared.command.Reply.TheVariants.{Bad, Busy, Came, Fed, NotFed, Read as ReadSo, NotRead, Len as HasRows}
use Rattle.mt_script.specs.Lines.{lines_of, line_text, ReadsLines}
use Rattle.mt_script.specs.Commands.{command_of}
use Rattle.mt_reads.specs.declared.quiet.QuietRead.{QuietRead}
use Rattle.mt_script.specs.Reads.{IsNotRead, IsReadSo, quiet_text}
use Rattle.mt_script.specs.Showing.{outcome_text, refusal_text, delta_text}

-- the lines of a reply, each with a line feed
abbrev pub reply_lines : Reply → List ℕ
reply_lines Bad = line_text (codes "bad line")
reply_lines Busy = line_text (codes "busy")
reply_lines (Came outcome) = line_text (outcome_text outcome)
reply_lines (Fed deltas) = flat_map (λ delta. line_text (delta_text delta)) deltas
reply_lines (NotFed refusal) = line_text (refusal_text refusal)
reply_lines (ReadSo answer) = line_text (quiet_text answer)
reply_lines (NotRead refusal) = line_text (refusal_text refusal)
reply_lines (HasRows many) = line_text (codes "len " ++ decimal many)

-- the lines of each reply
abbrev pub output_of : List Reply → List ℕ
output_of replies = flat_map reply_lines replies

abbrev pub is_bad : Reply → Bool
is_bad Bad = true
is_bad _ = false

abbrev pub bad_lines : List Reply → ℕ
bad_lines replies = count_by is_bad replies

-- why a script can't start: it is out of memory, or the options of the index break this limit
abbrev pub start_fault : Refusal → ScriptFault
start_fault WantOfMemory = NoMemory
start_fault limit = Start limit

-- a call that answers so hasn't finished
abbrev pub goes_on : Outcome → Bool
goes_on Moved = true
goes_on (Commit number) = true
goes_on _ = false

abbrev pub AllGoOn : List Outcome → Type 0
AllGoOn outcomes = All (λ outcome. goes_on outcome ≡ true) outcomes

-- one event, after this past
abbrev pub Happens : History → Event → Outcome → History → Type 0
Happens past event outcome h = GoesOn past (event ∷ []) (outcome ∷ []) h

-- steps of a call, one for each of these outcomes
abbrev pub Steps : History → CallNo → List Outcome → History → Type 0
Steps past call outcomes h = GoesOn past (map (λ outcome. Step call) outcomes) outcomes h

-- steps of a call up to the first that doesn't answer Moved or Commit, or a million of them; this is the outcome of the
-- last
pub record Finishes (past : History) (call : CallNo) (outcome : Outcome) (h : History) : Type 0 where
  pub before : List Outcome
  pub go_on : AllGoOn before
  pub few : length before < 1000000
  pub stepped : Steps past call (before ++ outcome ∷ []) h
  pub ended : goes_on outcome ≡ true → length before ≡ 999999

-- an event that a line says
abbrev pub Asks : Event → History → Reply → History → Type 0
Asks event past (Came outcome) h = Happens past event outcome h
Asks event past _ h = ⊥

-- steps of a call
abbrev pub Ends : CallNo → History → Reply → History → Type 0
Ends call past (Came outcome) h = Finishes past call outcome h
Ends call past _ h = ⊥

abbrev pub open_calls : History → ℕ
open_calls past = length (moment past).calls

-- a call of pass 0 has run through with nothing else happening, and was refused; or its begin was
abbrev pub IsRefusedAlone : Request → History → Refusal → History → Type 0
IsRefusedAlone request past refusal h = IsTurnedAway pass_0 request past refusal h
    ⊎ ((number : CallNo) × RunsThrough pass_0 number request past (Refused refusal) h)

-- a call alone, of pass 0, from its begin to its end: it is answered as by a plain map, or nothing comes of it; if
-- other calls are open, nothing happens
abbrev pub DoesAlone : ℕ → Request → History → Reply → History → Type 0
DoesAlone C request past (Came (Done answered)) h = (open_calls past ≡ 0) × ((number : CallNo)
    × RunsThrough pass_0 number request past (Done answered) h
    × EndsPlainly C past pass_0 number request answered (moment h))
DoesAlone C request past (Came (Refused refusal)) h =
    (open_calls past ≡ 0) × IsRefusedAlone request past refusal h × EndsRefused C past request refusal (moment h)
DoesAlone C request past Busy h = (0 < open_calls past) × (h ≡ past)
DoesAlone C request past _ h = ⊥

-- the number of commits after which the log begins, in an index that keeps `keep` commits for no reader: the log has
-- all that is held, and the last `keep`
abbrev pub feed_begin : ℕ → History → ℕ
feed_begin keep past = min (held_from (moment past)) (length (moment past).commits - keep)

-- why a feed is refused: its limit is out of its bounds, or the log begins after what is asked for
abbrev pub feed_refusal : ℕ → ℕ → ℕ → History → Option Refusal
feed_refusal keep from limit past =
    option_or (limit_fault limit) (refused_if (nat_lt from (feed_begin keep past)) (Behind (feed_begin keep past)))

-- what a feed returns: the deltas of the commits after the first `from`, at most `limit`; or why it returns none
abbrev pub Feeds : ℕ → ℕ → ℕ → ℕ → History → Reply → Type 0
Feeds C keep from limit past (Fed deltas) =
    (feed_refusal keep from limit past ≡ None) × (deltas ≡ take limit (drop from (deltas_of C (moment past).commits)))
Feeds C keep from limit past (NotFed refusal) =
    (feed_refusal keep from limit past ≡ Some refusal)
    ⊎ ((feed_refusal keep from limit past ≡ None) × (refusal ≡ WantOfMemory))
Feeds C keep from limit past _ = ⊥

-- a read of one moment, if no call is open: what a map of the rows answers, or why there is no answer
abbrev pub ReadsOnce : ℕ → QuietRead → History → Reply → Type 0
ReadsOnce C read past (ReadSo answer) = (open_calls past ≡ 0) × IsReadSo C read past answer
ReadsOnce C read past (NotRead refusal) = (open_calls past ≡ 0) × IsNotRead C read refusal
ReadsOnce C read past Busy = 0 < open_calls past
ReadsOnce C read past _ = ⊥

-- how many rows there are
abbrev pub CountsRows : ℕ → History → Reply → Type 0
CountsRows C past (HasRows many) = many ≡ len (rows C (moment past))
CountsRows C past _ = ⊥

-- what a line says was answered so after this past, on an index of C columns that keeps `keep` commits for no reader,
-- and led to this history
abbrev pub Answers : ℕ → ℕ → Option Command → History → Reply → History → Type 0
Answers C keep None past reply h = (reply ≡ Bad) × (h ≡ past)
Answers C keep (Some (Once event)) past reply h = Asks event past reply h
Answers C keep (Some (Finish call)) past reply h = Ends call past reply h
Answers C keep (Some (Alone request)) past reply h = DoesAlone C request past reply h
Answers C keep (Some (Feed from limit)) past reply h = Feeds C keep from limit past reply × (h ≡ past)
Answers C keep (Some (ReadLine read)) past reply h = ReadsOnce C read past reply × (h ≡ past)
Answers C keep (Some LenLine) past reply h = CountsRows C past reply × (h ≡ past)

-- these lines, one after the other, were answered so, each by one reply
abbrev pub AnswersAll : ℕ → ℕ → History → List (List ℕ) → List Reply → History → Type 0
AnswersAll C keep past [] [] h = h ≡ past
AnswersAll C keep past (line ∷ lines) (reply ∷ replies) h =
    (between : History) × Answers C keep (command_of line) past reply between
    × AnswersAll C keep between lines replies h
AnswersAll C keep past [] (reply ∷ replies) h = ⊥
AnswersAll C keep past (line ∷ lines) [] h = ⊥

-- All lines of the input, if it is known, were answered on an empty index of C columns that keeps `keep` commits for no
-- reader. What happened there is legal, and so keeps the promise. The lines of the replies were written, and `bad` is
-- the number of lines of the input that were bad.
pub record Played (C keep : ℕ) (input old : Option (List ℕ)) (bad : ℕ) (new : Option (List ℕ)) : Type 0 where
  pub lines : List (List ℕ)
  pub replies : List Reply
  pub h : History
  pub read : IfSome input (λ bytes. lines_of bytes ≡ lines)
  pub answered : AnswersAll C keep [] lines replies h
  pub legal : Legal C h
  pub promise : KeepsPromise C h
  pub written : Appends old new (output_of replies)
  pub counted : bad ≡ bad_lines replies

-- The same of the first lines of the input, of which the first bytes of their replies were written: all of them if a
-- read failed. The reader still has the unread bytes: after a read fault, all bytes before them are those lines and the
-- begin of one more, so that no whole line that was read is left unanswered.
pub record Broke (C keep : ℕ) (fault : ScriptFault) (input unread old new : Option (List ℕ)) : Type 0 where
  pub lines : List (List ℕ)
  pub more : List (List ℕ)
  pub replies : List Reply
  pub h : History
  pub read : IfSome input (λ bytes. lines_of bytes ≡ lines ++ more)
  pub answered : AnswersAll C keep [] lines replies h
  pub legal : Legal C h
  pub promise : KeepsPromise C h
  pub sent : List ℕ
  pub unsent : List ℕ
  pub written : Appends old new sent
  pub front : output_of replies ≡ sent ++ unsent
  pub whole : fault ≡ Read → unsent ≡ []
  pub none_lost : fault ≡ Read → IfSome input (ReadsLines lines unread)
