-- What a line of a script says.
use Rattle.std.specs.Prelude.{ℕ, ◌-◌, ◌^◌, if◌then◌else◌, List, codes, Option, Some, None}
use Rattle.std.specs.Str.{bytes_eq}
use Rattle.mt_types.specs.declared.event.Event.TheVariants.{Begin, Step, Apply, ViewRead, ViewDrop, Advance, Collect}
use Rattle.mt_script.specs.declared.command.Command.{Command}
use Rattle.mt_script.specs.declared.command.Command.TheVariants.{Once, Finish, Alone, Feed, Read, Len}
use Rattle.mt_script.specs.Words.{◌>>=◌, word_at, number_of, bytes_of}
use Rattle.mt_script.specs.Reading.{request_of}
use Rattle.mt_script.specs.Reads.{read_of}

-- PASS REQUEST
unfoldable pub begin_of : List ℕ → Option Command
begin_of text = do
  word ← word_at 32 text
  pass ← number_of 65535 word.0
  request ← request_of word.1
  Some (Once (Begin (record { 0 = pass }) request))

-- CALL
unfoldable pub step_of : List ℕ → Option Command
step_of text = do
  call ← number_of (2 ^ 64 - 1) text
  Some (Once (Step (record { 0 = call })))

-- CALL
unfoldable pub finish_of : List ℕ → Option Command
finish_of text = do
  call ← number_of (2 ^ 64 - 1) text
  Some (Finish (record { 0 = call }))

-- REQUEST
unfoldable pub alone_of : List ℕ → Option Command
alone_of text = do
  request ← request_of text
  Some (Alone request)

-- VIEW
unfoldable pub apply_of : List ℕ → Option Command
apply_of text = do
  view ← number_of (2 ^ 64 - 1) text
  Some (Once (Apply (record { 0 = view })))

-- VIEW FLOOR START LIMIT
unfoldable pub view_read_of : List ℕ → Option Command
view_read_of text = do
  view ← word_at 32 text
  number ← number_of (2 ^ 64 - 1) view.0
  floor ← word_at 32 view.1
  least ← number_of (2 ^ 64 - 1) floor.0
  start ← word_at 32 floor.1
  bytes ← bytes_of start.0
  limit ← number_of 65535 start.1
  Some (Once (ViewRead (record { 0 = number }) least bytes limit))

-- VIEW
unfoldable pub view_drop_of : List ℕ → Option Command
view_drop_of text = do
  view ← number_of (2 ^ 64 - 1) text
  Some (Once (ViewDrop (record { 0 = view })))

-- FROM LIMIT
unfoldable pub feed_of : List ℕ → Option Command
feed_of text = do
  from ← word_at 32 text
  number ← number_of (2 ^ 64 - 1) from.0
  limit ← number_of 65535 from.1
  Some (Feed number limit)

-- of views, of the feed and of reads, by the first word of the line: apply VIEW, view VIEW FLOOR START LIMIT, drop VIEW,
-- feed FROM LIMIT, or a read
unfoldable pub view_command_of : List ℕ → List ℕ → Option Command
view_command_of word text =
    if bytes_eq word (codes "apply") then apply_of text
    else if bytes_eq word (codes "view") then view_read_of text
    else if bytes_eq word (codes "drop") then view_drop_of text
    else if bytes_eq word (codes "feed") then feed_of text
    else (read_of word text >>= λ read. Some (Read read))

-- of more than one word: of calls (begin PASS REQUEST, step CALL, finish CALL or alone REQUEST), of
-- views, of the feed or of reads
unfoldable pub long_command_of : List ℕ → Option Command
long_command_of line = do
  word ← word_at 32 line
  if bytes_eq word.0 (codes "begin") then begin_of word.1
      else if bytes_eq word.0 (codes "step") then step_of word.1
      else if bytes_eq word.0 (codes "finish") then finish_of word.1
      else if bytes_eq word.0 (codes "alone") then alone_of word.1
      else view_command_of word.0 word.1

-- what a line says, its words parted by one space: advance, collect, len, or a command of more than one word
unfoldable pub command_of : List ℕ → Option Command
command_of line =
    if bytes_eq line (codes "advance") then Some (Once Advance)
    else if bytes_eq line (codes "collect") then Some (Once Collect)
    else if bytes_eq line (codes "len") then Some Len
    else long_command_of line
