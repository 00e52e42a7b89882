-- Why a call waits, and why it fails: what a history doesn't show.
use Rattle.std.specs.Prelude.{ℕ, ◌≡◌, ◌==◌, ◌+◌, ◌⊎◌, nat_lt, if◌then◌else◌, List, length, Option, Some, None, IsSomeAnd, Result, Err, MatchResult}
use Rattle.std.specs.Option.{option_or}
use Rattle.mt_types.specs.Limits.{refused_if}
use Rattle.mt_types.specs.Rows.{version_of}
use Rattle.mt_types.specs.declared.row.Row.{Row as RowView}
use Rattle.mt_types.specs.declared.limits.TheConstants.{MAX_NODES}
use Rattle.mt_types.specs.declared.refusal.Refusal.{Refusal}
use Rattle.mt_types.specs.declared.refusal.Refusal.TheVariants.{NoMemory, ArenaFull, Spent, OtherVersion}
use Rattle.mt_word.specs.declared.permutation_word.TheConstants.{SLOTS}
use Rattle.mt_word.specs.declared.version_word.TheConstants.{MAX_SPLITS}
use Rattle.mt_commit.specs.Log.{LogView, reserve_fault}
use Rattle.mt_border.specs.Border.{BorderView, insert_is_spent}
use Rattle.mt_border.specs.declared.found.Found.{Found}
use Rattle.mt_border.specs.declared.found.Found.TheVariants.{Absent, Row, OtherSuffix}
use Rattle.mt_arena.specs.Node.{border_at, occupied}
use Rattle.mt_tree.specs.Descent.{found_for, row_found}
use Rattle.mt_arena.specs.Arena.{ArenaView}
use Rattle.mt_steps.specs.Entering.{TakesMemory}
use Rattle.mt_steps.specs.declared.entering.Entering.{Entering}
use Rattle.mt_steps.specs.declared.progress.Progress.{Progress}
use Rattle.mt_steps.specs.declared.progress.Progress.TheVariants.{Waits, Answered, Refused}
use Rattle.mt_steps.specs.declared.way.Way.{Way}
use Rattle.mt_steps.specs.Way.{rest_of}
use Rattle.mt_steps.specs.Causes.{IsMarkedAt, IsLockedAlready}
use Rattle.mt_write.specs.declared.writing.Write.{Write as WriteView}
use Rattle.mt_write.specs.declared.writing.Edit.{Edit}
use Rattle.mt_write.specs.declared.writing.Edit.TheVariants.{Put, Remove}
use Rattle.mt_write.specs.declared.writing.Halves.{Halves}
use Rattle.mt_write.specs.declared.writing.Stage.{Stage}
use Rattle.mt_write.specs.declared.writing.Stage.TheVariants.{Seeks, Enters, Searched, Copies, GivesBack, Halved, Posts, Failed}
use Rattle.mt_write.specs.declared.writing.Ending.{Ending}
use Rattle.mt_write.specs.declared.writing.Ending.TheVariants.{Stored as EndStored, Failed as EndFailed}
use Rattle.mt_post.specs.declared.posting.Posting.{Posting}
use Rattle.mt_post.specs.declared.posting.Progressed.TheVariants.{Waits as PostAgain}
use Rattle.mt_post.specs.Causes.{PostWaits}

-- a posting waits only at an interior that is marked deleted, or locked
abbrev pub PostingWaits : ArenaView → Posting → Progress → Type 0
PostingWaits a posting Waits = PostWaits a posting PostAgain
PostingWaits a posting _ = Unit {0}

-- a put or remove waits on its way only where the node that it visits is marked deleted, or is a border that is locked
abbrev pub BorderWaits : ArenaView → ℕ → Progress → Type 0
BorderWaits a number Waits = IsMarkedAt a number ⊎ IsLockedAlready a number
BorderWaits a number _ = Unit {0}

-- it never waits
abbrev pub NeverWaits : Progress → Type 0
NeverWaits Waits = ⊥
NeverWaits _ = Unit {0}

-- once it has locked its border it waits only while it posts
abbrev pub StageWaits : ArenaView → ℕ → Stage → Progress → Type 0
StageWaits a number Seeks p = BorderWaits a number p
StageWaits a number (Posts posting ending) p = PostingWaits a posting p
StageWaits a number stage p = NeverWaits p

abbrev pub WriteWaits : ArenaView → WriteView → Progress → Type 0
WriteWaits a write p = StageWaits a write.way.node.0 write.stage p

-- ---- why a put or remove fails, unless memory is wanting
-- a new row can't be made ready if its slot held a key and the counter of insertions is spent, or if no commit's number
-- is left
abbrev pub fill_fault : LogView → BorderView → Option Refusal
fill_fault log b = option_or (refused_if (insert_is_spent b) Spent) (reserve_fault log)

-- a full border can't be split where its counter of splits is spent, or no number is left for the half
abbrev pub split_fault : ArenaView → BorderView → Option Refusal
split_fault a b = option_or (refused_if (b.version.vsplit == MAX_SPLITS) Spent)
    (refused_if (occupied a.nodes == MAX_NODES) ArenaFull)

-- a layer can't be made where fewer than two numbers are left
abbrev pub layer_fault : ArenaView → Option Refusal
layer_fault a = refused_if (nat_lt MAX_NODES (occupied a.nodes + 2)) ArenaFull

-- a put that asks for a version is refused where the row is of another
abbrev pub version_fault : Option ℕ → Option RowView → Option Refusal
version_fault None row = None
version_fault (Some version) row = if version_of row == version then None else Some (OtherVersion (version_of row))

-- by what is found at the border for the key
abbrev pub put_fault : ArenaView → LogView → BorderView → Found → Option Refusal
put_fault a log b (Absent place) = if length b.live == SLOTS then split_fault a b else fill_fault log b
put_fault a log b (Row place) = reserve_fault log
put_fault a log b (OtherSuffix place) = layer_fault a
put_fault a log b _ = None

abbrev pub remove_fault : LogView → Found → Option Refusal
remove_fault log (Row place) = reserve_fault log
remove_fault log _ = None

abbrev pub edit_fault : ArenaView → LogView → Edit → BorderView → Found → Option Refusal
edit_fault a log (Put sets only) b found = option_or (version_fault only (row_found b.live found)) (put_fault a log b found)
edit_fault a log Remove b found = remove_fault log found

-- it doesn't fail, and isn't refused
abbrev pub IsNotFailed : Stage → Type 0
IsNotFailed (Failed refusal split) = ⊥
IsNotFailed (GivesBack half) = ⊥
IsNotFailed _ = Unit {0}

abbrev pub IsNotRefused : Progress → Type 0
IsNotRefused (Refused refusal) = ⊥
IsNotRefused _ = Unit {0}

-- what is to be made ready is refused for a fault, if there is one, and otherwise only if out of memory
abbrev pub ReadyFor : Option Refusal → Result Stage Refusal → Type 0
ReadyFor None result = MatchResult result IsNotFailed (λ refusal. refusal ≡ NoMemory)
ReadyFor (Some fault) result = result ≡ Err fault

-- a write fails for a fault, if there is one, and otherwise only if out of memory
abbrev pub FailsBy : Option Refusal → Option Halves → Stage → Type 0
FailsBy None split (Failed refusal halves) = refusal ≡ NoMemory
FailsBy None split stage = Unit {0}
FailsBy (Some fault) split stage = stage ≡ Failed fault split

-- of a remove that may find no row
abbrev pub RemoveFailsBy : Option Refusal → Option Stage → Type 0
RemoveFailsBy fault None = fault ≡ None
RemoveFailsBy fault (Some stage) = FailsBy fault None stage

-- it is to post the right half, and then to end so
abbrev pub IsPosting : Ending → Stage → Type 0
IsPosting ending (Posts posting other) = other ≡ ending
IsPosting ending _ = ⊥

abbrev pub EndsWith : Ending → Stage → Type 0
EndsWith (EndStored commit) stage = IsNotFailed stage
EndsWith (EndFailed refusal) (Failed failed split) = failed ≡ refusal
EndsWith (EndFailed refusal) _ = Unit {0}

-- a write that reads a border fails only when it is out of memory, at a field that takes some
abbrev pub FailsReading : Entering → Stage → Type 0
FailsReading entering (Failed refusal split) = (refusal ≡ NoMemory) × TakesMemory entering
FailsReading entering _ = Unit {0}

-- and so does one that copies a value
abbrev pub FailsCopying : Stage → Type 0
FailsCopying (GivesBack half) = Unit {0}
FailsCopying stage = IsNotFailed stage

-- WHY A PUT OR REMOVE FAILS. It fails in a step that reads a key or a value of a border that it has locked, or copies one,
-- if it is out of memory; or in the step that makes ready at its key's border, or at the half to which its key belongs: for a fault
-- there, or, if there is none, only if out of memory. It is refused only if it had failed, for the same reason.
abbrev pub StageFails : ArenaView → LogView → List ℕ → Edit → Way → Stage → Progress → Stage → Type 0
StageFails a log key edit way (Enters entering) p new = IsNotRefused p × FailsReading entering new
StageFails a log key edit way (Searched there) (Answered answer) new =
    IsSomeAnd (border_at a.nodes way.node.0) (λ b. edit_fault a log edit b (found_for (rest_of key way) b.live) ≡ None)
StageFails a log key edit way (Searched there) p new = IsNotRefused p
    × IsSomeAnd (border_at a.nodes way.node.0)
    (λ b. FailsBy (edit_fault a log edit b (found_for (rest_of key way) b.live)) None new)
StageFails a log key edit way (Copies half cut place outline entries) p new = IsNotRefused p × FailsCopying new
StageFails a log key edit way (GivesBack half) (Refused refused) new = refused ≡ NoMemory
StageFails a log key edit way (GivesBack half) p new = ⊥
StageFails a log key edit way (Halved split place) p new = IsNotRefused p
    × IsSomeAnd (border_at a.nodes way.node.0) (λ b. FailsBy (fill_fault log b) (Some split) new)
StageFails a log key edit way (Failed refusal split) (Refused refused) new = (refused ≡ refusal) × (split ≡ None)
StageFails a log key edit way (Failed refusal split) p new = IsNotRefused p × IsPosting (EndFailed refusal) new
StageFails a log key edit way (Posts posting ending) p new = IsNotRefused p × EndsWith ending new
StageFails a log key edit way stage p new = IsNotRefused p × IsNotFailed new

abbrev pub WriteFails : ArenaView → LogView → WriteView → Progress → WriteView → Type 0
WriteFails a log write p new = StageFails a log write.key write.edit write.way write.stage p new.stage
