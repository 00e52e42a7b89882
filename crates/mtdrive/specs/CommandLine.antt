-- What the words of the command line mean, and how the program ends.
use Rattle.std.specs.Prelude.{◌≡◌, ℕ, ◌==◌, if◌then◌else◌, List, codes, Option, IfSome, Result, Ok, Err}
use Rattle.std.specs.Result.{result_err}
use Rattle.clap.specs.Words.{App, HasMatchesOf, new_app}
use Rattle.clap.specs.declared.parser.matches.ArgMatches.{ArgMatches}
use Rattle.mt_command_line.specs.Opening.{with_index_rules, IsColumns, IsLogCapacity, IsLogRetention}
use Rattle.mt_command_line.specs.declared.ending.Ending.{Ending}
use Rattle.mt_index.specs.declared.options.Options.{Options}
use Rattle.mt_types.specs.Limits.{open_fault}
use Rattle.mt_script.specs.declared.fault.ScriptFault.{ScriptFault}
use Rattle.mt_script.specs.declared.fault.ScriptFault.TheVariants.{Read, Write, NoMemory, Start}
use Rattle.mt_script.specs.Script.{Played, Broke}

-- the options of mtdrive
abbrev pub mtdrive_app : App
mtdrive_app = with_index_rules (new_app (codes "mtdrive"))

-- the options that were found on a command line
pub record AreFound (matches : ArgMatches) (options : Options) : Type 0 where
  pub columns : IsColumns 64 matches options.columns
  pub log_capacity : IsLogCapacity matches options.log_capacity
  pub log_retention : IsLogRetention matches options.log_retention

-- the options that these words say: those that a parse of them finds
abbrev pub AreSaid : List (List ℕ) → Options → Type 0
AreSaid words options = (matches : ArgMatches) × HasMatchesOf mtdrive_app words matches × AreFound matches options

-- 0 where each line was answered, 1 where one was bad, 2 where the index can't be opened so, 3 where the script
-- broke off
abbrev pub status_of : Result ℕ ScriptFault → ℕ
status_of (Ok bad) = if bad == 0 then 0 else 1
status_of (Err (Start refusal)) = 2
status_of (Err Read) = 3
status_of (Err Write) = 3
status_of (Err NoMemory) = 3

-- how a script ended on an index of C columns that keeps `retention` commits for no reader: what was read of the input,
-- which bytes of it the reader still has, and what was written after the old bytes
abbrev pub Ended : ℕ → ℕ → Result ℕ ScriptFault → Option (List ℕ) → Option (List ℕ) → Option (List ℕ) →
    Option (List ℕ) → Type 0
Ended C retention (Ok bad) input unread old new = Played C retention input old bad new
Ended C retention (Err fault) input unread old new = Broke C retention fault input unread old new

-- a script was answered as these words of the command line ask, and ended so
pub record Answered
    (words : List (List ℕ)) (ending : Ending ScriptFault) (input unread old new : Option (List ℕ)) : Type 0 where
  pub options : Options
  pub played : Result ℕ ScriptFault
  pub said : AreSaid words options
  pub opened : IfSome (open_fault options.columns options.log_capacity options.log_retention) (λ refusal. played ≡ Err (Start refusal))
  pub ended : Ended options.columns options.log_retention played input unread old new
  pub status : ending.status ≡ status_of played
  pub fault : ending.fault ≡ result_err played
