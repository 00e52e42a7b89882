-- What the words of the command line mean, and how the program ends.
use Rattle.std.specs.Prelude.{◌≡◌, ℕ, List, codes, Option, Result, Ok, Err}
use Rattle.std.specs.Result.{result_err}
use Rattle.clap.specs.Words.{App, HasMatchesOf, new_app, with_rule}
use Rattle.clap.specs.declared.parser.matches.ArgMatches.{ArgMatches}
use Rattle.mt_command_line.specs.Opening.{columns_rule, IsColumns}
use Rattle.mt_command_line.specs.declared.ending.Ending.{Ending}
use Rattle.mt_script.specs.declared.fault.ScriptFault.{ScriptFault}
use Rattle.mt_audit.specs.Audit.{Audited, Unfinished}

-- the options of mtcheck
abbrev pub mtcheck_app : App
mtcheck_app = with_rule (new_app (codes "mtcheck")) columns_rule

-- the number of columns that these words say: that which a parse of them finds
abbrev pub IsSaid : List (List ℕ) → ℕ → Type 0
IsSaid words columns = (matches : ArgMatches) × HasMatchesOf mtcheck_app words matches × IsColumns 8 matches columns

-- that of the audit; 3 where it was not finished
abbrev pub status_of : Result ℕ ScriptFault → ℕ
status_of (Ok status) = status
status_of (Err fault) = 3

-- how an audit of an index of C columns ended: what was read of the input, which bytes of it the reader still has, and
-- what was written after the old bytes
abbrev pub Ended : ℕ → Result ℕ ScriptFault → Option (List ℕ) → Option (List ℕ) → Option (List ℕ) → Option (List ℕ) →
    Type 0
Ended C (Ok status) input unread old new = Audited C input old status new
Ended C (Err fault) input unread old new = Unfinished C fault input unread old new

-- the input was audited as these words of the command line ask, and ended so
pub record Answered
    (words : List (List ℕ)) (ending : Ending ScriptFault) (input unread old new : Option (List ℕ)) : Type 0 where
  pub columns : ℕ
  pub audited : Result ℕ ScriptFault
  pub said : IsSaid words columns
  pub ended : Ended columns audited input unread old new
  pub status : ending.status ≡ status_of audited
  pub fault : ending.fault ≡ result_err audited
