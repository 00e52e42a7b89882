-- What the words of the command line mean.
use Rattle.std.specs.Prelude.{◌≡◌, ℕ, ◌-◌, ◌^◌, true, List, codes, Option, Some, None}
use Rattle.std.specs.Str.Parse.{digits_value, without_leading_plus}
use Rattle.clap.specs.Words.{App, HasMatchesOf, Rule, found_of, first_value, new_app, new_rule, one_text, with_rule}
use Rattle.clap.specs.declared.parser.matches.ArgMatches.{ArgMatches}
use Rattle.mt_command_line.specs.Numbers.{number_rule, SaysNumber}
use Rattle.mtfolder.specs.declared.command_line.Asked.{Asked}
use Rattle.mtfolder.specs.declared.command_line.Task.{Task}
use Rattle.mtfolder.specs.declared.command_line.Task.TheVariants.{Show, Verify, Rows, Cut}

-- NAME, a word that has to be there
abbrev pub word_rule : List ℕ → Rule
word_rule name = record (new_rule name) { required = true; value_names = 1 }

-- the words and the option of mtfolder
abbrev pub mtfolder_app : App
mtfolder_app =
    with_rule
    (with_rule
    (with_rule (new_app (codes "mtfolder")) (word_rule (codes "task")))
    (word_rule (codes "folder")))
    (number_rule (codes "at") 0 (2 ^ 64 - 1))

-- the task has this name, and is given this number if it is a cut, and else none
abbrev pub IsTask : List ℕ → Option ℕ → Task → Type 0
IsTask name at Show = (name ≡ codes "show") × (at ≡ None)
IsTask name at Verify = (name ≡ codes "verify") × (at ≡ None)
IsTask name at Rows = (name ≡ codes "rows") × (at ≡ None)
IsTask name at (Cut commit) = (name ≡ codes "cut") × (at ≡ Some commit)

-- the number that an option was given, if it was
abbrev pub IsCommit : Option (List ℕ) → Option ℕ → Type 0
IsCommit None at = at ≡ None
IsCommit (Some text) at = SaysNumber 64 text → at ≡ Some (digits_value 10 (without_leading_plus text))

-- this was found on a command line
pub record IsFound (matches : ArgMatches) (asked : Asked) : Type 0 where
  pub name : List ℕ
  pub at : Option ℕ
  pub named : first_value (found_of matches) (codes "task") ≡ Some name
  pub folder : first_value (found_of matches) (codes "folder") ≡ Some asked.folder.now
  pub number : IsCommit (one_text (found_of matches) (codes "at")) at
  pub task : IsTask name at asked.task

-- THESE WORDS ASK FOR THIS: it is what a parse of them finds
abbrev pub IsSaid : List (List ℕ) → Asked → Type 0
IsSaid words asked = (matches : ArgMatches) × HasMatchesOf mtfolder_app words matches × IsFound matches asked
