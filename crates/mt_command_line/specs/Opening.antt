-- The options of an index.
use Rattle.std.specs.Prelude.{ℕ, List, [], ◌∷◌, codes}
use Rattle.clap.specs.Words.{App, Rule, found_of, one_text, with_rule}
use Rattle.clap.specs.declared.parser.matches.ArgMatches.{ArgMatches}
use Rattle.mt_command_line.specs.Numbers.{number_rule, IsNumber}

-- --columns N, from 1 to 16
abbrev pub columns_rule : Rule
columns_rule = number_rule (codes "columns") 1 16

-- --NAME N, which --ALIAS N names too
abbrev pub aliased_rule : List ℕ → List ℕ → ℕ → ℕ → Rule
aliased_rule name alias least most = record (number_rule name least most) { aliases = alias ∷ [] }

-- the options of an index, after those that are there
abbrev pub with_index_rules : App → App
with_index_rules app =
    with_rule
    (with_rule
    (with_rule app columns_rule)
    (aliased_rule (codes "log-capacity") (codes "feed") 1 65536))
    (aliased_rule (codes "log-retention") (codes "keep") 0 65536)

-- the number of columns that was found on a command line, of this many bits, or 1
abbrev pub IsColumns : ℕ → ArgMatches → ℕ → Type 0
IsColumns bits matches columns = IsNumber bits (one_text (found_of matches) (codes "columns")) 1 columns

-- how many commits the log is to hold for its slowest reader, as a command line says, or 4096
abbrev pub IsLogCapacity : ArgMatches → ℕ → Type 0
IsLogCapacity matches capacity = IsNumber 64 (one_text (found_of matches) (codes "log-capacity")) 4096 capacity

-- how many of the last commits the log is to keep for no reader, as a command line says, or 0
abbrev pub IsLogRetention : ArgMatches → ℕ → Type 0
IsLogRetention matches retention = IsNumber 64 (one_text (found_of matches) (codes "log-retention")) 0 retention
