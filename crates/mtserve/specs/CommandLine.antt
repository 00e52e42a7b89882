-- What the words of the command line mean.
use Rattle.std.specs.Prelude.{◌≡◌, ℕ, true, false, List, codes, Some}
use Rattle.std.specs.Option.{option_map}
use Rattle.clap.specs.Words.{App, HasMatchesOf, Rule, found_of, new_app, new_rule, one_text, with_rule}
use Rattle.clap.specs.Matches.{first_value}
use Rattle.clap.specs.declared.parser.matches.ArgMatches.{ArgMatches}
use Rattle.clap.specs.declared.builder.action.ArgAction.TheVariants.{SetTrue}
use Rattle.mt_command_line.specs.Numbers.{number_rule, IsNumber}
use Rattle.mt_command_line.specs.Opening.{with_index_rules, IsColumns, IsLogCapacity, IsLogRetention}
use Rattle.mtserve.specs.declared.command_line.Settings.{Settings}

-- --NAME, without a value
abbrev pub flag_rule : List ℕ → Rule
flag_rule name = record (new_rule name) { long = Some name; action = Some SetTrue }

-- the options of the server: its port, its workers, and how many connections it serves
abbrev pub with_socket_rules : App → App
with_socket_rules app =
    with_rule
    (with_rule
    (with_rule
    (with_rule app (number_rule (codes "port") 0 65535))
    (number_rule (codes "workers") 1 16))
    (number_rule (codes "sessions") 0 65535))
    (number_rule (codes "connections") 1 1000000)

-- --NAME TEXT
abbrev pub text_rule : List ℕ → Rule
text_rule name = record (new_rule name) { long = Some name; value_names = 1 }

-- the options that say which clients reach the server, and what they may ask
abbrev pub with_access_rules : App → App
with_access_rules app =
    with_rule
    (with_rule
    (with_rule
    (with_rule app (text_rule (codes "listen")))
    (text_rule (codes "token-file")))
    (number_rule (codes "hello-timeout") 0 86400))
    (flag_rule (codes "open"))

-- the options of rows that survive
abbrev pub with_data_rules : App → App
with_data_rules app =
    with_rule
    (with_rule
    (with_rule app (text_rule (codes "data")))
    (text_rule (codes "sync")))
    (number_rule (codes "checkpoint") 0 1099511627776)

-- the limits of time
abbrev pub with_limit_rules : App → App
with_limit_rules app =
    with_rule
    (with_rule
    (with_rule app (number_rule (codes "idle-timeout") 0 86400))
    (number_rule (codes "frame-timeout") 0 86400))
    (number_rule (codes "write-timeout") 0 86400)

-- the options of what an operator reads and limits
abbrev pub with_operating_rules : App → App
with_operating_rules app =
    with_rule
    (with_rule
    (with_rule app (text_rule (codes "log")))
    (number_rule (codes "buffers") 0 1099511627776))
    (number_rule (codes "memory") 0 1099511627776)

-- the options without a value
abbrev pub with_flag_rules : App → App
with_flag_rules app =
    with_rule
    (with_rule
    (with_rule app (flag_rule (codes "forever")))
    (flag_rule (codes "stop-at-end-of-input")))
    (flag_rule (codes "no-tidies"))

-- the options of mtserve
abbrev pub mtserve_app : App
mtserve_app = with_index_rules (with_flag_rules (with_operating_rules (with_limit_rules (with_data_rules (with_access_rules (with_socket_rules (new_app (codes "mtserve"))))))))

-- what was found on a command line
pub record AreFound (matches : ArgMatches) (settings : Settings) : Type 0 where
  pub port : IsNumber 64 (one_text (found_of matches) (codes "port")) 0 settings.port
  pub workers : IsNumber 64 (one_text (found_of matches) (codes "workers")) 0 settings.workers
  pub sessions : IsNumber 64 (one_text (found_of matches) (codes "sessions")) 65536 settings.sessions
  pub connections : IsNumber 64 (one_text (found_of matches) (codes "connections")) 10000 settings.connections
  pub listen : option_map (λ text. text.now) settings.listen ≡ first_value (found_of matches) (codes "listen")
  pub token_file : option_map (λ text. text.now) settings.token_file ≡ first_value (found_of matches) (codes "token-file")
  pub folder : option_map (λ text. text.now) settings.folder ≡ first_value (found_of matches) (codes "data")
  pub sync : option_map (λ text. text.now) settings.sync ≡ first_value (found_of matches) (codes "sync")
  pub checkpoint : IsNumber 64 (one_text (found_of matches) (codes "checkpoint")) 67108864 settings.checkpoint
  pub log : option_map (λ text. text.now) settings.log ≡ first_value (found_of matches) (codes "log")
  pub buffers : IsNumber 64 (one_text (found_of matches) (codes "buffers")) 1073741824 settings.buffers
  pub memory : IsNumber 64 (one_text (found_of matches) (codes "memory")) 0 settings.memory
  pub hello : IsNumber 64 (one_text (found_of matches) (codes "hello-timeout")) 10 settings.hello
  pub idle : IsNumber 64 (one_text (found_of matches) (codes "idle-timeout")) 0 settings.idle
  pub frame : IsNumber 64 (one_text (found_of matches) (codes "frame-timeout")) 30 settings.frame
  pub write : IsNumber 64 (one_text (found_of matches) (codes "write-timeout")) 30 settings.write
  pub forever : one_text (found_of matches) (codes "forever") ≡ Some (codes "true") → settings.forever ≡ true
  pub bounded : one_text (found_of matches) (codes "forever") ≡ Some (codes "false") → settings.forever ≡ false
  pub watched : one_text (found_of matches) (codes "stop-at-end-of-input") ≡ Some (codes "true") → settings.watches_input ≡ true
  pub unwatched : one_text (found_of matches) (codes "stop-at-end-of-input") ≡ Some (codes "false") → settings.watches_input ≡ false
  pub opened : one_text (found_of matches) (codes "open") ≡ Some (codes "true") → settings.is_open ≡ true
  pub unopened : one_text (found_of matches) (codes "open") ≡ Some (codes "false") → settings.is_open ≡ false
  pub columns : IsColumns 64 matches settings.options.columns
  pub log_capacity : IsLogCapacity matches settings.options.log_capacity
  pub log_retention : IsLogRetention matches settings.options.log_retention
  pub untidied : one_text (found_of matches) (codes "no-tidies") ≡ Some (codes "true") → settings.options.tidies ≡ false
  pub tidied : one_text (found_of matches) (codes "no-tidies") ≡ Some (codes "false") → settings.options.tidies ≡ true

-- what these words say: what a parse of them finds
abbrev pub AreSaid : List (List ℕ) → Settings → Type 0
AreSaid words settings = (matches : ArgMatches) × HasMatchesOf mtserve_app words matches × AreFound matches settings
