-- The rows of logs that were read are those of the files that spell these logs.
use Rattle.std.proofs.Common.{◌≡◌, ◌∷◌, ◌+◌, ℕ, List, [], length, Option, Some, None, Result, Ok, Err, IfOk, IsTrue, sym, subst, arith}
use Rattle.std.proofs.lemmas.List.{length-append}
use Rattle.mt_frame.specs.declared.entry.Entry.{Entry}
use Rattle.mt_frame.specs.declared.entry.Entry.TheVariants.{Header, Commits as Group, Rows as Listed, Sealed, Closed}
use Rattle.mt_journal.specs.Log.{last_number}
use Rattle.mt_replay.specs.Redo.{number_after}
use Rattle.mt_replay.specs.Replay.{records_in}
use Rattle.mt_folder.specs.declared.log.LogRead.{LogRead}
use Rattle.mt_folder.specs.declared.opening.OpenedLog.{OpenedLog}
use Rattle.mt_folder.specs.declared.reading.RowsRead.{RowsRead}
use Rattle.mt_folder.specs.declared.source.Source.{Source}
use Rattle.mt_folder.specs.declared.source.Source.TheVariants.{Newer, Older, Both, Neither}
use Rattle.mt_folder.specs.Logs.{is_whole, AreOfSource, HasRows}
use Rattle.mt_folder.specs.Files.{AreRows, IsNewest, Says}
use Rattle.mt_folder.specs.Kept.{KeepsLog, KeepsLogs, KeepsSource}

-- those of a log that has them all
pub rows_of_one : (C : ℕ) (bytes others : List ℕ) (source : Option Source) (read : RowsRead) (log : LogRead) → Says C bytes log → IsTrue (is_whole log) → IsNewest C log others → source ≡ Some Newer → HasRows log read → AreRows C bytes others source read
rows_of_one C bytes others source read log says whole newest is rows =
    subst (λ (s : Option Source). AreRows C bytes others s read) (sym is) (record { log = log; says = says; whole = whole; newest = newest; rows = rows })

-- those of two logs
pub rows_of_two : (C : ℕ) (bytes others : List ℕ) (source : Option Source) (read : RowsRead) (newer older : LogRead) → Says C bytes newer → Says C others older → IsNewest C newer others → AreOfSource newer older source read → AreRows C bytes others source read
rows_of_two C bytes others (Some Newer) read newer older says said newest rows = record { log = newer; says = says; whole = rows.0; newest = newest; rows = rows.1 }
rows_of_two C bytes others (Some Older) read newer older says said newest rows = record { newer = newer; older = older; says = says; said = said; newest = newest; rows = rows }
rows_of_two C bytes others (Some Both) read newer older says said newest rows = record { newer = newer; older = older; says = says; said = said; newest = newest; rows = rows }
rows_of_two C bytes others (Some Neither) read newer older says said newest rows = absurd rows
rows_of_two C bytes others None read newer older says said newest rows = absurd rows

-- the log in use is the one that was read
pub keeps_one : {D : Type 0} (C : ℕ) (seen : D → List ℕ) (may_leave : D → List ℕ → Type 0) (bytes others : List ℕ) (source : Option Source) (opened : OpenedLog D) (log : LogRead) → source ≡ Some Newer → Says C bytes log → KeepsLog seen may_leave log opened
    → KeepsLogs C seen may_leave bytes others source opened
keeps_one C seen may_leave bytes others source opened log is says keeps =
    subst (λ (s : Option Source). KeepsLogs C seen may_leave bytes others s opened) (sym is) (log, says, keeps)

pub keeps_two : {D : Type 0} (C : ℕ) (seen : D → List ℕ) (may_leave : D → List ℕ → Type 0) (bytes others : List ℕ) (opened : OpenedLog D) (newer older : LogRead) → Says C bytes newer → Says C others older
    → (source : Option Source) → KeepsSource seen may_leave newer older source opened → KeepsLogs C seen may_leave bytes others source opened
keeps_two C seen may_leave bytes others opened newer older says said (Some Newer) keeps = (newer, says, keeps)
keeps_two C seen may_leave bytes others opened newer older says said (Some Older) keeps = (older, said, keeps)
keeps_two C seen may_leave bytes others opened newer older says said (Some Both) keeps = (newer, older, says, said, keeps)
keeps_two C seen may_leave bytes others opened newer older says said (Some Neither) keeps = absurd keeps
keeps_two C seen may_leave bytes others opened newer older says said None keeps = absurd keeps

-- the number of the last commit, counted one entry at a time
pub last_is : (n : ℕ) (entries : List Entry) → last_number n entries ≡ number_after n entries
last_is n [] = let none : n ≡ n + 0 = omega arith in none
last_is n (Header header ∷ entries) = last_is n entries
last_is n (Group commits ∷ entries) =
    let rest = last_is (n + length commits.records) entries in
    let all = length-append commits.records (records_in entries) in
    omega (arith, rest, all)
last_is n (Listed part ∷ entries) = last_is n entries
last_is n (Sealed count ∷ entries) = last_is n entries
last_is n (Closed number ∷ entries) = last_is n entries

-- what holds of this source holds of the source of the log that was opened
pub by_source : {D E : Type 0} (result : Result (OpenedLog D) E) (P : OpenedLog D → Type 0) (K : Option Source → OpenedLog D → Type 0) (source : Option Source) → IfOk result (λ r. r.source ≡ source) → IfOk result (λ r. P r → K source r) → IfOk result (λ r. P r → K r.source r)
by_source (Ok r) P K source is holds = λ p. subst (λ (s : Option Source). K s r) (sym is) (holds p)
by_source (Err error) P K source is holds = tt
