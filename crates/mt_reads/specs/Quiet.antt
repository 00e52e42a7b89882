-- Reads of one moment that are neither gets nor ranges in the order of the keys.
use Rattle.std.specs.Prelude.{ℕ, ◌≡◌, Option}
use Rattle.mt_types.specs.Limited.{FoundAreLimited, PairsAreLimited}
use Rattle.mt_types.specs.Rows.{Rows}
use Rattle.mt_types.specs.declared.refusal.Refusal.{Refusal}
use Rattle.mt_reads.specs.Counts.{count_fault, count_of, gets_fault, rows_of}
use Rattle.mt_reads.specs.Ranges.{IsRangeBack, back_fault}
use Rattle.mt_reads.specs.declared.quiet.QuietRead.{QuietRead}
use Rattle.mt_reads.specs.declared.quiet.QuietRead.TheVariants.{Gets, RangeBack, Count}
use Rattle.mt_reads.specs.declared.quiet.QuietAnswer.{QuietAnswer}
use Rattle.mt_reads.specs.declared.quiet.QuietAnswer.TheVariants.{Rows as RowsAnswer, Pairs as PairsAnswer, Count as CountAnswer}

-- WHAT A MAP ANSWERS
abbrev pub IsQuietAnswer : Rows → QuietRead → QuietAnswer → Type 0
IsQuietAnswer map (Gets keys asked) (RowsAnswer found) = found ≡ rows_of map asked keys
IsQuietAnswer map (RangeBack before limit asked) (PairsAnswer pairs) = IsRangeBack map asked before limit pairs
IsQuietAnswer map (Count from to most) (CountAnswer count) = count ≡ count_of map from to most
IsQuietAnswer map read answer = ⊥

-- the first limit that is broken
abbrev pub quiet_fault : ℕ → QuietRead → Option Refusal
quiet_fault columns (Gets keys asked) = gets_fault columns keys asked
quiet_fault columns (RangeBack before limit asked) = back_fault columns before limit asked
quiet_fault columns (Count from to most) = count_fault from to

abbrev pub QuietAnswerIsLimited : QuietAnswer → Type 0
QuietAnswerIsLimited (RowsAnswer found) = FoundAreLimited found
QuietAnswerIsLimited (PairsAnswer pairs) = PairsAreLimited pairs
QuietAnswerIsLimited (CountAnswer count) = Unit {0}
