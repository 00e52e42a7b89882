-- The numbers of refusals, as texts and frames give them.
use Rattle.std.specs.Prelude.{ℕ, zero, suc, Option, Some, None, ◌==◌, if◌then◌else◌}
use Rattle.mt_types.specs.declared.refusal.Refusal.{Refusal}
use Rattle.mt_types.specs.declared.refusal.Refusal.TheVariants.{NoMemory, KeyTooLong, BadColumn, ColumnTooLong, BadLimit, ArenaFull, FeedFull, TooManyCalls, NoSuchCall, TooManyViews, NoSuchView, Behind, BadRange, Spent, WrongPass, OtherVersion}

abbrev pub refusal_number : Refusal → ℕ
refusal_number NoMemory = 1
refusal_number KeyTooLong = 2
refusal_number BadColumn = 3
refusal_number ColumnTooLong = 4
refusal_number BadLimit = 5
refusal_number ArenaFull = 6
refusal_number (FeedFull held_from) = 7
refusal_number TooManyCalls = 8
refusal_number NoSuchCall = 9
refusal_number TooManyViews = 10
refusal_number NoSuchView = 11
refusal_number (Behind at) = 12
refusal_number BadRange = 13
refusal_number Spent = 14
refusal_number WrongPass = 15
refusal_number (OtherVersion found) = 16

-- the number of a commit that goes with a refusal
abbrev pub refusal_detail : Refusal → Option ℕ
refusal_detail (FeedFull held_from) = Some held_from
refusal_detail (Behind at) = Some at
refusal_detail (OtherVersion found) = Some found
refusal_detail _ = None

-- this refusal, which has no detail, if the detail is 0
abbrev pub if_no_detail : Refusal → ℕ → Option Refusal
if_no_detail refusal detail = if detail == 0 then Some refusal else None

-- the refusal of this number with this detail, if there is one; the detail of one that has none is 0
unfoldable pub refusal_of : ℕ → ℕ → Option Refusal
refusal_of zero = λ detail. None
refusal_of (suc zero) = if_no_detail NoMemory
refusal_of (suc (suc zero)) = if_no_detail KeyTooLong
refusal_of (suc (suc (suc zero))) = if_no_detail BadColumn
refusal_of (suc (suc (suc (suc zero)))) = if_no_detail ColumnTooLong
refusal_of (suc (suc (suc (suc (suc zero))))) = if_no_detail BadLimit
refusal_of (suc (suc (suc (suc (suc (suc zero)))))) = if_no_detail ArenaFull
refusal_of (suc (suc (suc (suc (suc (suc (suc zero))))))) = λ detail. Some (FeedFull detail)
refusal_of (suc (suc (suc (suc (suc (suc (suc (suc zero)))))))) = if_no_detail TooManyCalls
refusal_of (suc (suc (suc (suc (suc (suc (suc (suc (suc zero))))))))) = if_no_detail NoSuchCall
refusal_of (suc (suc (suc (suc (suc (suc (suc (suc (suc (suc zero)))))))))) = if_no_detail TooManyViews
refusal_of (suc (suc (suc (suc (suc (suc (suc (suc (suc (suc (suc zero))))))))))) = if_no_detail NoSuchView
refusal_of (suc (suc (suc (suc (suc (suc (suc (suc (suc (suc (suc (suc zero)))))))))))) = λ detail. Some (Behind detail)
refusal_of (suc (suc (suc (suc (suc (suc (suc (suc (suc (suc (suc (suc (suc zero))))))))))))) = if_no_detail BadRange
refusal_of (suc (suc (suc (suc (suc (suc (suc (suc (suc (suc (suc (suc (suc (suc zero)))))))))))))) = if_no_detail Spent
refusal_of (suc (suc (suc (suc (suc (suc (suc (suc (suc (suc (suc (suc (suc (suc (suc zero))))))))))))))) =
    if_no_detail WrongPass
refusal_of (suc (suc (suc (suc (suc (suc (suc (suc (suc (suc (suc (suc (suc (suc (suc (suc zero)))))))))))))))) =
    λ detail. Some (OtherVersion detail)
refusal_of (suc (suc (suc (suc (suc (suc (suc (suc (suc (suc (suc (suc (suc (suc (suc (suc (suc number))))))))))))))))) =
    λ detail. None
