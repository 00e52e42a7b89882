-- What keeps the limits of an index: few columns, of few bytes, under keys of few bytes, and not too many at once.
use Rattle.std.specs.Prelude.{ℕ, ◌≤◌, List, length, Option, IfSome}
use Rattle.std.specs.List.{AllByRecursion}
use Rattle.mt_types.specs.declared.row.Row.{Row}
use Rattle.mt_types.specs.declared.view.Page.{Page}
use Rattle.mt_types.specs.declared.event.Answer.{Answer}
use Rattle.mt_types.specs.declared.event.Answer.TheVariants.{Found, Rows}
use Rattle.mt_types.specs.declared.event.Outcome.{Outcome}
use Rattle.mt_types.specs.declared.event.Outcome.TheVariants.{Done, View}
use Rattle.mt_types.specs.declared.limits.TheConstants.{MAX_KEY_BYTES, MAX_COLUMNS, MAX_COLUMN_BYTES, MAX_RANGE}

abbrev pub ColumnIsLimited : List ℕ → Type 0
ColumnIsLimited column = length column ≤ MAX_COLUMN_BYTES

abbrev pub RowIsLimited : Row → Type 0
RowIsLimited row = (length row.columns ≤ MAX_COLUMNS) × AllByRecursion ColumnIsLimited row.columns

abbrev pub PairIsLimited : List ℕ × Row → Type 0
PairIsLimited pair = (length pair.0 ≤ MAX_KEY_BYTES) × RowIsLimited pair.1

-- no more pairs than a range may ask for
abbrev pub PairsAreLimited : List (List ℕ × Row) → Type 0
PairsAreLimited pairs = (length pairs ≤ MAX_RANGE) × AllByRecursion PairIsLimited pairs

-- no more rows than a range may ask for
abbrev pub FoundAreLimited : List (Option Row) → Type 0
FoundAreLimited rows = (length rows ≤ MAX_RANGE) × AllByRecursion (λ found. IfSome found RowIsLimited) rows

abbrev pub PageIsLimited : Page → Type 0
PageIsLimited page = (length page.sums ≤ MAX_COLUMNS) × PairsAreLimited page.rows

abbrev pub AnswerIsLimited : Answer → Type 0
AnswerIsLimited (Found row) = RowIsLimited row
AnswerIsLimited (Rows pairs) = PairsAreLimited pairs
AnswerIsLimited _ = Unit {0}

abbrev pub OutcomeIsLimited : Outcome → Type 0
OutcomeIsLimited (Done reply) = AnswerIsLimited reply.answer
OutcomeIsLimited (View page) = PageIsLimited page
OutcomeIsLimited _ = Unit {0}
