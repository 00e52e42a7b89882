-- Answers that keep the limits of an index, and of a server: it counts at most 64 numbers, under names of at most 64 bytes,
-- and lists at most 64 views.
use Rattle.std.specs.Prelude.{ℕ, ◌≤◌, List, length, Option, Some, None}
use Rattle.std.specs.List.{AllByRecursion}
use Rattle.mt_types.specs.declared.limits.TheConstants.{MAX_KEY_BYTES, MAX_COLUMN_BYTES, MAX_VIEWS}
use Rattle.mt_types.specs.declared.view.ViewSpec.{ViewSpec}
use Rattle.mt_types.specs.declared.view.ViewSpec.TheVariants.{Range as RangeOf, Prefix as PrefixOf}
use Rattle.mt_types.specs.declared.view.RowTest.{RowTest}
use Rattle.mt_types.specs.declared.view.RowTest.TheVariants.{Equals}
use Rattle.mt_types.specs.Limited.{RowIsLimited, PairsAreLimited, FoundAreLimited, PageIsLimited}
use Rattle.mt_wire.specs.declared.response.Response.{Response}
use Rattle.mt_wire.specs.declared.response.Response.TheVariants.{Done, View, FoundAll, Server}
use Rattle.mt_wire.specs.declared.server.ListedView.{ListedView}
use Rattle.mt_wire.specs.declared.server.ServerResponse.{ServerResponse}
use Rattle.mt_wire.specs.declared.server.ServerResponse.TheVariants.{Info, Views}
use Rattle.mt_wire.specs.declared.response.End.{End}
use Rattle.mt_wire.specs.declared.response.End.TheVariants.{Found, Rows}

abbrev pub EndIsLimited : End → Type 0
EndIsLimited (Found row) = RowIsLimited row
EndIsLimited (Rows pairs) = PairsAreLimited pairs
EndIsLimited _ = Unit {0}

abbrev pub TestIsLimited : RowTest → Type 0
TestIsLimited (Equals column bytes) = length bytes ≤ MAX_COLUMN_BYTES
TestIsLimited _ = Unit {0}

abbrev pub UpperIsLimited : Option (List ℕ) → Type 0
UpperIsLimited None = Unit {0}
UpperIsLimited (Some key) = length key ≤ MAX_KEY_BYTES

abbrev pub SpecIsLimited : ViewSpec → Type 0
SpecIsLimited (RangeOf lo hi test) = (length lo ≤ MAX_KEY_BYTES) × UpperIsLimited hi × TestIsLimited test
SpecIsLimited (PrefixOf key test) = (length key ≤ MAX_KEY_BYTES) × TestIsLimited test

abbrev pub ViewsAreLimited : List ListedView → Type 0
ViewsAreLimited views = (length views ≤ MAX_VIEWS) × AllByRecursion (λ view. SpecIsLimited view.spec) views

abbrev pub ServedIsLimited : ServerResponse → Type 0
ServedIsLimited (Info counts) = (length counts ≤ 64) × AllByRecursion (λ count. length count.name ≤ 64) counts
ServedIsLimited (Views commits views) = ViewsAreLimited views
ServedIsLimited _ = Unit {0}

abbrev pub ResponseIsLimited : Response → Type 0
ResponseIsLimited (Done start stop end) = EndIsLimited end
ResponseIsLimited (View page) = PageIsLimited page
ResponseIsLimited (FoundAll at rows) = FoundAreLimited rows
ResponseIsLimited (Server response) = ServedIsLimited response
ResponseIsLimited _ = Unit {0}
