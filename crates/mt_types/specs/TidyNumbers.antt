-- The numbers of what a tidy did, as frames and C callers get them.
use Rattle.std.specs.Prelude.{ℕ, zero, suc, Option, Some, None}
use Rattle.mt_types.specs.declared.event.TidyRule.{TidyRule}
use Rattle.mt_types.specs.declared.event.TidyRule.TheVariants.{Nothing, EmptyBorder, LoneChild, LoneRootChild, EmptyLayer}

abbrev pub tidy_number : TidyRule → ℕ
tidy_number Nothing = 0
tidy_number EmptyBorder = 1
tidy_number LoneChild = 2
tidy_number LoneRootChild = 3
tidy_number EmptyLayer = 4

-- the rule of this number, if there is one
unfoldable pub tidy_of : ℕ → Option TidyRule
tidy_of zero = Some Nothing
tidy_of (suc zero) = Some EmptyBorder
tidy_of (suc (suc zero)) = Some LoneChild
tidy_of (suc (suc (suc zero))) = Some LoneRootChild
tidy_of (suc (suc (suc (suc zero)))) = Some EmptyLayer
tidy_of (suc (suc (suc (suc (suc number))))) = None
