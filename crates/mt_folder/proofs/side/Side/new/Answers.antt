use Rattle.std.proofs.Common.{ℕ, List, sym, subst}
use Rattle.mt_folder.specs.Files.{HeaderOf}
use Rattle.mt_folder.proofs.side.Side.new.Goals as goal

-- reading the header changes nothing
pub returns-clause-header : goal.returns-clause-header
returns-clause-header g c = λ clean.
    subst (λ (seen : List ℕ). HeaderOf c.args.columns seen c.in_ok-header.header) (sym c.header_of.ensures.seen) (c.in_ok-header.ensures.header clean)
