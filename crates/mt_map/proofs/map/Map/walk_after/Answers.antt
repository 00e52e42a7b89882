use Rattle.std.proofs.Common.{◌≡◌, true, false, rules}
use Rattle.std.specs.Option.{option_copied}
use Rattle.mt_map.proofs.BoundLemmas.{after_absent, after_present}
use Rattle.mt_map.proofs.map.Map.walk_after.Goals as goal

pub returns-then-not-there-clause-start : goal.returns-then-not-there-clause-start
returns-then-not-there-clause-start c =
    let none : c.in_ok-there.there ≡ false = search rules in
    after_absent c.args.self.now.machine c.args.key.now c.in_ok-there.there c.in_ok-walk.walk.at none c.in_ok-walk.ensures.start c.in_ok-there.ensures.there

pub returns-clause-start : goal.returns-clause-start
returns-clause-start c =
    let some : c.in_ok-there.there ≡ true = search rules in
    after_present c.args.self.now.machine c.in_ok-walk.walk.machine c.args.key.now c.in_ok-there.there c.in_ok-walk.walk.at c.next.new.self.at (option_copied c.in_ok-_first._first) some c.in_ok-walk.ensures.start c.in_ok-walk.ensures.machine c.in_ok-there.ensures.there c.in_ok-_first.ensures.row
