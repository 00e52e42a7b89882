use Rattle.std.proofs.Common.{ℕ, List, ap, sym, ◌∙◌, filter}
use Rattle.std.specs.FinMap as map
use Rattle.mt_types.specs.Keys.{key_cmp}
use Rattle.std.specs.Ordering.{is_ge}
use Rattle.mt_types.specs.declared.row.Row.{Row}
use Rattle.mt_types.proofs.MapLemmas.{between-from, entries-seen}
use Rattle.mt_rows.proofs.rows.Rows.from_key.Goals as goal

pub returns : goal.returns
returns c =
    c.range.ensures.between tt
    ∙ between-from c.args.start.now c.self.inside.rows.entries
    ∙ ap (filter (λ (pair : List ℕ × Row). is_ge (key_cmp pair.0 c.args.start.now))) (sym (entries-seen c.self.inside.rows c.self.invariant) ∙ ap map.entries c.self.view_is)
