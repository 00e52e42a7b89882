use Rattle.std.proofs.Common.{◌≡◌, ◌∙◌, ℕ, subst}
use Rattle.mt_load.specs.Loaded.{IsLoaded}
use Rattle.mt_load.proofs.LoadLemmas.{opened}
use Rattle.mt_load.proofs.loading.load.Goals as goal

pub put_all-requires : goal.put_all-requires
put_all-requires c = opened c.in-Ok.machine c.in-Ok.ensures.opened.2

pub returns-clause-loaded : goal.returns-clause-loaded
returns-clause-loaded c =
    let (es, has) = c.in_ok-put_all.ensures.loaded in
    subst (λ (C : ℕ). IsLoaded C c.args.commits c.args.rows c.end_at.new.machine) (c.put_all.ensures.columns ∙ c.in-Ok.ensures.opened.0) (c.in_ok-end_at.ensures.loaded c.args.rows es has)
