use Rattle.std.proofs.Common.{◌≡◌, ◌∙◌, [], refl, subst}
use Rattle.std.specs.FinMap.{empty}
use Rattle.mt_types.specs.Rows.{Rows}
use Rattle.mt_load.specs.Loading.{HasLoaded}
use Rattle.mt_load.proofs.LoadLemmas.{all_left, none_left}
use Rattle.mt_load.proofs.loading.put_all.Goals as goal

pub loop-key-init : goal.loop-key-init
loop-key-init c = record { parted = (empty, [], c.requires, all_left c.args.rows); columns = refl; bounds = (refl, refl) }

pub take-requires : goal.take-requires
take-requires c =
    let (map, es, has, parted) = c.loop-key.invariant.parted in
    (c.args.rows, map, es, has, parted)

pub loop-key-preserved : goal.loop-key-preserved
loop-key-preserved c =
    let (map, es, has, parted) = c.loop-key.invariant.parted in
    record {
      parted = c.in_ok-take.ensures.taken c.args.rows map es has parted;
      columns = c.take.ensures.columns ∙ c.loop-key.invariant.columns;
      bounds = (c.take.ensures.bounds.0 ∙ c.loop-key.invariant.bounds.0, c.take.ensures.bounds.1 ∙ c.loop-key.invariant.bounds.1);
    }

pub returns-then-is_empty-clause-loaded : goal.returns-then-is_empty-clause-loaded
returns-then-is_empty-clause-loaded c =
    let (map, es, has, parted) = c.loop-key.invariant.parted in
    (es, subst (λ (m : Rows). HasLoaded m es c.loop-key.machine) (none_left c.args.rows map c.loop-key.left (c.is_empty.ensures.0 c.if-is_empty.true) parted) has)
