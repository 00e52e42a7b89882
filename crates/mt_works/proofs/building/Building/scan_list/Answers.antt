use Rattle.std.proofs.Common.{ℕ, Some, inr, refl, ap}
use Rattle.mt_scan.specs.declared.scan.ScanMove.TheVariants.{Done, To, Top}
use Rattle.mt_works.proofs.BuildSteps.{lists_so}
use Rattle.mt_works.proofs.building.Building.scan_list.Goals as goal

pub returns-in-Ok-To-clause-lists : goal.returns-in-Ok-To-clause-lists
returns-in-Ok-To-clause-lists c = inr (
  refl,
  lists_so c.args.log.now c.args.self.now c.args.listed.entries c.as_slice.result.now c.as_slice.ensures c.args.listed.right c.in-Ok-To.field-0 c.visit.new.self c.in-Ok-To.ensures.visited c.visit.ensures.state
      c.in-Ok-To.ensures.leads c.in-Ok-To.ensures.onward c.in-Ok-To.ensures.within (To c.in-Ok-To.next) c.in-Ok-To.field-0-is _ refl,
)

pub returns-in-Ok-Top-clause-lists : goal.returns-in-Ok-Top-clause-lists
returns-in-Ok-Top-clause-lists c = inr (
  refl,
  lists_so c.args.log.now c.args.self.now c.args.listed.entries c.as_slice.result.now c.as_slice.ensures c.args.listed.right c.in-Ok-Top.field-0 c.visit.new.self c.in-Ok-Top.ensures.visited c.visit.ensures.state
      c.in-Ok-Top.ensures.leads c.in-Ok-Top.ensures.onward c.in-Ok-Top.ensures.within Top c.in-Ok-Top.field-0-is _ refl,
)

pub returns-in-Ok-Done-clause-lists : goal.returns-in-Ok-Done-clause-lists
returns-in-Ok-Done-clause-lists c = inr (
  refl,
  lists_so c.args.log.now c.args.self.now c.args.listed.entries c.as_slice.result.now c.as_slice.ensures c.args.listed.right c.in-Ok-Done.field-0 c.visit.new.self c.in-Ok-Done.ensures.visited c.visit.ensures.state
      c.in-Ok-Done.ensures.leads c.in-Ok-Done.ensures.onward c.in-Ok-Done.ensures.within Done c.in-Ok-Done.field-0-is _ (ap (λ (n : ℕ). record { build = c.visit.new.self; node = c.args.self.now.node; upto = Some n; listing = c.args.self.now.listing }) c.number.ensures.value),
)
