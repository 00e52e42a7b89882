use Rattle.std.proofs.Common.{ℕ, ◌<◌, sym, subst, ◌∙◌}
use Rattle.mt_scan.specs.Listed.{list_of}
use Rattle.mt_scan.specs.Scan.{ScanView}
use Rattle.mt_scan.specs.Onward.{cursor_in, cursor_of, all_cursors, GoesOnward}
use Rattle.mt_scan.proofs.LeadLemmas.{visit_leads}
use Rattle.mt_works.specs.Build.{BuildView, build_cursor}
use Rattle.mt_works.proofs.ReadLemmas.{visited, visits_all}
use Rattle.mt_works.proofs.build.Build.visit.Goals as goal

pub returns-clause-visited : goal.returns-clause-visited
returns-clause-visited c =
    visited c.self.inside.scan c.visit-visited.new.self c.take_pairs-pairs.new.self (list_of c.args.entries.now c.args.right) c.self.inside.state c.take_in.new.self c.args.self.now c.as_slice.result.now c.in_ok-visited.visited
    c.self.view_is c.self.invariant.taken c.self.invariant.asked c.self.invariant.limit c.requires.few c.in_ok-visited.ensures.visited c.in_ok-visited.ensures.home
    (c.as_slice.ensures ∙ c.take_pairs-pairs.ensures.value) c.take_pairs-pairs.ensures.bytes c.take_pairs-pairs.ensures.left c.in_ok-take_in.ensures.kept c.in_ok-take_in.ensures.afresh

pub returns-then-is_at_end-clause-visited : goal.returns-then-is_at_end-clause-visited
returns-then-is_at_end-clause-visited c =
    visits_all c.args.self.now (list_of c.args.entries.now c.args.right) c.in_ok-visited.visited _
    (visited c.self.inside.scan c.visit-visited.new.self c.take_pairs-pairs.new.self (list_of c.args.entries.now c.args.right) c.self.inside.state c.take_in.new.self c.args.self.now c.as_slice.result.now c.in_ok-visited.visited
    c.self.view_is c.self.invariant.taken c.self.invariant.asked c.self.invariant.limit c.requires.few c.in_ok-visited.ensures.visited c.in_ok-visited.ensures.home
    (c.as_slice.ensures ∙ c.take_pairs-pairs.ensures.value) c.take_pairs-pairs.ensures.bytes c.take_pairs-pairs.ensures.left c.in_ok-take_in.ensures.kept c.in_ok-take_in.ensures.afresh)
    (c.is_at_end.ensures c.if-is_at_end.true)

pub returns-clause-onward : goal.returns-clause-onward
returns-clause-onward c =
    subst (λ (s : ScanView). GoesOnward (build_cursor c.args.self.now) (list_of c.args.entries.now c.args.right) c.in_ok-visited.visited (cursor_in s)) (sym c.take_pairs-pairs.ensures.left)
    (subst (λ (b : BuildView). GoesOnward (build_cursor b) (list_of c.args.entries.now c.args.right) c.in_ok-visited.visited (cursor_in c.visit-visited.new.self)) c.self.view_is c.in_ok-visited.ensures.onward)

pub returns-then-is_at_end-clause-onward : goal.returns-then-is_at_end-clause-onward
returns-then-is_at_end-clause-onward c places may = tt

pub returns-clause-within : goal.returns-clause-within
returns-clause-within c = subst (λ (b : BuildView). (places : ℕ) → cursor_of places (build_cursor b) < all_cursors places) c.self.view_is c.in_ok-visited.ensures.within

pub returns-then-is_at_end-clause-within : goal.returns-then-is_at_end-clause-within
returns-then-is_at_end-clause-within c = subst (λ (b : BuildView). (places : ℕ) → cursor_of places (build_cursor b) < all_cursors places) c.self.view_is c.in_ok-visited.ensures.within

pub returns-clause-leads : goal.returns-clause-leads
returns-clause-leads c = visit_leads c.self.inside.scan (list_of c.args.entries.now c.args.right) c.in_ok-visited.visited c.visit-visited.new.self c.in_ok-visited.ensures.visited
