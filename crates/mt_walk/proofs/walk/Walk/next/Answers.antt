use Rattle.std.proofs.Common.{ℕ, ◌++◌, List, true, Some, sym, ap, subst, ◌∙◌}
use Rattle.mt_walk.specs.Walk.{course_of, walk_of, view_of, GivesRow}
use Rattle.mt_walk.specs.Steps.{StandsOn}
use Rattle.mt_walk.proofs.Found.{found_key, found_row, found_past, none_found}
use Rattle.mt_walk.proofs.walk.Walk.next.Goals as goal

pub next-requires : goal.next-requires
next-requires c = (c.args.self.now.key.items, c.args.self.now.given, c.requires)

pub spell-requires-clause-row : goal.spell-requires-clause-row
spell-requires-clause-row c =
    found_row (course_of c.args.self.now.course) (course_of c.next.new.self) c.in_ok-entry.field-0 c.in_ok-entry.ensures c.in-Some.entry c.in-Some.row c.in-Some.is
    (c.args.self.now.key.items, c.args.self.now.given, c.requires)

pub spell-requires-clause-key : goal.spell-requires-clause-key
spell-requires-clause-key c =
    found_key (course_of c.args.self.now.course) (course_of c.next.new.self) c.in_ok-entry.field-0 c.in_ok-entry.ensures c.in-Some.entry c.in-Some.row c.in-Some.is
    (c.args.self.now.key.items, c.args.self.now.given, c.requires) c.path.result.now c.path.ensures

pub returns : goal.returns
returns c =
    let spells = c.in_ok-spell.ensures in
    let past = found_past (course_of c.args.self.now.course) (course_of c.next.new.self) c.in_ok-entry.field-0 c.in_ok-entry.ensures c.in-Some.entry c.in-Some.row c.in-Some.is
    c.args.self.now.key.items c.args.self.now.given c.requires c.path.result.now c.path.ensures c.clear.new.self.items c.spell.new.key.items spells in
    let whole = sym (spells.1 ∙ ap (λ (bytes : List ℕ). bytes ++ spells.0) c.clear.ensures.items) in
    record {
      stands = subst (λ (key : List ℕ). StandsOn (view_of c.args.self.now) (walk_of (course_of c.next.new.self) key true)) whole past.0;
      gives = subst (λ (key : List ℕ). GivesRow (view_of c.args.self.now) (Some c.in-Some.row.now) (walk_of (course_of c.next.new.self) key true)) whole past.1;
    }

pub returns-in_default : goal.returns-in_default
returns-in_default c =
    let none = none_found (course_of c.args.self.now.course) (course_of c.next.new.self) c.in_ok-entry.field-0 c.in_ok-entry.ensures c.in_default.is c.args.self.now.key.items c.args.self.now.given c.requires in
    record { stands = none.0; gives = none.1 }
