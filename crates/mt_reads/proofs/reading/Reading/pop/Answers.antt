use Rattle.std.proofs.Common.{◌≡◌, ◌-◌, ℕ, List, [], ◌++◌, take, ap, ◌∙◌}
use Rattle.std.specs.Borrow.{Bor}
use Rattle.mt_types.specs.declared.row.Row.{Row}
use Rattle.mt_reads.specs.Back.{bound_of}
use Rattle.mt_reads.proofs.BackLemmas.{begins_within, reading_left, gives_taken, fits_left, fewer_left, none_left}
use Rattle.mt_reads.proofs.reading.Reading.pop.Goals as goal
use Rattle.mt_reads.proofs.reading.Reading.pop.Goals.{In-None}

pub move_end-requires : goal.move_end-requires
move_end-requires c =
    let old = c.args.self.now in
    begins_within old.machine.now old.unread old.is_bounded old.key.items old.chunk.keys.items old.chunk.rows.items c.requires.reading c.in-Some.begin c.in-Some.row c.pop.new.self.items c.in-Some.ensures.items

pub returns-in_ok-move_end-in-Some-clause-reading : goal.returns-in_ok-move_end-in-Some-clause-reading
returns-in_ok-move_end-in-Some-clause-reading c =
    let old = c.args.self.now in
    reading_left old.machine.now old.unread old.is_bounded old.key.items old.chunk.keys.items old.chunk.rows.items c.requires.reading c.in-Some.begin c.in-Some.row c.pop.new.self.items c.in-Some.ensures.items
    c.move_end.new.bytes.items c.move_end.new.buffer.items c.in_ok-move_end-in-Some.ensures.left c.in_ok-move_end-in-Some.ensures.moved

pub returns-in_ok-move_end-in-Some-clause-row : goal.returns-in_ok-move_end-in-Some-clause-row
returns-in_ok-move_end-in-Some-clause-row c =
    let old = c.args.self.now in
    gives_taken old.machine.now old.unread old.is_bounded old.key.items old.chunk.keys.items old.chunk.rows.items c.requires.reading c.in-Some.begin c.in-Some.row c.pop.new.self.items c.in-Some.ensures.items
    c.move_end.new.bytes.items c.move_end.new.buffer.items c.in_ok-move_end-in-Some.ensures.left c.in_ok-move_end-in-Some.ensures.moved

pub returns-in_ok-move_end-in-Some-clause-fewer : goal.returns-in_ok-move_end-in-Some-clause-fewer
returns-in_ok-move_end-in-Some-clause-fewer c =
    let old = c.args.self.now in
    fewer_left old.machine.now old.unread old.is_bounded old.key.items old.chunk.keys.items old.chunk.rows.items c.requires.reading c.in-Some.begin c.in-Some.row c.pop.new.self.items c.in-Some.ensures.items
    c.move_end.new.bytes.items c.move_end.new.buffer.items c.in_ok-move_end-in-Some.ensures.left c.in_ok-move_end-in-Some.ensures.moved c.is_idle-stands.ensures.stands

pub returns-in_ok-move_end-in-Some-clause-fits : goal.returns-in_ok-move_end-in-Some-clause-fits
returns-in_ok-move_end-in-Some-clause-fits c =
    let old = c.args.self.now in
    fits_left old.machine.now old.unread old.is_bounded old.key.items old.chunk.keys.items old.chunk.rows.items c.requires.reading c.in-Some.begin c.in-Some.row c.pop.new.self.items c.in-Some.ensures.items
    c.move_end.new.bytes.items c.move_end.new.buffer.items c.in_ok-move_end-in-Some.ensures.left c.in_ok-move_end-in-Some.ensures.moved

-- no row is kept
none_then : (c : In-None) → c.pop.new.self.items ≡ []
none_then c = c.in-None.ensures.rest ∙ ap (λ (n : ℕ). take (n - 1) c.args.self.now.chunk.rows.items) c.in-None.ensures.cases.0

none : (c : In-None) → c.args.self.now.chunk.rows.items ≡ []
none c = c.in-None.ensures.items ∙ ap (λ (kept : List (ℕ × Bor Row)). kept ++ []) (none_then c)

pub returns-in-None-clause-row : goal.returns-in-None-clause-row
returns-in-None-clause-row c =
    let old = c.args.self.now in
    none_left old.machine.now old.unread (bound_of old.is_bounded old.key.items) old.chunk.keys.items old.chunk.rows.items c.requires.reading.rows_left (none c) (c.requires.done (none c))
