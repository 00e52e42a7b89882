use Rattle.std.proofs.Common.{◌≡◌, ℕ, ◌+◌, [], ◌∷◌, ◌++◌, sym, ap, subst, arith, ◌∙◌}
use Rattle.mt_frame.specs.Spelling.{frame_of}
use Rattle.mt_journal.specs.Keeping.{KeepsFronts}
use Rattle.mt_journal.specs.Log.{last_number}
use Rattle.mt_journal.proofs.Kept.{all_survive, fronts_then, survive_more, survive_less, says_more, durable_after, unless_err}
use Rattle.mt_journal.proofs.journal.Journal.put.Goals as goal

pub returns-in_err-frame-clause-crash : goal.returns-in_err-frame-clause-crash
returns-in_err-frame-clause-crash g c = λ header entries keeps mixing.
    survive_more header entries (c.args.entry.now ∷ []) c.args.self.now.at.durable (g.D.Disk.may_leave c.args.self.now.disk)
    (all_survive c.args.self.now.at (g.D.Disk.seen c.args.self.now.disk) (g.D.Disk.may_leave c.args.self.now.disk) (g.D.Disk.may_leave c.args.self.now.disk) header entries keeps (λ left may_left. may_left))

pub returns-then-self-count-clause-crash : goal.returns-then-self-count-clause-crash
returns-then-self-count-clause-crash g c = λ header entries keeps mixing.
    survive_more header entries (c.args.entry.now ∷ []) c.args.self.now.at.durable (g.D.Disk.may_leave c.args.self.now.disk)
    (all_survive c.args.self.now.at (g.D.Disk.seen c.args.self.now.disk) (g.D.Disk.may_leave c.args.self.now.disk) (g.D.Disk.may_leave c.args.self.now.disk) header entries keeps (λ left may_left. may_left))

pub returns-in_err-make_room-clause-crash : goal.returns-in_err-make_room-clause-crash
returns-in_err-make_room-clause-crash g c = λ header entries keeps mixing.
    survive_more header entries (c.args.entry.now ∷ []) c.args.self.now.at.durable (g.D.Disk.may_leave c.make_room.new.self.disk) (c.make_room.ensures.crash header entries keeps)

pub returns-in-Err-clause-crash : goal.returns-in-Err-clause-crash
returns-in-Err-clause-crash g c = λ header entries keeps mixing.
    let middle = c.in_ok-make_room.ensures.kept header entries keeps in
    let says = says_more c.args.self.now.at (g.D.Disk.seen c.args.self.now.disk) (g.D.Disk.may_leave c.args.self.now.disk) header entries c.args.entry.now keeps c.in_ok-frame.ensures.fits c.requires.follows in
    let frame_is : c.deref.result.now ≡ frame_of header.generation c.make_room.new.self.at.end c.args.entry.now =
    c.deref.ensures.value ∙ c.in_ok-frame.ensures.value ∙ ap (λ (n : ℕ). frame_of n c.args.self.now.at.end c.args.entry.now) keeps.generation
    ∙ ap (λ (n : ℕ). frame_of header.generation n c.args.entry.now) (sym c.make_room.ensures.end) in
    let least = durable_after c.args.self.now.at (g.D.Disk.seen c.args.self.now.disk) (g.D.Disk.may_leave c.args.self.now.disk) c.make_room.new.self.at header entries keeps c.make_room.ensures.durable in
    survive_less header (entries ++ c.args.entry.now ∷ []) c.make_room.new.self.at.durable c.args.self.now.at.durable (g.D.Disk.may_leave c.write_frame.new.disk) least
    (c.write_frame.ensures.crash header entries c.args.entry.now middle says frame_is mixing)

pub returns-clause-crash : goal.returns-clause-crash
returns-clause-crash g c = λ header entries keeps mixing.
    let middle = c.in_ok-make_room.ensures.kept header entries keeps in
    let says = says_more c.args.self.now.at (g.D.Disk.seen c.args.self.now.disk) (g.D.Disk.may_leave c.args.self.now.disk) header entries c.args.entry.now keeps c.in_ok-frame.ensures.fits c.requires.follows in
    let frame_is : c.deref.result.now ≡ frame_of header.generation c.make_room.new.self.at.end c.args.entry.now =
    c.deref.ensures.value ∙ c.in_ok-frame.ensures.value ∙ ap (λ (n : ℕ). frame_of n c.args.self.now.at.end c.args.entry.now) keeps.generation
    ∙ ap (λ (n : ℕ). frame_of header.generation n c.args.entry.now) (sym c.make_room.ensures.end) in
    let least = durable_after c.args.self.now.at (g.D.Disk.seen c.args.self.now.disk) (g.D.Disk.may_leave c.args.self.now.disk) c.make_room.new.self.at header entries keeps c.make_room.ensures.durable in
    survive_less header (entries ++ c.args.entry.now ∷ []) c.make_room.new.self.at.durable c.args.self.now.at.durable (g.D.Disk.may_leave c.write_frame.new.disk) least
    (c.write_frame.ensures.crash header entries c.args.entry.now middle says frame_is mixing)

pub returns-clause-kept : goal.returns-clause-kept
returns-clause-kept g c = λ header entries keeps mixing.
    let middle = c.in_ok-make_room.ensures.kept header entries keeps in
    let says = says_more c.args.self.now.at (g.D.Disk.seen c.args.self.now.disk) (g.D.Disk.may_leave c.args.self.now.disk) header entries c.args.entry.now keeps c.in_ok-frame.ensures.fits c.requires.follows in
    let frame_is : c.deref.result.now ≡ frame_of header.generation c.make_room.new.self.at.end c.args.entry.now =
    c.deref.ensures.value ∙ c.in_ok-frame.ensures.value ∙ ap (λ (n : ℕ). frame_of n c.args.self.now.at.end c.args.entry.now) keeps.generation
    ∙ ap (λ (n : ℕ). frame_of header.generation n c.args.entry.now) (sym c.make_room.ensures.end) in
    let counts : last_number c.make_room.new.self.at.newest (c.args.entry.now ∷ []) ≡ c.make_room.new.self.at.newest + c.args.count =
    ap (λ (n : ℕ). last_number n (c.args.entry.now ∷ [])) c.make_room.ensures.newest ∙ c.requires.counts ∙ ap (λ (n : ℕ). n + c.args.count) (sym c.make_room.ensures.newest) in
    unless_err c.write_frame.result (c.write_frame.ensures.kept header entries c.args.entry.now middle says frame_is counts mixing) c.in_default.not-Err

pub returns-in_err-make_room-clause-fronts : goal.returns-in_err-make_room-clause-fronts
returns-in_err-make_room-clause-fronts g c = λ header entries keeps front fits begins.
    c.make_room.ensures.fronts front (omega (arith, fits, keeps.room)) begins

pub returns-in-Err-clause-fronts : goal.returns-in-Err-clause-fronts
returns-in-Err-clause-fronts g c = λ header entries keeps.
    fronts_then c.args.self.now.at.end c.args.self.now.at.room (g.D.Disk.may_leave c.args.self.now.disk) (g.D.Disk.may_leave c.make_room.new.self.disk) (g.D.Disk.may_leave c.write_frame.new.disk) (omega (arith, keeps.room)) c.make_room.ensures.fronts
    (subst (λ (place : ℕ). KeepsFronts place (g.D.Disk.may_leave c.make_room.new.self.disk) (g.D.Disk.may_leave c.write_frame.new.disk)) c.make_room.ensures.end c.write_frame.ensures.fronts)

pub returns-clause-fronts : goal.returns-clause-fronts
returns-clause-fronts g c = λ header entries keeps.
    fronts_then c.args.self.now.at.end c.args.self.now.at.room (g.D.Disk.may_leave c.args.self.now.disk) (g.D.Disk.may_leave c.make_room.new.self.disk) (g.D.Disk.may_leave c.write_frame.new.disk) (omega (arith, keeps.room)) c.make_room.ensures.fronts
    (subst (λ (place : ℕ). KeepsFronts place (g.D.Disk.may_leave c.make_room.new.self.disk) (g.D.Disk.may_leave c.write_frame.new.disk)) c.make_room.ensures.end c.write_frame.ensures.fronts)
