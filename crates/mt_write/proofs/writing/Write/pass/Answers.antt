-- A run at a border that it only passes: the lock, the fields that it reads, and the unlock.
use Rattle.std.proofs.Common.{◌≡◌, arith, Option, false, sym, subst}
use Rattle.std.specs.Prelude.{IsSomeAnd}
use Rattle.mt_border.specs.Border.{BorderView}
use Rattle.mt_arena.specs.Node.{border_at}
use Rattle.mt_tree.specs.Descent.{visit_border}
use Rattle.mt_steps.specs.Way.{rest_of}
use Rattle.mt_steps.proofs.FoundLemmas.{some_and, some_at}
use Rattle.mt_write.proofs.PassLemmas.{lock_some, passes, stays_here, unlock_locked, unlock_written, way_within}
use Rattle.mt_write.proofs.writing.Write.pass.Goals as goal

pub rest_of-bytes-requires : goal.rest_of-bytes-requires
rest_of-bytes-requires c = let within = way_within c.args.tree.now c.args.self.now c.requires.idle c.requires.may in omega (arith, within)

pub border-requires : goal.border-requires
border-requires c = lock_some c.args.tree.now c.args.self.now.way.node.0 c.requires.lock

pub lock_border-requires : goal.lock_border-requires
lock_border-requires c =
    let (b, named, (sound, unlocked, alive)) = some_and _ (border_at c.args.tree.now.nodes c.args.self.now.way.node.0) c.requires.lock in
    subst (λ (o : Option BorderView). IsSomeAnd o (λ x. x.version.locked ≡ false)) (sym named) unlocked

pub unlock_border-requires-clause-locked : goal.unlock_border-requires-clause-locked
unlock_border-requires-clause-locked c = unlock_locked c.args.tree.now c.lock_border.new.self c.args.self.now.way.node.0 c.requires.lock c.lock_border.ensures.value

pub unlock_border-requires-clause-written : goal.unlock_border-requires-clause-written
unlock_border-requires-clause-written c = unlock_written c.args.tree.now c.lock_border.new.self c.args.self.now.way.node.0 c.requires.lock c.lock_border.ensures.value

pub follow-last-requires : goal.follow-last-requires
follow-last-requires c = stays_here c.args.self.now.way c.args.visit c.led-went.result c.led-went.ensures c.requires.on

pub returns-clause-runs : goal.returns-clause-runs
returns-clause-runs c = λ C log may is_trimmed sound.
    passes C c.args.tree.now c.lock_border.new.self log c.args.self.now may is_trimmed c.requires.idle c.requires.lock c.lock_border.ensures.value c.lock_border.ensures.keeps c.free_numbers-before.ensures.arena c.free_numbers-locked.ensures.arena sound c.border.result.now c.border.ensures.value c.lock_border.ensures.sound
    c.unlock_border.new.self c.unlock_border.ensures.value c.unlock_border.ensures.keeps c.free_numbers-unlocked.ensures.arena c.args.visit
    (some_at (λ (b : BorderView). c.args.visit ≡ visit_border (rest_of c.args.self.now.key c.args.self.now.way) b) (border_at c.args.tree.now.nodes c.args.self.now.way.node.0) c.border.result.now c.requires.leads c.border.ensures.value)
    c.requires.on c.fields_passed-fields.result c.fields_passed-fields.ensures.fields c.led-went.result c.led-went.ensures c.follow-last.result c.follow-last.new.self c.follow-last.ensures.to
