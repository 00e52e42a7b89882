use Rattle.std.proofs.Common.{[], ◌∷◌, ◌++◌, ◌∙◌, ap, ℕ}
use Rattle.std.specs.Int.{w64, to_be_bytes}
use Rattle.mt_wire.specs.Spelling.{sum_spelling}
use Rattle.mt_wire.specs.ServerNumbers.{role_number}
use Rattle.mt_wire.proofs.Joined.{written, then_written}
use Rattle.mt_wire.proofs.server_writing.ServerResponseWritable.write.Goals as goal

pub returns-in_ok-number64-in-Hello : goal.returns-in_ok-number64-in-Hello
returns-in_ok-number64-in-Hello c =
    let told = c.in-Hello in
    let old = c.args.out.now.items in
    let front = 16 ∷ told.version ∷ role_number told.role ∷ told.columns ∷ [] in
    let begun = c.in_ok-extend_from_slice-in-Hello.ensures.items ∙ ap (λ (n : ℕ). old ++ (16 ∷ told.version ∷ n ∷ told.columns ∷ [])) c.number-in-Hello.ensures in
    let named = written old c.extend_from_slice-in-Hello.new.self.items c.write.new.out.items front (sum_spelling told.run') begun c.in_ok-write-in-Hello.ensures in
    let dated = written old c.write.new.out.items c.number64-in-Hello.new.out.items (front ++ sum_spelling told.run') (to_be_bytes w64 told.commits) named c.in_ok-number64-in-Hello.ensures in
    rw told.is (then_written c.number64-in-Hello-2.result old c.number64-in-Hello.new.out.items c.number64-in-Hello-2.new.out.items ((front ++ sum_spelling told.run') ++ to_be_bytes w64 told.commits) (to_be_bytes w64 told.logged) dated c.number64-in-Hello-2.ensures)
