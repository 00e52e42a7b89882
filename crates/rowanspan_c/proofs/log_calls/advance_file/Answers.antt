use Rattle.rowanspan_c.proofs.log_calls.advance_file.Goals as goal

pub returns : goal.returns
returns c =
    let advance = c.advance-advanced.ensures in
    record {
      advanced = c.advance-advanced.result;
      advances = record {
        moves = advance.moves;
        copies = advance.copies;
        seals = advance.seals;
        stays = advance.stays;
        rests = advance.rests;
        going = advance.going;
        newest = advance.newest;
      };
      tells = c.tell_round.ensures;
    }
