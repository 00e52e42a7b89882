use Rattle.rowanspan_c.proofs.log_calls.write_file.Goals as goal

pub returns : goal.returns
returns c =
    let write = c.write-written.ensures in
    record {
      written = c.write-written.result;
      writes = record { kept = write.kept; crash = write.crash; stays = write.stays; cause = write.cause };
      tells = (c.tell_written.ensures, c.lacking.ensures);
    }
