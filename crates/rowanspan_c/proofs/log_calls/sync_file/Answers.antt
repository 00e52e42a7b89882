use Rattle.rowanspan_c.proofs.log_calls.sync_file.Goals as goal

pub returns : goal.returns
returns c =
    let sync = c.sync-synced.ensures in
    record {
      synced = c.sync-synced.result;
      syncs = record { kept = sync.kept; crash = sync.crash; number = sync.number; durable = sync.durable; stops = sync.stops };
      tells = c.tell_synced.ensures;
    }
