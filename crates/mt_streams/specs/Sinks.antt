-- What a sink shows.
use Rattle.std.specs.Prelude.{Bool}
use Rattle.mt_streams.specs.declared.sink.Sink.{Sink}

-- the writer in it
abbrev pub sink_writer : {W : Type 0} → Sink W → W
sink_writer s = s.writer

-- whether its last write failed, or took nothing
abbrev pub write_failed : {W : Type 0} → Sink W → Bool
write_failed s = s.failed
