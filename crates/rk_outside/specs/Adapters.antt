-- What the adapters over readers and writers of std hold.
use Rattle.rk_outside.specs.declared.source.ReadSource.{ReadSource}
use Rattle.rk_outside.specs.declared.sink.WriteSink.{WriteSink}

-- the reader that a source reads
abbrev pub source_reader : {R : Type 0} → ReadSource R → R
source_reader s = s.inner

-- the writer that a sink writes to
abbrev pub sink_writer : {W : Type 0} → WriteSink W → W
sink_writer s = s.inner
