-- What std's readers and writers are wrapped in.
use Rattle.std.specs.Prelude.{ℕ}
use Rattle.col_prog.specs.declared.device.adapters.ReadSource.{ReadSource}
use Rattle.col_prog.specs.declared.device.adapters.WriteSink.{WriteSink}

-- the reader of a source
abbrev pub reader_of : {R : Type 0} → ReadSource R → R
reader_of source = source.inner

-- how often the reader failed
abbrev pub reader_faults : {R : Type 0} → ReadSource R → ℕ
reader_faults source = source.faults

-- the writer of a sink
abbrev pub writer_of : {W : Type 0} → WriteSink W → W
writer_of sink = sink.inner

-- how often the writer failed
abbrev pub writer_faults : {W : Type 0} → WriteSink W → ℕ
writer_faults sink = sink.faults
