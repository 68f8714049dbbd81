use Rattle.std.proofs.Common.{◌≤◌, ◌-◌, length, take}
use Rattle.std.specs.Io.KnownBytes.{Appends}
use Rattle.col_prog.specs.Device.{Fits}
use Rattle.col_prog.proofs.writing.write_all.Given as goal

abbrev pub invariant-writing : goal.invariant-writing
invariant-writing g l = record {
  within : l.at ≤ length l.text;
  written : Appends (g.K.Sink.contents l.initial.sink) (g.K.Sink.contents l.sink) (take l.at l.text);
  fits : Fits (g.K.Sink.room l.sink) (length l.text - l.at);
  later : g.K.Sink.faults l.initial.sink ≤ g.K.Sink.faults l.sink;
}

abbrev pub decreases-writing : goal.decreases-writing
decreases-writing g l = length l.text - l.at
