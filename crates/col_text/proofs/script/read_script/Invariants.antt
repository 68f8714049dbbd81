use Rattle.std.proofs.Common.{◌≡◌, ◌≤◌, ◌+◌, length, Some}
use Rattle.col_token.specs.Lines.{lines_of}
use Rattle.col_text.specs.Script.{script_from, script_of}
use Rattle.col_text.proofs.script.read_script.Given as goal

abbrev pub invariant-lines : goal.invariant-lines
invariant-lines l = record {
  read : script_from l.number (Some l.progress) (lines_of l.rest) ≡ script_of l.text;
  few : l.number + length l.rest ≤ 1 + length l.text;
  columns : length l.progress.inputs + 1 ≤ l.number;
}

abbrev pub decreases-lines : goal.decreases-lines
decreases-lines l = length l.rest
