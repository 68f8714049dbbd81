-- What the devices in memory are seen as.
use Rattle.std.specs.Prelude.{ℕ, List, Bool, Result, Ok, Err, ◌==◌}
use Rattle.std.specs.List.{list_any}
use Rattle.col_prog.specs.Device.{raised}

-- the numbers of the calls that fail, the next call's number, and how many calls failed
pub record Calls : Type 0 where
  pub fails : List ℕ
  pub number : ℕ
  pub faults : ℕ

-- no call was made
abbrev pub no_calls : List ℕ → Calls
no_calls fails = record { fails = fails; number = 0; faults = 0 }

-- the next call is one of those that fail
abbrev pub is_listed : Calls → Bool
is_listed calls = list_any (λ number. number == calls.number) calls.fails

-- the counts after a call
abbrev pub after_call : {T E : Type 0} → Calls → Result T E → Calls
after_call calls (Ok _) = record calls { number = raised calls.number }
after_call calls (Err _) =
    record calls { number = raised calls.number; faults = raised calls.faults }

-- a source that never fails: the bytes left, and the most that a call gives
pub record SureInput : Type 0 where
  pub left : List ℕ
  pub step : ℕ

-- a source whose listed calls fail
pub record MemoryInput : Type 0 where
  pub left : List ℕ
  pub step : ℕ
  pub calls : Calls

-- a sink that never fails: the bytes written, how many more it takes, and the most that a call
-- takes
pub record SureOutput : Type 0 where
  pub written : List ℕ
  pub room : ℕ
  pub step : ℕ

-- a sink whose listed calls fail
pub record MemoryOutput : Type 0 where
  pub written : List ℕ
  pub step : ℕ
  pub calls : Calls
