-- What the calls of a source and a sink say of room and faults.
use Rattle.std.specs.Prelude.{◌≡◌, ℕ, ◌+◌, ◌-◌, ◌^◌, ◌≤◌, min, Option, Some, None, Result, Ok, Err}
use Rattle.std.specs.Prelude.{OnErr}

-- a count raised by one, which stays at its last value
abbrev pub raised : ℕ → ℕ
raised count = min (count + 1) (2 ^ 64 - 1)

-- the count of faults rose, or stands at its last value
abbrev pub Rose : ℕ → ℕ → Type 0
Rose before now = raised before ≤ now

-- the count doesn't fall, and a refusal comes only where it rose
pub record HasCause {T E : Type 0} (before now : ℕ) (result : Result T E) : Type 0 where
  pub later : before ≤ now
  pub failed : OnErr result (Rose before now)

-- this many bytes fit the room, where it is limited
abbrev pub Fits : Option ℕ → ℕ → Type 0
Fits None count = Unit {0}
Fits (Some room) count = count ≤ room

-- a room falls by what was written, stays where the write failed, and none stays none
abbrev pub TakesRoom : {E : Type 0} → Option ℕ → Option ℕ → Result ℕ E → Type 0
TakesRoom None new result = new ≡ None
TakesRoom (Some room) new (Ok count) = (count ≤ room) × (new ≡ Some (room - count))
TakesRoom (Some room) new (Err e) = new ≡ Some room

-- the count after a call: raised where it failed
abbrev pub faults_after : {T E : Type 0} → ℕ → Result T E → ℕ
faults_after before (Ok _) = before
faults_after before (Err _) = raised before
