-- What reading a part of a line answers, want of memory aside.
use Rattle.std.specs.Prelude.{◌≡◌, Result, Ok, Err, Option, Some, None}
use Rattle.col_text.specs.declared.line_error.LineError.{LineError}
use Rattle.col_text.specs.declared.line_error.LineError.TheVariants.{Bad, NoMemory}

-- the answer is the expected one, or the line is bad where there is none
abbrev pub Reads : {T : Type 0} → Result T LineError → Option T → Type 0
Reads (Ok x) expected = expected ≡ Some x
Reads (Err Bad) expected = expected ≡ None
Reads (Err NoMemory) expected = Unit {0}

-- the same, where the answer is seen by a function
abbrev pub ReadsBy : {X Y : Type 0} → (X → Y) → Result X LineError → Option Y → Type 0
ReadsBy view (Ok x) expected = expected ≡ Some (view x)
ReadsBy view (Err Bad) expected = expected ≡ None
ReadsBy view (Err NoMemory) expected = Unit {0}

-- the same for a call that changes a value, which is then the expected one
abbrev pub Becomes : {T : Type 0} → Result (Unit {0}) LineError → T → Option T → Type 0
Becomes (Ok _) new expected = expected ≡ Some new
Becomes (Err Bad) new expected = expected ≡ None
Becomes (Err NoMemory) new expected = Unit {0}
