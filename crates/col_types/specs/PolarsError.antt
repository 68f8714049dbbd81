-- What a call answers, up to want of memory.
use Rattle.std.specs.Prelude.{◌≡◌, Result, Ok, Err}
use Rattle.col_types.specs.declared.error.PolarsError.{PolarsError}
use Rattle.col_types.specs.declared.error.PolarsError.TheVariants.{NoMemory}

-- An answer, its value seen by a function.
abbrev pub seen_by : {X Y E : Type 0} → (X → Y) → Result X E → Result Y E
seen_by view (Ok x) = Ok (view x)
seen_by view (Err e) = Err e

-- The answer is the expected one, unless memory was wanting.
abbrev pub Gives : {T : Type 0} → Result T PolarsError → Result T PolarsError → Type 0
Gives (Ok x) expected = expected ≡ Ok x
Gives (Err NoMemory) expected = Unit {0}
Gives (Err e) expected = expected ≡ Err e

-- The same, where the answer is seen by a function.
abbrev pub GivesBy : {X Y : Type 0} →
    (X → Y) → Result X PolarsError → Result Y PolarsError → Type 0
GivesBy view (Ok x) expected = expected ≡ Ok (view x)
GivesBy view (Err NoMemory) expected = Unit {0}
GivesBy view (Err e) expected = expected ≡ Err e

-- The same for a call that changes a value: on Ok the new value is the expected one, and on every
-- refusal it is the old one.
abbrev pub Becomes : {T : Type 0} →
    Result (Unit {0}) PolarsError → T → T → Result T PolarsError → Type 0
Becomes (Ok _) old new expected = expected ≡ Ok new
Becomes (Err NoMemory) old new expected = new ≡ old
Becomes (Err e) old new expected = (expected ≡ Err e) × (new ≡ old)
