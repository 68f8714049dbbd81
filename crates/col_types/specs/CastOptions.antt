-- What a cast does with a value that does not fit.
use Rattle.std.specs.Prelude.{Bool, true, false}
use Rattle.col_types.specs.declared.cast_options.CastOptions.{CastOptions}
use Rattle.col_types.specs.declared.cast_options.CastOptions.TheVariants.{Strict, NonStrict}
use Rattle.col_types.specs.declared.cast_options.CastOptions.TheVariants.{Overflowing}
use Rattle.col_types.specs.declared.cast_options.CastOptionsImpl.{CastOptionsImpl}

-- Whether the cast is refused there.
abbrev pub is_strict : CastOptions → Bool
is_strict Strict = true
is_strict NonStrict = false
is_strict Overflowing = false

-- Whether the value wraps there.
abbrev pub is_overflowing : CastOptions → Bool
is_overflowing Strict = false
is_overflowing NonStrict = false
is_overflowing Overflowing = true

-- The two switches that a kernel reads.
abbrev pub switches_of : CastOptions → CastOptionsImpl
switches_of options = record { wrapped = is_overflowing options; partial = false }
