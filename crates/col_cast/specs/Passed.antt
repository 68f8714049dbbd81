-- Columns of words of any width as those of the widths that days, ticks and truth values have.
use Rattle.std.specs.Prelude.{ℕ, Option, Some, None}
use Rattle.std.specs.Int.{w8, w32, w64}
use Rattle.col_model.specs.Arithmetic.{WordType, Signed, Unsigned}
use Rattle.col_model.specs.Chunked.{Chunked}
use Rattle.col_cast.specs.declared.cast_word.Stored.{Stored}
use Rattle.col_cast.specs.declared.cast_word.Stored.TheVariants as stored
use Rattle.col_cast.specs.declared.cast_word.Made.{Made}
use Rattle.col_cast.specs.declared.cast_word.Made.TheVariants as made

-- the column of days, where it is one of the words of days
abbrev pub days_in : Stored → Option Chunked
days_in (stored.Days days) = Some days.now
days_in _ = None

-- the column of ticks, where it is one of the words of ticks
abbrev pub ticks_in : Stored → Option Chunked
ticks_in (stored.Ticks ticks) = Some ticks.now
ticks_in _ = None

-- the word of what a cast made
abbrev pub made_word : Made → WordType
made_word (made.Days changed) = Signed w32
made_word (made.Ticks changed) = Signed w64
made_word (made.Truths changed) = Unsigned w8

-- the column that a cast made
abbrev pub made_array : Made → Chunked
made_array (made.Days changed) = changed.array
made_array (made.Ticks changed) = changed.array
made_array (made.Truths changed) = changed.array

-- the first row that it lost
abbrev pub made_lost : Made → Option ℕ
made_lost (made.Days changed) = changed.lost
made_lost (made.Ticks changed) = changed.lost
made_lost (made.Truths changed) = changed.lost
