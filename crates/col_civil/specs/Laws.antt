-- What becomes of dates that are put into a column and read back.
use Rattle.std.specs.Prelude.{◌≡◌, List, map, Some, Ok}
use Rattle.std.specs.List.{All}
use Rattle.jiff.specs.Types.{Date as CivilDate}
use Rattle.jiff.specs.Words.{IsEpochDay, epoch_day}
use Rattle.col_types.specs.declared.data_type.DataType.{Date}
use Rattle.col_model.specs.Chunked.{Chunked}
use Rattle.col_civil.specs.Civil.{Shown, shown_dates}
use Rattle.col_civil.specs.Made.{column_of_items, date_slot}

-- the date of a day, as an iterator shows it
abbrev pub shown_date : CivilDate → Shown
shown_date date = Some (Ok (epoch_day date))

-- a column that is made of dates shows the same days
abbrev pub DatesComeBack : Type 0
DatesComeBack =
    (name : List _) (dates : List CivilDate) (made : Chunked) →
    All (λ date. IsEpochDay (epoch_day date)) dates →
    column_of_items name Date date_slot dates ≡ Ok made →
    shown_dates 0 made.column.slots ≡ map shown_date dates
