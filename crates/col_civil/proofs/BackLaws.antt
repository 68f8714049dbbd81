-- Dates that are put into a column and read back.
use Rattle.std.specs.Prelude.{◌≡◌, ◌+◌, ◌++◌, ◌^◌, ◌&&◌, ℕ, ℤ, pos, neg_ℤ, Bool, true, false, List, [], ◌∷◌, fold, length, map, nat_lt, int_le, if◌then◌else◌, Option, Some, Result, Ok, Err}
use Rattle.std.specs.List.{All}
use Rattle.std.proofs.Common.{refl, ap, subst, sym, ◌∙◌}
use Rattle.std.proofs.lemmas.List.{append_assoc, append-nil}
use Rattle.std.proofs.lemmas.List.Elements.{All-head, All-tail}
use Rattle.jiff.specs.Types.{Date as CivilDate}
use Rattle.jiff.specs.Words.{IsEpochDay, epoch_day}
use Rattle.col_types.specs.PolarsError.{seen_by}
use Rattle.col_types.specs.declared.data_type.DataType.{Date}
use Rattle.col_types.specs.declared.error.PolarsError.{PolarsError}
use Rattle.col_types.specs.declared.error.PolarsError.TheVariants.{Calendar, TooLong}
use Rattle.col_model.specs.Chunked.{Chunked}
use Rattle.col_model.specs.Value.{Value}
use Rattle.col_model.proofs.WithinLemmas.{le_true}
use Rattle.col_civil.specs.Civil.{Shown, is_calendar_day, shown_dates}
use Rattle.col_civil.specs.Laws.{DatesComeBack, shown_date}
use Rattle.col_civil.specs.Made.{date_slot, made_column, slots_of_items, valid_slot, with_item}

-- the slot of a date
abbrev slot_of : CivilDate → Option Value
slot_of date = valid_slot (epoch_day date)

-- the value of an answer, where there is one
abbrev value_or : {X : Type 0} → X → Result X PolarsError → X
value_or other (Ok x) = x
value_or other (Err refusal) = other

-- a refusal stays
stays : (refusal : PolarsError) (dates : List CivilDate) → fold (with_item date_slot) (Err refusal) dates ≡ Err refusal
stays refusal [] = refl
stays refusal (date ∷ dates) = stays refusal dates

refused : {X : Type 0} (refusal : PolarsError) (slots : List (Option Value)) (read : Result (List (Option Value)) PolarsError)
    → read ≡ Err refusal → read ≡ Ok slots → X
refused refusal slots read isnt is = absurd (cc)

-- the slots of a date and those of later ones, whether or not there is room for the first
module _ (date : CivilDate) (dates : List CivilDate) (before slots : List (Option Value)) where
  abbrev read_by : Bool → Result (List (Option Value)) PolarsError
  read_by room = fold (with_item date_slot) (if room then Ok (before ++ slot_of date ∷ []) else Err (TooLong (length before + 1))) dates

  by_room : (room : Bool) → read_by room ≡ Ok slots
      → (fold (with_item date_slot) (Ok (before ++ slot_of date ∷ [])) dates ≡ Ok slots → slots ≡ (before ++ slot_of date ∷ []) ++ map slot_of dates)
      → slots ≡ before ++ map slot_of (date ∷ dates)
  by_room true is later = later is ∙ append_assoc before (slot_of date ∷ []) (map slot_of dates)
  by_room false is later = refused (TooLong (length before + 1)) slots (read_by false) (stays (TooLong (length before + 1)) dates) is

-- the slots of dates, behind others
slots_behind : (dates : List CivilDate) (before slots : List (Option Value))
    → fold (with_item date_slot) (Ok before) dates ≡ Ok slots → slots ≡ before ++ map slot_of dates
slots_behind [] before slots is = sym (ap (value_or before) is) ∙ sym (append-nil before)
slots_behind (date ∷ dates) before slots is =
    by_room date dates before slots (nat_lt (length before + 1) (2 ^ 32)) is (slots_behind dates (before ++ slot_of date ∷ []) slots)

-- each date has a day of the calendar
has_day : (x : ℤ) → IsEpochDay x → is_calendar_day x ≡ true
has_day x day = ap (λ (b : Bool). b && int_le x (pos 2932896)) (le_true (neg_ℤ (pos 4371587)) x day.0) ∙ le_true x (pos 2932896) day.1

-- what the slots of dates show
shown_back : (row : ℕ) (dates : List CivilDate) → All (λ date. IsEpochDay (epoch_day date)) dates
    → shown_dates row (map slot_of dates) ≡ map shown_date dates
shown_back row [] all = refl
shown_back row (date ∷ dates) all =
    ap (λ (b : Bool). Some (if b then Ok (epoch_day date) else Err (Calendar row)) ∷ shown_dates (row + 1) (map slot_of dates))
    (has_day (epoch_day date) (All-head (λ (d : CivilDate). IsEpochDay (epoch_day d)) date dates all))
    ∙ ap (λ (shown : List Shown). shown_date date ∷ shown) (shown_back (row + 1) dates (All-tail (λ (d : CivilDate). IsEpochDay (epoch_day d)) date dates all))

pub dates_come_back : DatesComeBack
dates_come_back name dates made all is = by_read (slots_of_items date_slot dates) refl is
  where
    by_read : (read : Result (List (Option Value)) PolarsError) → slots_of_items date_slot dates ≡ read
        → seen_by (made_column name Date) read ≡ Ok made → shown_dates 0 made.column.slots ≡ map shown_date dates
    by_read (Ok slots) read is =
        subst (λ (m : Chunked). shown_dates 0 m.column.slots ≡ map shown_date dates) (ap (value_or made) is)
        (ap (shown_dates 0) (slots_behind dates [] slots read) ∙ shown_back 0 dates all)
    by_read (Err refusal) read is = absurd (cc)
