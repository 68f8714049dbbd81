-- Values of the grammar and of the texts, worked out by hand, so that a wrong definition does not
-- check.
use Rattle.std.proofs.Common.{◌≡◌, ◌^◌, ◌-◌, true, false, refl, [], ◌∷◌, pos, negsuc, Some, None, Ok, Err, replicate}
use Rattle.std.specs.Prelude.{codes}
use Rattle.std.specs.Fmt.{digits}
use Rattle.col_types.specs.declared.time_unit.TimeUnit.TheVariants.{Nanoseconds, Microseconds, Milliseconds}
use Rattle.col_types.specs.declared.data_type.DataType.{Binary, Boolean, Date, Datetime, Duration, Int64, Time}
use Rattle.col_types.specs.declared.cast_options.CastOptions.TheVariants.{NonStrict, Strict, Overflowing}
use Rattle.col_types.specs.declared.operator.BinOp.TheVariants as ops
use Rattle.col_types.specs.declared.operator.ScalarOp.TheVariants as scalar_ops
use Rattle.col_types.specs.declared.is_sorted.IsSorted.TheVariants.{Not}
use Rattle.col_model.specs.Chunked.{in_one_chunk}
use Rattle.col_model.specs.Value.{whole}
use Rattle.col_expr.specs.Tree.{Input, Cast, Binary, InUnit, Shift, CastTo, Apply, ApplyRight, ApplyLeft, ToUnit, ShiftBy}
use Rattle.col_expr.specs.declared.error.EvalError.TheVariants as refusals
use Rattle.col_text.specs.Numbers.{integer_of, number_of}
use Rattle.col_text.specs.Types.{column_dtype, target_named}
use Rattle.col_text.specs.Zone.{is_zone_name}
use Rattle.col_text.specs.Symbols.{symbol_of}
use Rattle.col_text.specs.Slots.{is_name, chunks_of, in_chunks}
use Rattle.col_text.specs.Expression.{expression_line}
use Rattle.col_text.specs.Script.{script_of}
use Rattle.col_text.specs.Answer.{column_text, fault_text, bad_line_text}

-- a sign and zeros at the front are good, a sign alone is not
signs : (integer_of (codes "+5") ≡ Some (pos 5)) × (integer_of (codes "-0") ≡ Some (pos 0))
    × (integer_of (codes "-7") ≡ Some (negsuc 6))
    × (integer_of (codes "007") ≡ Some (pos 7)) × (integer_of (codes "+") ≡ None)
    × (integer_of (codes "+-5") ≡ None) × (integer_of [] ≡ None)
signs = (refl, refl, refl, refl, refl, refl, refl)

-- the ends of 128 bits, and one past each
ends : (integer_of (codes "170141183460469231731687303715884105727") ≡ Some (pos (2 ^ 127 - 1)))
    × (integer_of (codes "170141183460469231731687303715884105728") ≡ None)
    × (integer_of (codes "-170141183460469231731687303715884105728") ≡ Some (negsuc (2 ^ 127 - 1)))
    × (integer_of (codes "-170141183460469231731687303715884105729") ≡ None)
ends = (refl, refl, refl, refl)

-- a number takes zeros, no sign, and 32 bits
numbers : (number_of (codes "00") ≡ Some 0) × (number_of (codes "+1") ≡ None)
    × (number_of (codes "4294967295") ≡ Some 4294967295) × (number_of (codes "4294967296") ≡ None)
numbers = (refl, refl, refl, refl)

-- a name has at most 64 visible bytes
names : (is_name (replicate 64 33) ≡ true) × (is_name (replicate 65 126) ≡ false)
    × (is_name [] ≡ false) × (is_name (127 ∷ []) ≡ false)
names = (refl, refl, refl, refl)

-- a zone's name has at most 64 letters, digits and signs
zone_names : (is_zone_name (replicate 64 90) ≡ true) × (is_zone_name (replicate 65 48) ≡ false)
    × (is_zone_name (codes "Etc/GMT+13_a-z:9") ≡ true) × (is_zone_name (codes "*") ≡ false)
    × (is_zone_name [] ≡ false) × (is_zone_name (195 ∷ []) ≡ false)
zone_names = (refl, refl, refl, refl, refl, refl)

-- units in brackets, and a zone behind the comma, where it is accepted
dtypes : (column_dtype [] (codes "date") ≡ Some Date) × (column_dtype [] (codes "time") ≡ Some Time)
    × (column_dtype [] (codes "datetime[us]") ≡ Some (Datetime Microseconds None))
    × (column_dtype [] (codes "datetime[us,]") ≡ Some (Datetime Microseconds None))
    × (column_dtype [] (codes "duration[ms]") ≡ Some (Duration Milliseconds))
    × (column_dtype [] (codes "duration[ms,]") ≡ None) × (column_dtype [] (codes "string") ≡ None)
    × (column_dtype [] (codes "datetime[ms,UTC") ≡ None)
    × (column_dtype [] (codes "datetime[ms,UTC]")
    ≡ Some (Datetime Milliseconds (Some (codes "UTC"))))
dtypes = (refl, refl, refl, refl, refl, refl, refl, refl, refl)

-- one type of integers has a name so far
integers : (column_dtype [] (codes "i64") ≡ Some Int64) × (target_named [] (codes "i64") ≡ Some Int64)
    × (column_dtype [] (codes "i32") ≡ None) × (target_named [] (codes "u64") ≡ None)
    × (column_dtype [] (codes "i64,") ≡ None) × (column_dtype [] (codes "I64") ≡ None)
integers = (refl, refl, refl, refl, refl, refl)

-- an offset names the zone whose sign is turned, unless the offset was handed in as a name
offsets : (column_dtype [] (codes "datetime[us,+01:00]")
    ≡ Some (Datetime Microseconds (Some (codes "Etc/GMT-1"))))
    × (column_dtype (codes "+01:00" ∷ []) (codes "datetime[us,+01:00]")
    ≡ Some (Datetime Microseconds (Some (codes "+01:00"))))
    × (column_dtype [] (codes "datetime[us,Europe/Oslo]") ≡ None)
offsets = (refl, refl, refl)

-- a column has no wildcard as its zone, and a target may have it
wildcards : (column_dtype [] (codes "datetime[ns,*]") ≡ None)
    × (target_named [] (codes "datetime[ns,*]") ≡ Some (Datetime Nanoseconds (Some (codes "*"))))
    × (target_named [] (codes "binary") ≡ Some Binary)
wildcards = (refl, refl, refl)

-- a bar ends a chunk, and chunks without a slot are dropped; a truth value has its word
chunks : (chunks_of Date (codes "|" ∷ codes "1" ∷ codes "|" ∷ codes "|" ∷ codes "null" ∷ codes "2" ∷ [])
    ≡ Some ((Some (pos 1) ∷ []) ∷ ((None ∷ Some (pos 2) ∷ []) ∷ [])))
    × (chunks_of Boolean (codes "true" ∷ codes "null" ∷ codes "false" ∷ [])
    ≡ Some ((Some (pos 1) ∷ None ∷ Some (pos 0) ∷ []) ∷ []))
    × (chunks_of Boolean (codes "1" ∷ []) ≡ None) × (chunks_of Date (codes "true" ∷ []) ≡ None)
chunks = (refl, refl, refl, refl)

-- each kind of token
tokens : (symbol_of [] (codes "cast!:date") ≡ Some (CastTo Date Strict))
    × (symbol_of [] (codes "cast~:time") ≡ Some (CastTo Time Overflowing))
    × (symbol_of [] (codes "%") ≡ Some (Apply ops.Rem))
    × (symbol_of [] (codes "tdiv#-7") ≡ Some (ApplyRight scalar_ops.TruncDiv (negsuc 6)))
    × (symbol_of [] (codes "+3#-") ≡ Some (ApplyLeft (pos 3) ops.Sub))
    × (symbol_of [] (codes "unit:ms") ≡ Some (ToUnit Milliseconds))
    × (symbol_of [] (codes "shift:-9223372036854775808")
    ≡ Some (ShiftBy (negsuc 9223372036854775807)))
tokens = (refl, refl, refl, refl, refl, refl, refl)

-- tokens that are no node
bad_tokens : (symbol_of [] (codes "3#tdiv") ≡ None) × (symbol_of [] (codes "3-") ≡ None)
    × (symbol_of [] (codes "+#") ≡ None) × (symbol_of [] (codes "1#+#1") ≡ None)
    × (symbol_of [] (codes "unit:s") ≡ None) × (symbol_of [] (codes "cast:datetime[s]") ≡ None)
    × (symbol_of [] (codes "shift:9223372036854775808") ≡ None)
bad_tokens = (refl, refl, refl, refl, refl, refl, refl)

-- a node takes the trees before it, the right operand last, and one tree is left
expressions : (expression_line [] (codes "$0" ∷ codes "cast:duration[ns]" ∷ [])
    ≡ Some (Cast (Input 0) (Duration Nanoseconds) NonStrict))
    × (expression_line [] (codes "$7" ∷ codes "$8" ∷ codes "-" ∷ [])
    ≡ Some (Binary ops.Sub (Input 7) (Input 8)))
    × (expression_line [] (codes "$7" ∷ codes "shift:1" ∷ codes "unit:ns" ∷ [])
    ≡ Some (InUnit (Shift (Input 7) (pos 1)) Nanoseconds))
    × (expression_line [] (codes "3#-" ∷ codes "$0" ∷ []) ≡ None)
    × (expression_line [] (codes "$0" ∷ codes "+" ∷ []) ≡ None)
    × (expression_line [] (codes "$0" ∷ codes "$1" ∷ []) ≡ None) × (expression_line [] [] ≡ None)
expressions = (refl, refl, refl, refl, refl, refl, refl)

-- a zone serves the lines behind it, also twice, and none before it
zones : (script_of (codes "zone a/b\nzone a/b\ncol a datetime[ns,a/b]\nexpr $0")
    ≡ Ok (record {
      inputs = in_chunks [] (record {
        name = codes "a";
        dtype = Datetime Nanoseconds (Some (codes "a/b"));
        slots = [];
        flag = Not;
      }) ∷ [];
      expr = Input 0;
      plan = [];
    }))
    × (script_of (codes "col a datetime[ns,a/b]\nzone a/b\nexpr $0") ≡ Err 1)
    × (script_of (codes "zone a b\nexpr $0") ≡ Err 1) × (script_of (codes "zone\nexpr $0") ≡ Err 1)
    × (script_of (codes "expr $0\nzone a") ≡ Err 2)
zones = (refl, refl, refl, refl, refl)

-- a column and an expression over it
whole_script : script_of (codes "col a datetime[ns] -1 null\r\n\nexpr $0")
    ≡ Ok (record {
      inputs = in_one_chunk (record {
        name = codes "a";
        dtype = Datetime Nanoseconds None;
        slots = Some (whole (negsuc 0)) ∷ None ∷ [];
        flag = Not;
      }) ∷ [];
      expr = Input 0;
      plan = [];
    })
whole_script = refl

-- both ends of 64 bits in a column of integers
whole_words : script_of (codes "col a i64 -9223372036854775808 9223372036854775807\nexpr $0")
    ≡ Ok (record {
      inputs = in_one_chunk (record {
        name = codes "a";
        dtype = Int64;
        slots = Some (whole (negsuc 9223372036854775807)) ∷ Some (whole (pos 9223372036854775807)) ∷ [];
        flag = Not;
      }) ∷ [];
      expr = Input 0;
      plan = [];
    })
whole_words = refl

-- bars end chunks, and a chunk without a slot is dropped
bars : script_of (codes "col a date | 1 | | null 2 |\nexpr $0")
    ≡ Ok (record {
      inputs = in_chunks (1 ∷ 2 ∷ []) (record {
        name = codes "a";
        dtype = Date;
        slots = Some (whole (pos 1)) ∷ None ∷ Some (whole (pos 2)) ∷ [];
        flag = Not;
      }) ∷ [];
      expr = Input 0;
      plan = [];
    })
bars = refl

-- the first bad line is named, and the one behind the last where no expression comes
bad_lines : (script_of [] ≡ Err 1) × (script_of (13 ∷ []) ≡ Err 2)
    × (script_of (codes "\nexpr $0\nx\ny") ≡ Err 3)
    × (script_of (codes "expr $0\nexpr $0\n") ≡ Err 2)
    × (script_of (codes "col a datetime[ns] 9223372036854775808\nexpr $0") ≡ Err 1)
    × (script_of (codes "col a i64 -9223372036854775809\nexpr $0") ≡ Err 1)
bad_lines = (refl, refl, refl, refl, refl, refl)

-- the text of a column
column : column_text (record {
  name = codes "a";
  dtype = Datetime Milliseconds (Some (codes "UTC"));
  slots = Some (whole (negsuc 9)) ∷ None ∷ [];
  flag = Not;
})
    ≡ codes "a datetime[ms,UTC] 2\n-10\nnull\n"
unfolding digits
column = refl

-- the text of a column of integers
words : column_text (record {
  name = codes "a";
  dtype = Int64;
  slots = Some (whole (negsuc 9)) ∷ None ∷ [];
  flag = Not;
})
    ≡ codes "a i64 2\n-10\nnull\n"
unfolding digits
words = refl

-- the lines of a refusal and of a bad script
lines : (fault_text (refusals.Strict 2 10) ≡ codes "refused 2 strict 10\n")
    × (bad_line_text 12 ≡ codes "bad line 12\n")
unfolding digits
lines = (refl, refl)
