use Rattle.std.proofs.Common.{arith, Some}
use Rattle.col_buffer.proofs.BitLaws.{valid_count-le, valid_count-none}
use Rattle.col_buffer.proofs.validity.null_places.Goals as goal

pub overflow_sub-result : goal.overflow_sub-result
overflow_sub-result c = omega (arith, c.count_set.ensures, valid_count-le (Some c.in-Some.words.now) c.args.offset c.args.len)

pub returns-in-None : goal.returns-in-None
returns-in-None c = record { count = let is = valid_count-none c.args.offset c.args.len in rw c.in-None.is (omega (arith, is)) }

pub returns-in-Some : goal.returns-in-Some
returns-in-Some c = record { count = let below = valid_count-le (Some c.in-Some.words.now) c.args.offset c.args.len in rw c.in-Some.is (omega (arith, below, c.count_set.ensures)) }
