-- What a tree that can't be built says of its line.
use Rattle.col_expr.specs.declared.error.ExprCause.{ExprCause}
use Rattle.col_expr.specs.declared.error.ExprCause.TheVariants as causes
use Rattle.col_text.specs.declared.line_error.LineError.{LineError}
use Rattle.col_text.specs.declared.line_error.LineError.TheVariants.{Bad, NoMemory}

-- a tree past the limits makes its line bad
abbrev pub line_error_of : ExprCause → LineError
line_error_of (causes.ExprTooLarge nodes) = Bad
line_error_of (causes.ExprTooDeep depth) = Bad
line_error_of causes.NoMemory = NoMemory
