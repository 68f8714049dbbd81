use Rattle.std.proofs.lemmas.Str.{is_utf8-from_IsUtf8}
use Rattle.col_string.proofs.additions.StringChunkedStringArithmetic.try_add_str.Goals as goal

pub extend-requires : goal.extend-requires
extend-requires c = record { fits = is_utf8-from_IsUtf8 c.as_bytes.result.now c.as_bytes.ensures.utf8 }
