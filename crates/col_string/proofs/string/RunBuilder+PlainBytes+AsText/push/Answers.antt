use Rattle.std.proofs.lemmas.Str.{is_utf8-from_IsUtf8}
use Rattle.col_string.proofs.string.RunBuilder+PlainBytes+AsText.push.Goals as goal

pub push_bytes-requires : goal.push_bytes-requires
push_bytes-requires c = record { fits = is_utf8-from_IsUtf8 c.as_bytes.result.now c.as_bytes.ensures.utf8 }
