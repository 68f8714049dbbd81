use Rattle.std.proofs.Common.{ap, ◌∙◌}
use Rattle.std.proofs.lemmas.Str.{IsUtf8-from_is_utf8}
use Rattle.col_string.specs.Texts.{is_text_value}
use Rattle.col_string.proofs.readings.AsTextReaderPlainBytes.read.Goals as goal

pub from_utf8_unchecked-requires : goal.from_utf8_unchecked-requires
from_utf8_unchecked-requires c = IsUtf8-from_is_utf8 c.bytes_in-bytes.result.now (ap is_text_value c.bytes_in-bytes.ensures.bytes ∙ c.requires.fits)
