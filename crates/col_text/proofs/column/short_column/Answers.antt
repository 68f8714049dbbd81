use Rattle.col_text.proofs.TextLemmas.{IsUtf8-name}
use Rattle.col_text.proofs.column.short_column.Goals as goal

pub shared_text-requires : goal.shared_text-requires
shared_text-requires g c = record { text = IsUtf8-name c.args.name.now c.requires.name }
