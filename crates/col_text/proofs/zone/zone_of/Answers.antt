use Rattle.std.proofs.Common.{sym}
use Rattle.col_text.proofs.TextLemmas.{IsUtf8-zone_name}
use Rattle.col_text.proofs.zone.zone_of.Goals as goal

pub shared_text-requires : goal.shared_text-requires
shared_text-requires c = record {
  text = IsUtf8-zone_name c.args.name.now (sym c.if-is_zone_name.ensures.name);
}
