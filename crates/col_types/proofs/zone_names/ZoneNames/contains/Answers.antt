use Rattle.std.proofs.Common.{ap, ◌∙◌, sym}
use Rattle.col_types.specs.Zones.{has_name}
use Rattle.col_types.proofs.NameLemmas.{look_up-has_name}
use Rattle.col_types.proofs.zone_names.ZoneNames.contains.Goals as goal

pub returns-clause-value : goal.returns-clause-value
returns-clause-value c =
    c.contains.ensures ∙ look_up-has_name c.self.inside.names.keys c.args.name.now
    ∙ ap (λ names. has_name names c.args.name.now) c.self.view_is

pub returns-clause-short : goal.returns-clause-short
returns-clause-short c = λ found.
    c.self.invariant c.args.name.now
    (sym (c.contains.ensures ∙ look_up-has_name c.self.inside.names.keys c.args.name.now) ∙ found)
