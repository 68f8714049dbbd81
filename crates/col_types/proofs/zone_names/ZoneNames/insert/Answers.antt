use Rattle.std.proofs.Common.{◌≡◌, ap, ◌∙◌, sym, subst, Ok}
use Rattle.std.specs.Rc.{rc_str_bytes}
use Rattle.col_types.specs.Zones.{with_name, AreShort}
use Rattle.col_types.proofs.NameLemmas.{names_of, insert_key-with_name, AreShort-with_name}
use Rattle.col_types.proofs.zone_names.ZoneNames.insert.Goals as goal

more : (c : goal.In_ok-insert)
    → names_of c.insert.new.self.keys ≡ with_name c.args.self.now c.args.name
more c =
    let key = c.into_text.result in
    ap names_of c.in_ok-insert.ensures.keys ∙ insert_key-with_name c.self.inside.names.keys key
    ∙ ap (λ names. with_name names (rc_str_bytes key)) c.self.view_is
    ∙ ap (with_name c.args.self.now) c.into_text.ensures.text

pub invariant_of-self-2 : goal.invariant_of-self-2
invariant_of-self-2 c =
    subst AreShort (sym (more c)) (AreShort-with_name c.args.self.now c.args.name
    (subst AreShort c.self.view_is c.self.invariant) c.requires.short)

pub returns : goal.returns
returns c = record { names = ap Ok (sym (more c)) }
