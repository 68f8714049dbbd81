use Rattle.std.proofs.Common.{◌≡◌, ◌≤◌, ◌-◌, length, take, drop, arith, ap, ◌∙◌, length-drop}
use Rattle.std.proofs.KnownBytes.{Appends-trans}
use Rattle.std.proofs.Math.Seq.{take-add}
use Rattle.std.proofs.lemmas.List.{take_rest}
use Rattle.col_prog.proofs.Room.{fits_less}
use Rattle.col_prog.proofs.writing.write_all.Goals as goal

pub writing-preserved : goal.writing-preserved
writing-preserved g c =
    let text = c.args.text.now in
    let at = c.writing.at in
    let n = c.in_ok-count.count in
    let rest : length (take (length text - at) (drop at text)) ≡ length text - at = ap length (take_rest text at) ∙ length-drop at text in
    let bound : n ≤ length text - at = rw rest at c.in_ok-count.ensures.bound in
    record {
      within = omega arith;
      written = rw (take-add at n text) (Appends-trans _ _ _ _ _ c.writing.invariant.written (rw (take_rest text at) at c.in_ok-count.ensures.written));
      fits = fits_less _ _ _ n (length text - at) _ c.writing.invariant.fits c.in_ok-count.ensures.room (omega arith);
      later = omega arith;
    }
