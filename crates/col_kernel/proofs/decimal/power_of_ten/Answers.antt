use Rattle.col_kernel.proofs.Scales.{ten_fits}
use Rattle.col_kernel.proofs.decimal.power_of_ten.Goals as goal

pub pow-requires : goal.pow-requires
pow-requires c = ten_fits c.args.exponent c.requires.few_digits
