use Rattle.tests_scripts.proofs.expr.+full.Given as goal

abbrev pub decreases-full : goal.decreases-full
decreases-full l = l.levels
