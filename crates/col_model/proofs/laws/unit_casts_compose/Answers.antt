use Rattle.col_model.proofs.ChainLemmas.{finer_moments_one, finer_lengths_one, coarser_moments_one, coarser_lengths_one}
use Rattle.col_model.proofs.laws.unit_casts_compose.Goals as goal

pub returns-clause-finer_moments : goal.returns-clause-finer_moments
returns-clause-finer_moments c = finer_moments_one

pub returns-clause-finer_lengths : goal.returns-clause-finer_lengths
returns-clause-finer_lengths c = finer_lengths_one

pub returns-clause-coarser_moments : goal.returns-clause-coarser_moments
returns-clause-coarser_moments c = coarser_moments_one

pub returns-clause-coarser_lengths : goal.returns-clause-coarser_lengths
returns-clause-coarser_lengths c = coarser_lengths_one
