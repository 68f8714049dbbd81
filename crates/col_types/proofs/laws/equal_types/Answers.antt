use Rattle.col_types.proofs.DerivedLemmas.{derived_is}
use Rattle.col_types.proofs.TypeLemmas.{same_type-Decides}
use Rattle.col_types.proofs.laws.equal_types.Goals as goal

pub returns-clause-derived : goal.returns-clause-derived
returns-clause-derived c = derived_is

pub returns-clause-shapes : goal.returns-clause-shapes
returns-clause-shapes c = same_type-Decides
