use Rattle.std.proofs.Common.{refl}
use lib.Count.{ones, ones_in}
use Rattle.firm.specs.Searches.{first_from}
use Rattle.firm.specs.Histories.{distance, restoring, repeated, entered, passes}
use Rattle.firm.proofs.laws.worked_examples.Goals as goal

pub returns : goal.returns
unfolding distance restoring first_from repeated entered passes ones ones_in
returns c = record { misses = (refl, refl, refl, refl); mets = (refl, refl, refl, refl) }
