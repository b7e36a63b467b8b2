-- The ranking rules that have a word are lawful: of two frames in different slots one goes before the other, and this is passed along. Assumes nothing.
use Rattle.std.specs.Prelude.{ℕ, Bool}
use Rattle.std.proofs.Common.{rules}
use Rattle.model.specs.Ready.{Ready, Total, Chain}
use Rattle.bus.specs.Rules.{lower_slot, higher_slot, layered, by_distance, by_restoring, by_left, by_period}
use Rattle.bus.specs.Rankings.{meaning}
use Rattle.bus.specs.declared.ranking.Ranking.{Ranking}
use Rattle.bus.specs.declared.ranking.Ranking.TheVariants.{Del, Deh, Dml, Drel, El, Ml}

-- a rule that is lawful
pub record Orders (before : Ready → Ready → Bool) : Type 0 where
  pub total : Total before
  pub chain : Chain before

pub lower : Orders lower_slot
lower = record { total = search rules; chain = search rules }

pub higher : Orders higher_slot
higher = record { total = search rules; chain = search rules }

-- a layer over it
pub over : (key : Ready → ℕ) (below : Ready → Ready → Bool) → Orders below → Orders (layered key below)
over key below h = record {
  total = let t = h.total in search rules;
  chain = let t = h.chain in search rules;
}

pub orders : (r : Ranking) → Orders (meaning r)
orders Del = over by_distance _ (over by_left _ lower)
orders Deh = over by_distance _ (over by_left _ higher)
orders Dml = over by_distance _ (over by_period _ lower)
orders Drel = over by_distance _ (over by_restoring _ (over by_left _ lower))
orders El = over by_left _ lower
orders Ml = over by_period _ lower
