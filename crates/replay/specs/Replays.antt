-- What the replay of a list of calls answers. Assumes nothing.
use Rattle.std.specs.Prelude.{◌≡◌, Bool, List, Some, None}
use Rattle.model.specs.Bench.{Call, plain}
use Rattle.model.specs.Bench.Plain.{laid, running}
use Rattle.model.specs.Forecast.{Foretells}
use Rattle.model.specs.Machine.{State}
use Rattle.model.specs.Ready.{Ready}
use Rattle.model.specs.Tables.{Table}
use Rattle.bench.specs.Answers.{answer_of}
use Rattle.replay.specs.declared.replayed.Replayed.{Replayed}
use Rattle.replay.specs.declared.replayed.Replayed.TheVariants.{Foretold, Laid, NoSuchCall}

-- the plain bench, given the calls, is running, and the forecast tells of its quiet schedule; or it is laid; or there is none,
-- since it had no such call
abbrev pub Replays : (Ready → Ready → Bool) → List Call → Replayed → Type 0
Replays before calls (Foretold f) =
    ((t : Table) × (s : State) × (plain before calls ≡ Some (running t s))) × Foretells before calls (answer_of f)
Replays before calls Laid = (t : Table) × (plain before calls ≡ Some (laid t))
Replays before calls NoSuchCall = plain before calls ≡ None
