use Rattle.laws.proofs.Running.{table_sound, run_sound, run_now, stream_run}
use Rattle.laws.proofs.run_laws.Goals as goal

pub returns : goal.returns
returns c = record { start = table_sound; sound = run_sound; clock = run_now; streams = stream_run }
