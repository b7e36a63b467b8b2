-- What a call stands for, and a bench that is laid or running. Assumes nothing.
use Rattle.bench.specs.Stands.{table_in, table_under, state_in}
use Rattle.bus.specs.declared.rule.Rule.{Ghosts}
use Rattle.model.specs.Bench as model
use Rattle.model.specs.Bench.Plain.{laid, running}
use Rattle.model.specs.Bench.Call.{fit, pull, prime, load, start, advance, disturb, stop}
use Rattle.replay.specs.declared.either.Bench.{Bench}
use Rattle.replay.specs.declared.either.Bench.TheVariants.{Laid, Running}
use Rattle.replay.specs.declared.call.Call.{Call}
use Rattle.replay.specs.declared.call.Call.TheVariants.{Fit, Pull, Prime, Load, Start, Advance, Disturb, Stop}

abbrev pub call_of : Call → model.Call
call_of (Fit slot n) = fit slot n.period n.deadline n.service n.m n.k n.history
call_of (Pull slot) = pull slot
call_of (Prime slot history) = prime slot history
call_of (Load file) = load file.now
call_of Start = start
call_of (Advance units) = advance units
call_of Disturb = disturb
call_of Stop = stop

-- the plain bench that a bench stands for
abbrev pub stands : {R : Type 0} {g : Ghosts R} → Bench R g → model.Plain
stands (Laid b) = laid (table_in b)
stands (Running b) = running (table_under b) (state_in b)

-- the rule that it was made over
abbrev pub rule_in : {R : Type 0} {g : Ghosts R} → Bench R g → R
rule_in (Laid b) = b.rule
rule_in (Running b) = b.rule
