-- What the figures of a forecast stand for. Assumes nothing.
use Rattle.bench.specs.declared.figures.Figures.{Figures}
use Rattle.model.specs.Figures as model

abbrev pub figures_of : Figures → model.Figures
figures_of f = record { length = f.length; busy = f.busy; met = f.met; missed = f.missed; load = f.load }
