-- What a `ReadyFrame` stands for. Assumes nothing.
use Rattle.bus.specs.declared.ready.ReadyFrame.{ReadyFrame}
use Rattle.firm.specs.Stands.{firm_of}
use Rattle.model.specs.Ready.{Ready}

abbrev pub ready_of : ReadyFrame → Ready
ready_of f =
    record {
      slot = f.slot;
      period = f.period;
      deadline = f.deadline;
      service = f.service;
      history = firm_of f.history;
      left = f.left;
    }
