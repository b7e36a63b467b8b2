-- What a `History` stands for. Assumes nothing.
use Rattle.firm.specs.declared.history.History.{History}
use Rattle.firm.specs.Histories.{Firm}

abbrev pub firm_of : History → Firm
firm_of h = record { m = h.m; k = h.k; bits = h.bits }
