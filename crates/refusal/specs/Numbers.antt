-- The number of each refusal and the name of each layer: the one place where they stand. Assumes nothing.
use Rattle.std.specs.Prelude.{ℕ, List, codes}
use Rattle.refusal.specs.declared.Refusal.{Refusal}
use Rattle.refusal.specs.declared.Refusal.TheVariants.{SlotRange, PeriodRange, DeadlineRange, ServiceRange, WindowRange, RequiredRange, HistoryWidth, UnitCount, FileShort, FieldUnknown, PeriodMissing, BytesFollow, WordUnknown, SlotTaken, SlotEmpty, HyperPeriodLimit, HistoryLimit, InstantLimit}
use Rattle.refusal.specs.declared.Layer.{Layer}
use Rattle.refusal.specs.declared.Layer.TheVariants.{File, Stream, Table, Word}

-- the number that a refusal carries
abbrev pub code : Refusal → ℕ
code SlotRange = 1
code PeriodRange = 2
code DeadlineRange = 3
code ServiceRange = 4
code WindowRange = 5
code RequiredRange = 6
code HistoryWidth = 7
code UnitCount = 8
code FileShort = 9
code FieldUnknown = 10
code PeriodMissing = 11
code BytesFollow = 12
code WordUnknown = 13
code SlotTaken = 20
code SlotEmpty = 21
code HyperPeriodLimit = 22
code HistoryLimit = 23
code InstantLimit = 24

-- the name of a layer, as it is printed
abbrev pub label : Layer → List ℕ
label File = codes "file"
label Stream = codes "stream"
label Table = codes "table"
label Word = codes "word"
