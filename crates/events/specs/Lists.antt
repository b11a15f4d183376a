-- Lists of events in lent records.
use Rattle.std.specs.Prelude.{suc, List, take, drop}
use Rattle.events.specs.declared.list.EventList.{EventList}
use Rattle.events.specs.declared.record.EventRecord.{EventRecord}

module _ {E : Type 0} where
  -- the base and the kept changes of a list
  abbrev pub shown : EventList E → List (EventRecord E)
  shown list = take (suc list.kept) list.records.now

  -- its spare records
  abbrev pub spare : EventList E → List (EventRecord E)
  spare list = drop (suc list.kept) list.records.now
