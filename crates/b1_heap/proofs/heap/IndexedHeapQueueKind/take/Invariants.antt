use Rattle.b1_heap.proofs.heap.IndexedHeapQueueKind.take.Given as goal

abbrev pub ghosts-take_uncounted : goal.ghosts-take_uncounted
ghosts-take_uncounted a = record { name = a.blank.name; parts = a.blank.parts }
