use Rattle.b1_heap.proofs.heap.IndexedHeapQueueKind.restamp.Given as goal

abbrev pub ghosts-restamp_cell : goal.ghosts-restamp_cell
ghosts-restamp_cell a = record { name = a.blank.name; parts = a.blank.parts }
