use Rattle.b1_heap.proofs.heap.IndexedHeapQueueKind.remove.Given as goal

abbrev pub ghosts-remove_cell : goal.ghosts-remove_cell
ghosts-remove_cell a = record { name = a.blank.name; parts = a.blank.parts }
