use Rattle.b1_tests_tables.proofs.pools.least_free_slice.Given as goal

abbrev pub ghosts-found : goal.ghosts-found
ghosts-found g a = record { name = a.blank.name; parts = a.blank.parts }
