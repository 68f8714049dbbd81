use Rattle.tests_scripts.proofs.runs.verdict_in_room.Given as goal

abbrev pub ghosts-check_in_room : goal.ghosts-check_in_room
ghosts-check_in_room a = record { name = a.blank.name; parts = a.blank.parts }
