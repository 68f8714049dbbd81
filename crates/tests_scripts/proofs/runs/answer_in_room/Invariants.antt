use Rattle.tests_scripts.proofs.runs.answer_in_room.Given as goal

abbrev pub ghosts-run_in_room : goal.ghosts-run_in_room
ghosts-run_in_room a = record { name = a.blank.name; parts = a.blank.parts }
