use Rattle.multi_wave.proofs.crew.ThreadCrew.round.Given as goal

abbrev pub ghosts-phase : goal.ghosts-phase
ghosts-phase g a = record { homes = a.homes }
