use Rattle.port_set.specs.Slots.{contents}
use Rattle.store_buf.specs.Outdoors.{began_of, world_with}
use Rattle.fire_crew.proofs.crew.Crew.run_image.Given as goal

abbrev pub ghosts-run_as : goal.ghosts-run_as
ghosts-run_as g a = record {
  image = a.image.now;
  world = world_with a.input (contents g.P.Port.tells a.ports);
  began = began_of (contents g.P.Port.tells a.ports);
}
