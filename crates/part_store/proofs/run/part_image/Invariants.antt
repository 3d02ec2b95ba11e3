use Rattle.port_set.specs.Slots.{contents}
use Rattle.store_buf.specs.Outdoors.{began_of, world_with}
use Rattle.part_store.proofs.run.part_image.Given as goal

abbrev pub ghosts-part_run : goal.ghosts-part_run
ghosts-part_run g a = record {
  image = a.image.now;
  world = world_with a.input (contents g.P.Port.tells a.ports);
  began = began_of (contents g.P.Port.tells a.ports);
}
