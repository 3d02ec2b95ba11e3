use Rattle.std.proofs.Common.{ap, sym, ◌∙◌, subst, map}
use Rattle.ws_isa.specs.View as view
use Rattle.grid_clock.specs.Clocks.{Clocks}
use Rattle.asm_read.specs.Reads.{world_of}
use Rattle.wsc_top.specs.Executions.{EndsRun}
use Rattle.wsc_top.specs.Clocked.{grid_of, clocked_text}
use Rattle.wsc_top.proofs.Told.Grids.{ends_clocked}
use Rattle.wsc_top.proofs.clocked.clocked.Goals as goal

pub returns-clause-told : goal.returns-clause-told
returns-clause-told c = record {
  run = c.in_ok-run.run';
  clocks = subst (λ w. Clocks (grid_of c.args.options c.args.image.now) w c.in_ok-run.run')
      c.in_ok-world.ensures c.in_ok-run.ensures;
  status_is = c.status_of.ensures;
  text_is = c.in_ok-text.ensures ∙ ap (λ arrays. clocked_text c.args.options arrays c.in_ok-run.run')
      (ap (map view.array) c.as_slice.ensures.value ∙ ap (λ i. i.arrays) c.image.ensures.image);
}

pub returns-clause-ends : goal.returns-clause-ends
returns-clause-ends c =
    let clocks = subst (λ w. Clocks (grid_of c.args.options c.args.image.now) w c.in_ok-run.run')
    c.in_ok-world.ensures c.in_ok-run.ensures in
    subst (EndsRun c.args.image.now (world_of c.args.input) c.args.options.budget) (sym c.status_of.ensures)
    (ends_clocked c.args.image.now (world_of c.args.input) c.args.options.budget _ c.in_ok-run.run'.finish
    clocks.run)
