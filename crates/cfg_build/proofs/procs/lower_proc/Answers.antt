use Rattle.std.proofs.Common.{List, ap, ◌+◌, ◌∙◌}
use Rattle.seq_run.specs.View as source
use Rattle.seq_run.specs.declared.tree.Step.{Step}
use Rattle.cfg_core.specs.Graph.{Block}
use Rattle.cfg_build.specs.Building.{emit}
use Rattle.cfg_build.specs.Views.{builder as builder_of}
use Rattle.cfg_build.proofs.CodeProcs.{emitted_blocks}
use Rattle.cfg_build.proofs.procs.lower_proc.Goals as goal

pub returns : goal.returns
returns c =
    let begin = builder_of c.at-builder.result in
    let made = c.in_ok-lower_steps.ensures ∙ ap (λ (ss : List Step). emit (source.steps ss) begin)
    c.deref.ensures.value in
    ap (λ (blocks : List Block). record {
      params = c.args.proc.now.params;
      vars = c.args.proc.now.params + c.args.proc.now.locals;
      blocks = blocks;
    })
    (emitted_blocks (source.steps c.args.proc.now.body.items) (source.result c.args.proc.now.result)
    c.args.first begin (builder_of c.lower_steps.new.builder) _ c.at-builder.ensures made
    c.in_ok-blocks.ensures)
