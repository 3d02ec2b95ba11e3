use Rattle.std.proofs.Common.{ℕ, List, ◌∙◌, ◌*◌, ap, subst, map, refl}
use Rattle.ws_words.specs.Memory.{OutIs}
use Rattle.ws_words.specs.Outside.{zeros, opening_out}
use Rattle.ws_words.specs.Plain.{world_of}
use Rattle.ws_isa.specs.declared.image.Pad.{Pad}
use Rattle.ws_isa.specs.declared.instr.Dest.{Dest}
use Rattle.ws_isa.specs.Image.{pad_of}
use Rattle.ws_isa.specs.View as view
use Rattle.ws_isa.specs.Walk.{opening_memory}
use Rattle.ws_isa.specs.Shows.{image_of, delivered}
use Rattle.ws_isa.proofs.Opening.{opened_at}
use Rattle.ws_isa.proofs.Programs.{some_block, start_is}
use Rattle.ws_isa.proofs.walk.open.Goals as goal

pub block-requires : goal.block-requires
block-requires c = some_block c.args.program.now c.requires

pub returns-clause-start : goal.returns-clause-start
unfolding opening_memory
returns-clause-start c =
    let p = c.args.program.now in
    opened_at (image_of p) (world_of c.args.world.now) c.requires _ p.total p.listed.total_is
    (c.in_ok-open.ensures.operands
    ∙ ap (λ (x : List Pad). delivered (pad_of (map view.pad x) 0) 0 (zeros (4 * p.total)))
    c.deref.ensures.value
    ∙ ap (λ (x : List Dest). delivered x 0 (zeros (4 * p.total)))
    (start_is p c.block.result.now c.block.ensures))
    c.in_ok-open.ensures.results
    (subst (λ (cells : List (List ℕ)). OutIs (opening_out cells (world_of c.args.world.now))
    c.in_ok-open-2.field-0) c.in_ok-empty_cells.ensures c.in_ok-open-2.ensures)
    refl refl
