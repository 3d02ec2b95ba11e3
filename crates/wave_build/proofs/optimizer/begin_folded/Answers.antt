use Rattle.src_ast.specs.Bound.{widest}
use Rattle.src_ast.specs.View as ast
use Rattle.cfg_core.specs.View as view
use Rattle.wave_build.proofs.CompilingRuns.{first_shows, next_shows, shown_so, joined_none}
use Rattle.wave_build.proofs.Simplified.{small_still, form_still}
use Rattle.wave_build.proofs.optimizer.begin_folded.Goals as goal

pub returns : goal.returns
returns c =
    let l = c.in_ok-lowered.ensures in
    let s = c.in_ok-folded.ensures in
    let j = c.in_ok-joined.ensures in
    let parts = ast.parts c.args.accepted.now.program.items.items in
    let g = view.graph c.in_ok-lowered.lowered in
    let f = view.graph c.in_ok-folded.folded in
    let h = view.graph c.in_ok-joined.joined in
    let form = form_still g f s.outline l.form in
    record {
      lowered = view.graph c.in_ok-folded.folded;
      lowering = record {
        rules = s.rules;
        shape = s.shape l.shape;
        turns = s.turns l.turns;
        work = s.work (widest parts) l.work;
        small = small_still g f s.outline parts s.sizes l.small;
        form = form;
      };
      joining = record {
        sets = _;
        is = j.joined;
        rules = j.rules;
        short = j.short;
        sizes = j.sizes;
        copies = j.copies;
        arms = j.arms;
        turns = j.turns;
      };
      no_send = joined_none f h form j.exits;
      shows = next_shows parts f h
          (next_shows parts g f (first_shows parts g l.run l.shown l.inside (shown_so parts g l.arrays))
          s.walks s.arrays) j.walks j.arrays;
    }
