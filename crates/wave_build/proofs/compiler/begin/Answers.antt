use Rattle.src_ast.specs.View as ast
use Rattle.cfg_core.specs.View as view
use Rattle.wave_build.proofs.CompilingRuns.{first_shows, next_shows, shown_so, joined_none}
use Rattle.wave_build.proofs.compiler.begin.Goals as goal

pub returns : goal.returns
returns c =
    let l = c.in_ok-lowered.ensures in
    let j = c.in_ok-joined.ensures in
    let parts = ast.parts c.args.accepted.now.program.items.items in
    let g = view.graph c.in_ok-lowered.lowered in
    let h = view.graph c.in_ok-joined.joined in
    record {
      lowered = view.graph c.in_ok-lowered.lowered;
      lowering = record {
        rules = l.rules;
        shape = l.shape;
        turns = l.turns;
        work = l.work;
        small = l.small;
        form = l.form;
      };
      joining = record {
        sets = _;
        is = j.joined;
        rules = j.rules;
        short = j.short;
        sizes = j.sizes;
        copies = j.copies;
        arms = j.arms;
        turns = j.turns;
      };
      no_send = joined_none g h l.form j.exits;
      shows = next_shows parts g h (first_shows parts g l.run l.shown l.inside (shown_so parts g l.arrays))
          j.walks j.arrays;
    }
