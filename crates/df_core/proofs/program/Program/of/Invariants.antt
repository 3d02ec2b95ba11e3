use Rattle.std.proofs.Common.{◌≡◌, ◌++◌, suc, map, drop}
use Rattle.ws_isa.specs.View as view
use Rattle.df_core.specs.Listed.{place_in_code, places}
use Rattle.df_core.proofs.program.Program.of.Given as goal

abbrev pub invariant-loop-block : goal.invariant-loop-block
invariant-loop-block l = record {
  spots : map place_in_code l.spots.items ++ places (map view.block (drop l.block-index l.block-items))
      (suc l.block-index) ≡ places (map view.block l.block-items) 1;
  number : l.number ≡ l.block-index;
}
