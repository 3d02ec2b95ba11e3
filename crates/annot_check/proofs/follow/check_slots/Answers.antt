use Rattle.std.proofs.Common.{◌≡◌, ◌∙◌, ◌+◌, ℕ, length, ap, arith}
use Rattle.ws_isa.specs.View as view
use Rattle.annot_check.specs.Open.{slots_in, nodes_of}
use Rattle.annot_check.proofs.Shaped.Blocks.{count_is}
use Rattle.annot_check.proofs.Slotted.Held.{shut_look, slots_blank}
use Rattle.annot_check.proofs.Slotted.Whole.{board_is, board_small, opening_ready}
use Rattle.annot_check.proofs.follow.check_slots.Goals as goal

pub none_held-requires : goal.none_held-requires
none_held-requires c =
    let n : c.len-count.result ≡ length (view.image c.args.image.now).blocks =
    omega (arith, c.len-count.ensures, count_is c.args.image.now) in
    board_small (view.image c.args.image.now) _ c.requires.formed
    (board_is (view.image c.args.image.now) c.in_ok-starts.starts.items c.len-count.result c.index.result.now
    c.in_ok-starts.ensures n c.index.ensures)

pub follow-requires-clause-between : goal.follow-requires-clause-between
follow-requires-clause-between c =
    let n : c.len-count.result ≡ length (view.image c.args.image.now).blocks =
    omega (arith, c.len-count.ensures, count_is c.args.image.now) in
    record {
      ready = opening_ready _ c.requires.formed (rw c.as_slice.ensures.value c.in_ok-starts.ensures)
          c.in_ok-held.ensures.ok (c.in_ok-held.ensures.size ∙ board_is (view.image c.args.image.now)
          c.in_ok-starts.starts.items c.len-count.result c.index.result.now c.in_ok-starts.ensures n
          c.index.ensures) (c.in_ok-table.ensures.size ∙ ap (λ (m : ℕ). m + 1) n) c.in_ok-table.ensures.blank;
      shut = c.in_ok-held.ensures.shut;
      blank = c.in_ok-table.ensures.blank;
      no_todo = c.new.ensures.items;
    }

pub follow-requires-clause-blank : goal.follow-requires-clause-blank
follow-requires-clause-blank c = shut_look c.in_ok-held.held c.in_ok-held.ensures.ok c.in_ok-held.ensures.shut
    ∙ (ap (slots_in (nodes_of c.in_ok-held.held) c.in_ok-held.held.depth) c.in_ok-held.ensures.blank ∙
    slots_blank (nodes_of c.in_ok-held.held) c.in_ok-held.held.depth c.in_ok-held.ensures.ok.nodes)
