use Rattle.std.proofs.Common.{ℕ, ◌≡◌, None, true, false, [], List, map, length, ap, ◌∙◌}
use Rattle.std.proofs.Common.{arith}
use Rattle.std.proofs.lemmas.Bool.{both_ways}
use Rattle.std.specs.List.{list_any}
use Rattle.ws_isa.specs.Image.{Image, cells_of}
use Rattle.ws_isa.specs.View as view
use Rattle.store_buf.specs.Finding.{pair_eq}
use Rattle.part_store.specs.declared.bare.Bare.{Bare}
use Rattle.part_store.specs.declared.parts.Parts.{Parts}
use Rattle.part_store.specs.Bares.{is_in}
use Rattle.part_store.proofs.Running.Opening as O
use Rattle.part_store.proofs.part.PartBuffer.begin.Goals as goal
use Rattle.store_buf.proofs.Idle.{none_wait}
use Rattle.store_buf.proofs.Coming.{no_room}

-- nothing is bare
none_bare : (b : Bare) → b.set.keys ≡ [] → (w i : ℕ) → is_in b w i ≡ true → ⊥
none_bare b e w i h = both_ways (is_in b w i)
    (ap (λ (ps : List (ℕ × ℕ)). list_any (pair_eq (w, i)) ps) e) h

pub invariant_of-result : goal.invariant_of-result
invariant_of-result g c =
    let image = g.J.Job.image in
    let world = g.J.Job.world in
    let order = c.new-3.result in
    let bare = c.new-4.result in
    let queues = c.new-5.result in
    let w = none_wait order c.new-3.ensures.kept in
    let n : length queues.entries.items ≡ 0 = ap length c.new-5.ensures.none in
    let s : Parts g.row.P.Denot = record {
      order = order;
      bare = bare;
      queues = queues;
      outer = record {
        cells = c.in-Ok.cells;
        input = c.args.input;
        read = 0;
        printed = c.new.result;
        ports = c.new-2.result;
      };
      fault = None;
      failed = None;
      starved = false;
    } in
    let cells : c.in-Ok.cells ≡ cells_of image.arrays = c.in-Ok.ensures ∙ ap (λ xs. cells_of (map view.array
    xs)) c.deref.ensures.value ∙ ap (λ (i : Image). cells_of i.arrays) (c.image.ensures.content ∙
    c.program.ensures.image) in
    O.opening_stands image world g.J.Job.began (λ state r. c.every_list_of_events.ensures.reach image world
    c.program.ensures.formed c.program.ensures.sound state r) c.new-2.result (rw c.new-2.ensures
    c.requires.ports) s (record {
      early = no_room order c.new-3.ensures.kept c.new-3.ensures.early;
      printed = omega (arith, w, c.new.ensures.len);
      queues = omega (arith, w, n, queues.entries.ok.0);
      lines = omega (arith, w);
      counted = c.new-5.ensures.ok;
      bare = λ w i e. absurd (none_bare bare c.new-4.ensures w i e);
    }) (record {
      filed = c.new-3.ensures.filed image;
      stores = λ w i e. absurd (none_bare bare c.new-4.ensures w i e);
    }) c.new-3.ensures.early (λ j. record {
      kept = c.new-3.ensures.kept j;
      bare = c.new-4.ensures j;
      queued = c.new-5.ensures.none j;
      chain = record { wave = c.new-3.ensures.wave j; last = c.new-3.ensures.last j };
      fault = None;
      failed = None;
      starved = false;
      outside = record {
        cells = cells j;
        input = c.requires.input j;
        printed = c.new.ensures.items j;
        ports = c.new-2.result;
      };
    })
