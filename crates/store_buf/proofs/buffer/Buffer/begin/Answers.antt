use Rattle.std.proofs.Common.{◌≡◌, None, false, map, ap, ◌∙◌, sym, subst, arith}
use Rattle.ws_isa.specs.Image.{Image, cells_of}
use Rattle.ws_isa.specs.View as view
use Rattle.ws_isa.specs.Walk.{opening_memory}
use Rattle.store_buf.specs.declared.store.Store.{Store}
use Rattle.store_buf.specs.Outdoors.{AllBegan}
use Rattle.store_buf.specs.Contents.{Content, IsBuffer, opening_content}
use Rattle.store_buf.specs.Stores.{content_of}
use Rattle.store_buf.proofs.Opening as O
use Rattle.store_buf.proofs.buffer.Buffer.begin.Goals as goal
use Rattle.store_buf.proofs.Idle.{none_wait}
use Rattle.store_buf.proofs.Coming.{no_room}

pub invariant_of-result : goal.invariant_of-result
invariant_of-result g c =
    let image = g.J.Job.image in
    let world = g.J.Job.world in
    let w = none_wait c.new-3.result c.new-3.ensures.kept in
    let s : Store g.row.P.Denot =
    record {
      order = c.new-3.result;
      outer = record {
        cells = c.in-Ok.cells;
        input = c.args.input;
        read = 0;
        printed = c.new.result;
        ports = c.new-2.result;
      };
      fault = None;
      failed = None;
      starved = false;
    } in
    let cells : c.in-Ok.cells ≡ cells_of image.arrays = c.in-Ok.ensures
    ∙ ap (λ xs. cells_of (map view.array xs)) c.deref.ensures.value
    ∙ ap (λ (i : Image). cells_of i.arrays) (c.image.ensures.content ∙ c.program.ensures.image) in
    O.opening_stands image world g.J.Job.began (λ state r. c.every_list_of_events.ensures.reach image world
    c.program.ensures.formed c.program.ensures.sound state r)
    c.new-2.result (subst (AllBegan g.J.Job.began world.left) (sym c.new-2.ensures) c.requires.ports) s
    (record {
      filed = c.new-3.ensures.filed image;
      early = no_room c.new-3.result c.new-3.ensures.kept c.new-3.ensures.early;
      printed = omega (arith, w, c.new.ensures.len);
    })
    c.new-3.ensures.early
    (λ j. record {
      kept = c.new-3.ensures.kept j;
      chain = record { wave = c.new-3.ensures.wave j; last = c.new-3.ensures.last j };
      fault = None;
      failed = None;
      starved = false;
      outside = record {
        cells = cells j;
        input = c.requires.input j;
        printed = c.new.ensures.items j;
        ports = c.new-2.result;
      };
    })

pub returns-clause-stands : goal.returns-clause-stands
returns-clause-stands g c =
    let image = g.J.Job.image in
    let world = g.J.Job.world in
    let cells : c.in-Ok.cells ≡ cells_of image.arrays = c.in-Ok.ensures
    ∙ ap (λ xs. cells_of (map view.array xs)) c.deref.ensures.value
    ∙ ap (λ (i : Image). cells_of i.arrays) (c.image.ensures.content ∙ c.program.ensures.image) in
    let s : Store g.row.P.Denot =
    record {
      order = c.new-3.result;
      outer = record {
        cells = c.in-Ok.cells;
        input = c.args.input;
        read = 0;
        printed = c.new.result;
        ports = c.new-2.result;
      };
      fault = None;
      failed = None;
      starved = false;
    } in
    let is : content_of s ≡ opening_content image world c.new-2.result = λ j. record {
      kept = c.new-3.ensures.kept j;
      chain = record { wave = c.new-3.ensures.wave j; last = c.new-3.ensures.last j };
      fault = None;
      failed = None;
      starved = false;
      outside = record {
        cells = cells j;
        input = c.requires.input j;
        printed = c.new.ensures.items j;
        ports = c.new-2.result;
      };
    } in
    subst (λ (x : Content). IsBuffer image world g.J.Job.began x (opening_memory image world)) (sym is)
    (O.opening_is image world g.J.Job.began (λ state r. c.every_list_of_events.ensures.reach image world
    c.program.ensures.formed c.program.ensures.sound state r)
    c.new-2.result (subst (AllBegan g.J.Job.began world.left) (sym c.new-2.ensures) c.requires.ports))
