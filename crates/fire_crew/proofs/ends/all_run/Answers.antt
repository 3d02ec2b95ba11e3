use Rattle.df_core.specs.Shown.{shown}
use Rattle.store_buf.specs.Contents.{buffer_in}
use Rattle.match_table.specs.Together.{part_of}
use Rattle.fire_crew.proofs.Endings as E
use Rattle.fire_crew.proofs.ends.all_run.Goals as goal

pub returns : goal.returns
returns g c =
    let image = g.J.Job.image in
    let world = g.J.Job.world in
    let formed = c.facts-3.ensures.formed in
    let sound = c.facts-3.ensures.sound in
    let t = part_of c.args.tables.now in
    let m = c.facts-2.ensures.stands.0 in
    let is = c.facts-2.ensures.stands.1 in
    let fit = c.shown_is_fit.ensures image world formed sound t (buffer_in image c.args.buffer.now m)
    c.facts.ensures.part is.ok in
    let s = shown image t (buffer_in image c.args.buffer.now m) in
    let rest = c.owing_nothing_is_rest.ensures image t (buffer_in image c.args.buffer.now m) (E.owes _ _
    formed sound _ _ c.facts.ensures.part c.facts.ensures.once _ _ is fit c.requires.known (c.requires.come
    m)) (c.facts-2.ensures.idle c.requires.going.1 c.requires.going.2 m) in
    E.all_run _ _ formed sound _ _ c.facts.ensures.part c.facts.ensures.once _ _ is fit c.requires.going.0
    (c.every_list_of_events.ensures.rest image world formed sound s fit rest) (λ w n. c.counts.ensures.rest
    image world formed sound s fit w n) (c.counts.ensures.fired image world formed sound s fit (E.shown_once _
    _ formed sound _ _ c.facts.ensures.part c.facts.ensures.once _ _ is fit))
