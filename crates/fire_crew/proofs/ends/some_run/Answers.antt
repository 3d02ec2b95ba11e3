use Rattle.df_core.specs.Shown.{shown}
use Rattle.store_buf.specs.Contents.{buffer_in}
use Rattle.match_table.specs.Together.{part_of}
use Rattle.fire_crew.proofs.Endings as E
use Rattle.fire_crew.proofs.ends.some_run.Goals as goal

pub returns : goal.returns
returns g c =
    let image = g.J.Job.image in
    let world = g.J.Job.world in
    let formed = c.facts-3.ensures.formed in
    let sound = c.facts-3.ensures.sound in
    let t = part_of c.args.tables.now in
    let m = c.facts-2.ensures.stands.0 in
    let is = c.facts-2.ensures.stands.1 in
    let fit = c.shown_is_fit.ensures image world formed sound t (buffer_in image c.args.buffer.now m)
    c.facts.ensures.part is.ok in
    let s = shown image t (buffer_in image c.args.buffer.now m) in
    let right = c.facts-4.ensures.right in
    E.some_run _ _ formed sound _ _ c.facts.ensures.part c.facts.ensures.once _ _ is fit
    (c.counts.ensures.fewer image world formed sound s fit (E.shown_once _ _ formed sound _ _
    c.facts.ensures.part c.facts.ensures.once _ _ is fit) right.time right.inst right.at.fires (E.not_fired
    image world formed sound g.J.Job.began t c.facts.ensures.part c.facts.ensures.once c.args.buffer.now m is
    fit c.args.token.now right c.requires.missing)) (c.counts.ensures.passed image world formed sound s fit
    (E.not_stopped _ _ formed sound _ _ c.facts.ensures.part c.facts.ensures.once _ _ is fit
    c.requires.going.0) (E.none_issues _ _ formed sound _ _ c.facts.ensures.part c.facts.ensures.once _ _ is
    fit c.requires.known (c.facts-2.ensures.idle c.requires.going.1 c.requires.going.2 m)))
