use Rattle.std.proofs.Common.{◌≡◌, None}
use Rattle.df_core.specs.Places.{image_of}
use Rattle.store_buf.specs.Requests.{entry_of}
use Rattle.part_store.proofs.Running.Coming as C
use Rattle.part_store.proofs.parts.Parts.keep_bare.Goals as goal

pub add_bare-requires-clause-kept : goal.add_bare-requires-clause-kept
add_bare-requires-clause-kept g c =
    let ks = c.reserve_bare.new.self.order.kept.items in
    let fresh : entry_of ks c.args.kept.wave c.args.kept.instr ≡ None =
    rw c.in_ok-reserve_bare.ensures.keeps.kept_are c.requires.fresh in
    rw c.in_ok-keep.ensures.keeps.kept_are (C.kept_now ks c.args.kept fresh)

pub returns-in_err-reserve_bare-clause-filed : goal.returns-in_err-reserve_bare-clause-filed
returns-in_err-reserve_bare-clause-filed g c = c.in_err-reserve_bare.ensures.filed
    (image_of c.args.program.now) c.requires.filed

pub keep-requires-clause-filed : goal.keep-requires-clause-filed
keep-requires-clause-filed g c = c.in_ok-reserve_bare.ensures.filed (image_of c.args.program.now)
    c.requires.filed
