use Rattle.std.proofs.Common.{arith, ◌≡◌, ◌++◌, ◌∷◌, [], List, All, slice_index_or, sym, ap, ◌∙◌, subst}
use Rattle.ws_isa.specs.declared.instr.Dest.{Dest}
use Rattle.ws_isa.specs.Image.{Token}
use Rattle.df_core.proofs.Sizes.Sends.{sent_at}
use Rattle.match_table.specs.Together.{part_of}
use Rattle.fire_crew.specs.Owing.{IsMissing}
use Rattle.store_buf.specs.Runs.{Covers}
use Rattle.fire_crew.proofs.Paid.{found_missing, is_come, is_found, reach_sent}
use Rattle.fire_crew.proofs.owed.keep_sent.Goals.{then-not-holds+in_ok-push, else-not-holds}
use Rattle.fire_crew.proofs.owed.keep_sent.Goals as goal

pub right-requires : goal.right-requires
right-requires g c = grind (arith, sent_at)

pub loop-dest-preserved : goal.loop-dest-preserved
loop-dest-preserved g c =
    let held = (part_of c.args.tables.now).held in
    let d : Dest = slice_index_or c.args.dests.now c.loop-dest.dest-index (record { instr = 0; port = 0 }) in
    let t : Token = record { wave = c.args.wave; instr = d.instr; port = d.port; value = c.args.word } in
    let i = c.loop-dest.invariant in
    elim c.if-not-holds.branch [
      | then-not-holds+in_ok-push w ↦ (let n : c.if-not-holds.found ≡ c.loop-dest.found ++ t ∷ [] = w.found-is
          ∙ w.in_ok-push.ensures.ok ∙ ap (λ (x : Token). c.loop-dest.found ++ x ∷ []) w.right.ensures in (
            found_missing held c.loop-dest.found c.if-not-holds.found t n (sym c.holds.ensures
                ∙ w.if-not-holds.true) i.0,
            λ way k. (let f = is_found held way c.loop-dest.found c.if-not-holds.found t n k in
                let r = i.1 way f.0 in (
                  r.0,
                  reach_sent _ _ _ _ _ _ _ c.loop-dest-test.true f.1 r.1,
                )),
          ))
      | else-not-holds w ↦ (
        subst (λ (l : List Token). All (IsMissing held) l) (sym w.found-is) i.0,
        λ way k. (let r = i.1 way (subst (λ (l : List Token). Covers l way) w.found-is k) in (
          r.0,
          reach_sent held way c.args.wave c.args.word c.args.dests.now c.loop-dest.dest-index
              (record { instr = 0; port = 0 }) c.loop-dest-test.true
              (is_come held way c.args.wave d.instr d.port (sym c.holds.ensures ∙ w.if-not-holds.false)) r.1,
        )),
      )
    ]
