use Rattle.std.proofs.Common.{arith, ◌≡◌, [], ◌∷◌, ◌++◌, List, true, false}
use Rattle.std.proofs.lemmas.List.{append_assoc}
use Rattle.ws_isa.specs.Image.{Token}
use Rattle.df_core.specs.Core.{has}
use Rattle.match_table.specs.Together.{part_of}
use Rattle.fire_crew.proofs.Paid.{found_missing, is_come, is_found, reach_more}
use Rattle.fire_crew.proofs.owed.keep.Goals as goal

split_on : (all front rest mid : List Token) (t : Token) → all ≡ front ++ rest → front ≡ mid ++ t ∷ []
    → all ≡ mid ++ t ∷ rest
split_on all front rest mid t is e = grind (arith, append_assoc)

pub loop-token-preserved : goal.loop-token-preserved
loop-token-preserved g c =
    let held = (part_of c.args.tables.now).held in
    let t = c.in-Some.token in
    let h : has (held t.wave t.instr t.port) ≡ true = grind arith in
    let i = c.loop-token.invariant in (
      i.0,
      (
        t ∷ i.1.0,
        split_on c.args.tokens c.loop-token.tokens i.1.0 c.pop.new.self t i.1.1 c.in-Some.ensures,
        λ way k. (let r = i.1.2 way k in
            (r.0, reach_more held way t i.1.0 (is_come held way t.wave t.instr t.port h) r.1)),
      ),
    )

pub loop-token-preserved-in-Continue-1 : goal.loop-token-preserved-in-Continue-1
loop-token-preserved-in-Continue-1 g c =
    let held = (part_of c.args.tables.now).held in
    let t = c.in-Some.token in
    let h : has (held t.wave t.instr t.port) ≡ false = grind arith in
    let n : c.push.new.self ≡ c.loop-token.found ++ t ∷ [] = c.in_ok-push.ensures.ok in
    let i = c.loop-token.invariant in (
      found_missing held c.loop-token.found c.push.new.self t n h i.0,
      (
        t ∷ i.1.0,
        split_on c.args.tokens c.loop-token.tokens i.1.0 c.pop.new.self t i.1.1 c.in-Some.ensures,
        λ way k. (let f = is_found held way c.loop-token.found c.push.new.self t n k in
            let r = i.1.2 way f.0 in (r.0, reach_more held way t i.1.0 f.1 r.1)),
      ),
    )
