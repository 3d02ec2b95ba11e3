use Rattle.std.proofs.Common.{◌-◌, subst, sym, inl, inr, arith}
use Rattle.std.proofs.lemmas.Bool.{cases_lt}
use Rattle.ws_isa.specs.Image.{note_of}
use Rattle.df_core.specs.Core.{IsNext}
use Rattle.df_core.specs.Chains.{chain_of}
use Rattle.df_core.specs.Places.{image_of}
use Rattle.df_core.proofs.Keeping.Settled.{in_at, seen_at}
use Rattle.df_core.proofs.order.find_next.Goals as goal

pub loop-front-preserved : goal.loop-front-preserved
loop-front-preserved c = let image = image_of c.args.program.now in let early = c.args.early.now in
    let chain = chain_of c.args.chain.now in record {
      within = omega (arith, c.loop-front.invariant.within);
      before = λ k h l. elim (cases_lt k c.loop-front.front) [
        | inl a ↦ c.loop-front.invariant.before k a l
        | inr a ↦ seen_at image chain early c.loop-front.front k c.note-in-loop-front.result
            c.is_next-in-loop-front.result (omega (arith, h, a)) c.note-in-loop-front.ensures
            c.is_next-in-loop-front.ensures c.if-is_next-2.false
      ];
      behind = λ k h l. elim (cases_lt k c.loop-front.back) [
        | inl a ↦ seen_at image chain early (c.loop-front.back - 1) k c.note.result c.is_next.result
            (omega (arith, h, a)) c.note.ensures c.is_next.ensures c.if-is_next.false
        | inr a ↦ c.loop-front.invariant.behind k a l
      ];
    }

pub returns : goal.returns
returns c = λ i h nx. let r = in_at c.args.early.now i h in
    let n = subst (λ n. IsNext (chain_of c.args.chain.now) (note_of (image_of c.args.program.now) n))
    (sym r.2) nx in
    elim (cases_lt r.0 c.loop-front.front) [
      | inl a ↦ c.loop-front.invariant.before r.0 a r.1 n
      | inr a ↦ c.loop-front.invariant.behind r.0 (omega (arith, c.loop-front-test.false, a)) r.1 n
    ]
