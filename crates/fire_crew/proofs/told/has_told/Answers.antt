use Rattle.std.proofs.Common.{ℕ, List, refl, sym, ap, ◌∙◌, subst, true≢false}
use Rattle.ws_isa.specs.Image.{Token, result_of_op, selector_of}
use Rattle.df_core.specs.Core.{Key, operands_in}
use Rattle.match_table.specs.Tables.{held}
use Rattle.match_table.specs.Together.{part_of}
use Rattle.store_buf.specs.Runs.{AllReach}
use Rattle.fire_crew.proofs.Paid.{told_key}
use Rattle.fire_crew.proofs.Rights.{code_memory, code_op, code_sent, sent_is}
use Rattle.fire_crew.proofs.told.has_told.Goals as goal

pub returns-then-is_memory : goal.returns-then-is_memory
returns-then-is_memory g c =
    let key : Key = record { wave = c.key_at-wave.result.0; instr = c.key_at-wave.result.1 } in
    λ _ way. told_key g.J.Job.image (part_of c.args.tables.now).held way c.args.place c.args.table.now key
    c.key_at-wave.ensures (λ m. absurd (true≢false (sym (code_memory _ _ _ _ _ c.op-op.ensures
    c.program.ensures.image c.is_memory.ensures ∙ c.if-is_memory.true) ∙ m)))

pub returns : goal.returns
returns g c =
    let key : Key = record { wave = c.key_at-wave.result.0; instr = c.key_at-wave.result.1 } in
    let op = c.op-op.result in
    let of : Key → List ℕ = λ k. operands_in g.J.Job.image (held c.args.table.now) k.wave k.instr in
    let is = code_op _ _ _ _ c.op-op.ensures c.program.ensures.image in
    let chosen = c.choice_at-choice.ensures key ∙ ap (λ (k : Key). selector_of op (of k))
    (c.key_at-wave.ensures key) in
    λ come way. told_key g.J.Job.image (part_of c.args.tables.now).held way c.args.place c.args.table.now key
    c.key_at-wave.ensures (λ m. subst (λ (ts : List Token). AllReach (part_of c.args.tables.now).held way ts)
    (code_sent _ _ _ _ _ _ _ _ _ is c.in-Some.ensures.number c.destinations-dests.ensures
    c.program-2.ensures.image ∙ sent_is _ _ _ _ _ _ _ is chosen refl) (c.have_come.ensures come way
    (result_of_op op (of key))))
