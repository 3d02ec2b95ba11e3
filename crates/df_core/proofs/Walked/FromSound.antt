-- The walk of a formed, sound image has the facts that the core asks.
use Rattle.std.proofs.Common.{ℕ, suc, ◌≡◌, ◌<◌, ◌≤◌, true, cond, Some, None, refl, sym, ap, ◌∙◌, arith}
use Rattle.std.proofs.lemmas.Bool.{cond-true, cond-false}
use Rattle.ws_words.specs.Outside.{World}
use Rattle.ws_isa.specs.declared.instr.Op.{Op}
use Rattle.ws_isa.specs.Image.{Image, ports_of, ports, instr_at, is_memory, answer, after}
use Rattle.ws_isa.specs.Walk.{Inst, pos, fires, mem, result_at}
use Rattle.ws_isa.specs.Sound.{PortsThere, Sound}
use Rattle.df_core.specs.Fit.{chain_at}
use Rattle.ws_isa.specs.Operations.{effect_of}
use Rattle.df_core.specs.Effect.{effect_after}
use Rattle.df_core.proofs.Walked.Facts.{WalkFacts}
use Rattle.df_core.proofs.Walked.Effects.{answer_effect, after_effect, effect_is}
use Rattle.df_core.proofs.Walked.Pauses.{chain_up}
use Rattle.ws_isa.proofs.Steps.{StepCase, step_case, Turn, turn_at, inst_instr, once}
use Rattle.df_core.proofs.Walked.SentTokens.{start_right, sent_right, plain_result}
use Rattle.df_core.proofs.Walked.Made.{operands_length, made}
use Rattle.df_core.proofs.Walked.OneMaker.{one_maker, no_maker, sends_apart, start_apart}
use Rattle.df_core.proofs.Walked.Ops.{turn_wave, turn_next, only_later, only_first, rippled, seq_up, pos_up}
use Rattle.df_core.proofs.Walked.Ops.{rise_at, reach}

some_port : (o : Op) → 0 < ports_of o
some_port o = grind arith

pub has_port : (image : Image) (k : ℕ) → 0 < ports image k
unfolding ports
has_port image k = some_port (instr_at image k).op

module _ (image : Image) (world : World) (formed : PortsThere image) (sound : Sound image) where
  mem_at : (t : ℕ) → mem image world t ≡ (pos image world t).memory
  unfolding mem
  mem_at t = refl

  mem_next : (t : ℕ) (x : Inst) → fires image world t ≡ Some x → mem image world (suc t)
      ≡ cond (is_memory image x.instr) (after image x.instr x.operands (mem image world t))
      (mem image world t)
  mem_next t x fx = let k : Turn image world sound.shape t x = turn_at image world sound.shape t x fx in
      grind (arith, mem_at, x.instr, x.operands)

  none_step : (t : ℕ) → fires image world t ≡ None → StepCase image world t
      → (pos image world (suc t)).memory ≡ (pos image world t).memory
  none_step t n h = grind arith

  answered : (t : ℕ) (x : Inst) → fires image world t ≡ Some x → is_memory image x.instr ≡ true
      → x.result ≡ answer image x.instr x.operands (mem image world t)
  unfolding result_at
  answered t x fx m = let k : Turn image world sound.shape t x = turn_at image world sound.shape t x fx in
      grind (arith, inst_instr, sound.shape, cond-true, x.instr, mem_at)

  pub facts_of : WalkFacts image world
  facts_of = record {
    once = once image world sound.shape;
    filled = operands_length image world formed sound.shape sound.slots;
    has_port = λ t x fx. has_port image x.instr;
    plain = plain_result image world formed sound.shape sound.slots;
    answered = grind (arith, answered, answer_effect, effect_is);
    start = start_right image world formed sound.shape sound.slots;
    sent = sent_right image world formed sound.shape sound.slots;
    made = made image world formed sound.shape sound.slots;
    mem_op = λ t x fx m. effect_is image world (suc t)
        ∙ ap effect_of (mem_next t x fx ∙ cond-true (is_memory image x.instr) _ _ m)
        ∙ after_effect image x.instr x.operands (mem image world t)
        ∙ ap (effect_after image x.instr x.operands) (sym (effect_is image world t));
    mem_plain = λ t x fx m. effect_is image world (suc t) ∙ ap effect_of
        (mem_next t x fx ∙ cond-false (is_memory image x.instr) _ _ m) ∙ sym (effect_is image world t);
    mem_none = grind (arith, effect_is, mem_at, none_step, step_case);
    turn_wave = turn_wave image world sound.shape sound.links;
    turn = turn_next image world sound.shape sound.links;
    only_later = only_later image world sound.shape sound.links;
    only_first = only_first image world sound.shape sound.links;
    wave_up = λ t u y l fy m. (let e : y.wave ≡ (chain_at image world u).wave = turn_wave image world
        sound.shape sound.links u y fy m in
        let g : (chain_at image world t).wave ≤ (chain_at image world u).wave = chain_up image world t u l in
        omega arith);
    rippled = rippled image world sound.shape sound.links sound.ripples;
    seq_up = seq_up image world sound.shape sound.links;
    ahead = λ t u y l fy m same. (let e : y.wave ≡ (chain_at image world u).wave = turn_wave image world
        sound.shape sound.links u y fy m in
        let p = pos_up image world sound.shape sound.links t u l (sym e ∙ same) in
        let r = rise_at image world sound.shape sound.links u y fy m in
        omega arith);
    behind = grind (arith, reach, sound.shape, sound.links);
    one_maker = one_maker image world formed sound.shape sound.slots;
    no_maker = no_maker image world formed sound.shape sound.slots;
    sends_apart = sends_apart image world formed sound.shape sound.slots;
    start_apart = start_apart image world formed sound.shape sound.slots;
  }
