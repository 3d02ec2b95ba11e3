-- The chain passes issued operations, and the buffer stays legal.
use Rattle.std.proofs.Common.{ℕ, suc, ◌≡◌, ◌<◌, ◌≤◌, Bool, true, false, List, Option, Some, sym, ap, ◌∙◌, inl}
use Rattle.std.proofs.Common.{inr, arith}
use Rattle.std.proofs.lemmas.Bool.{cases_lt, both_ways}
use Rattle.ws_words.specs.Outside.{Outside, World}
use Rattle.ws_isa.specs.Image.{Image, is_memory, is_load, note_of, is_past}
use Rattle.ws_isa.specs.Walk.{Inst, fires}
use Rattle.df_core.specs.Effect.{effect_at}
use Rattle.df_core.specs.Core.{Chain, IsNext, Passes, stays, passes, pass}
use Rattle.df_core.specs.Fit.{chain_at, NoOp, IsEarly, IssuedOp, Ordered, Legal}
use Rattle.df_core.proofs.Walked.Facts.{WalkFacts}
use Rattle.df_core.proofs.Walked.Effects.{effect_quiet}
use Rattle.df_core.proofs.Walked.Pauses.{load_quiet, load_memory, chain_op, chain_same, chain_up}
use Rattle.df_core.proofs.Walked.Pauses.{no_op_no_write, mem_same}

module _ (image : Image) (world : World) (facts : WalkFacts image world) where
  pub same_fired : (t u : ℕ) (x y : Inst) → fires image world t ≡ Some x → fires image world u ≡ Some y
      → t ≡ u → x ≡ y
  same_fired t u x y e f g = let h : Some x ≡ Some y = sym e ∙ ap (fires image world) g ∙ f in cc

  -- an operation from step `cut` on, before which none stands, is passed
  module _ (cut u : ℕ) (y : Inst) (from : cut ≤ u) (first : NoOp image world cut u)
      (fy : fires image world u ≡ Some y) (my : is_memory image y.instr ≡ true) where
    pub later_chain : chain_at image world (suc u) ≡ pass (chain_at image world cut) (note_of image y.instr)
    later_chain = chain_op image world u y fy my ∙ ap (λ (c : Chain). pass c (note_of image y.instr))
        (chain_same image world cut u from first)

    pub later_op : (w i a : ℕ) → IssuedOp image world cut w i a → IssuedOp image world (suc u) w i a
    later_op w i a op = record {
      time = op.time;
      inst = op.inst;
      at = op.at;
      memory = op.memory;
      answer = op.answer;
      place = elim op.place [
        | inl l ↦ inl (omega arith)
        | inr early ↦ elim (cases_lt op.time (suc u)) [
          | inl l ↦ inl l
          | inr l ↦ inr (
            l,
            record {
              load = early.1.load;
              within = early.1.within;
              wave = (let m : is_memory image op.inst.instr ≡ true = load_memory image op.inst.instr
                  early.1.load in
                  let up : (chain_at image world (suc u)).wave ≤ op.inst.wave =
                  facts.wave_up (suc u) op.time op.inst l op.at.fires m in
                  let up2 : (chain_at image world cut).wave ≤ (chain_at image world (suc u)).wave =
                  chain_up image world cut (suc u) (omega arith) in
                  let e : op.inst.wave ≡ (chain_at image world cut).wave = early.1.wave in
                  omega arith);
              no_write = λ k x b c. early.1.no_write k x (omega arith) c;
            },
          )
        ]
      ];
    }

    pub later : (issued : ℕ → ℕ → Option ℕ) (c : Chain) (m : Outside) →
        ((t : ℕ) (x : Inst) → t < cut → fires image world t ≡ Some x → is_memory image x.instr ≡ true
        → issued x.wave x.instr ≡ Some x.result) →
        ((t : ℕ) (x : Inst) → t < cut → fires image world t ≡ Some x → is_memory image x.instr ≡ true
        → is_past image x.instr x.operands ≡ false) → is_past image y.instr y.operands ≡ false →
        c ≡ chain_at image world cut → m ≡ effect_at image world (suc u)
        → issued y.wave y.instr ≡ Some y.result →
        ((w i a : ℕ) → issued w i ≡ Some a → IssuedOp image world (suc u) w i a) →
        Ordered image world (suc u) issued (pass c (note_of image y.instr)) m
    later issued c m passed within now chain memory here others =
        grind (arith, cases_lt, same_fired, later_chain)

  -- one more issued operation that is next
  pub ordered_next : (issued : ℕ → ℕ → Option ℕ) (c : Chain) (m : Outside) (cut i a : ℕ)
      → Ordered image world cut issued c m → issued c.wave i ≡ Some a → IsNext c (note_of image i) →
      (op : IssuedOp image world cut c.wave i a) × (cut ≤ op.time) × Ordered image world (suc op.time) issued
      (pass c (note_of image i)) m
  ordered_next issued c m cut i a o e nx =
      let op = o.others c.wave i a e in
      let my : is_memory image op.inst.instr ≡ true = ap (is_memory image) op.at.instr ∙ op.memory in
      let wy : op.inst.wave ≡ (chain_at image world cut).wave = op.at.wave
      ∙ ap (λ (d : Chain). d.wave) o.chain in
      let ny : IsNext (chain_at image world cut) (note_of image op.inst.instr) =
      rw (op.at.instr, ← o.chain) nx in
      let from : cut ≤ op.time = facts.only_later cut op.time op.inst op.at.fires my wy ny in
      let first : NoOp image world cut op.time = facts.only_first cut op.time op.inst op.at.fires my wy ny in
      let early : IsEarly image world cut op.time op.inst =
      elim op.place [ inl l ↦ absurd (omega arith) | inr e ↦ e.1 ] in
      let ly : is_load image op.inst.instr ≡ true = early.load in
      let memory : m ≡ effect_at image world (suc op.time) =
      o.memory ∙ sym
      (mem_same image world facts cut op.time from (no_op_no_write image world cut op.time first))
      ∙ sym (facts.mem_op op.time op.inst op.at.fires my ∙ effect_quiet image world op.inst.instr
      op.inst.operands op.time (load_quiet image op.inst.instr ly)) in
      let here : issued op.inst.wave op.inst.instr ≡ Some op.inst.result =
      rw (op.at.wave, op.at.instr) (e ∙ ap (λ (n : ℕ). Some n) op.answer) in
      let done : Ordered image world (suc op.time) issued (pass c (note_of image op.inst.instr)) m =
      later cut op.time op.inst from first op.at.fires my issued c m o.passed o.within early.within o.chain
      memory here
      (λ w j b g. later_op cut op.time op.inst from first op.at.fires my w j b (o.others w j b g)) in
      (op, from, rw op.at.instr at done)

  pub passes_legal : (issued : ℕ → ℕ → Option ℕ) (waiting : ℕ → ℕ → Option (List ℕ)) (stopped : Bool)
      → stopped ≡ false → (c d : Chain) (m : Outside) (cut : ℕ) → Passes image issued c d
      → Ordered image world cut issued c m → Legal image world issued waiting stopped d m
  passes_legal issued waiting stopped go c d m cut (stays none) o = grind (arith, both_ways)
  passes_legal issued waiting stopped go c d m cut (passes i a e nx rest) o =
      let r = ordered_next issued c m cut i a o e nx in
      passes_legal issued waiting stopped go (pass c (note_of image i)) d m (suc r.0.time) rest r.2
