-- What the core asks of a walk.
use Rattle.std.proofs.Common.{ℕ, suc, ◌≡◌, ◌<◌, ◌≤◌, ◌⊎◌, true, false, length, Some, None}
use Rattle.ws_words.specs.Outside.{World}
use Rattle.ws_isa.specs.Image.{Image, ports, is_memory, is_load, note_of, result_of, answer, sends}
use Rattle.ws_isa.specs.Walk.{Inst, fires, start_tokens}
use Rattle.df_core.specs.Effect.{effect_at, effect_after}
use Rattle.df_core.specs.Core.{Apart, IsSent, IsNext, position_after}
use Rattle.df_core.specs.Fit.{RightToken, chain_at, NoWrite, NoOp}
use Rattle.ws_words.specs.Items.{nth}

-- the token came from an instance that fires before step t
pub record Maker (image : Image) (world : World) (t w i p v : ℕ) : Type 0 where
  pub time : ℕ
  pub inst : Inst
  pub earlier : time < t
  pub fires : fires image world time ≡ Some inst
  pub sent : IsSent (sends image inst.wave inst.instr inst.operands inst.result) w i p v

pub record WalkFacts (image : Image) (world : World) : Type 0 where
  pub once : (t u : ℕ) (x y : Inst) → fires image world t ≡ Some x → fires image world u ≡ Some y
      → x.wave ≡ y.wave → x.instr ≡ y.instr → t ≡ u
  pub filled : (t : ℕ) (x : Inst) → fires image world t ≡ Some x → length x.operands ≡ ports image x.instr
  pub has_port : (t : ℕ) (x : Inst) → fires image world t ≡ Some x → 0 < ports image x.instr
  pub plain : (t : ℕ) (x : Inst) → fires image world t ≡ Some x → is_memory image x.instr ≡ false
      → x.result ≡ result_of image x.instr x.operands
  pub answered : (t : ℕ) (x : Inst) → fires image world t ≡ Some x → is_memory image x.instr ≡ true
      → x.result ≡ answer image x.instr x.operands (effect_at image world t)
  pub start : (w i p v : ℕ) → IsSent (start_tokens image) w i p v → RightToken image world w i p v
  pub sent : (t : ℕ) (x : Inst) → fires image world t ≡ Some x → (w i p v : ℕ)
      → IsSent (sends image x.wave x.instr x.operands x.result) w i p v → RightToken image world w i p v
  pub made : (t : ℕ) (x : Inst) → fires image world t ≡ Some x → (p v : ℕ) → nth x.operands p ≡ Some v
      → IsSent (start_tokens image) x.wave x.instr p v ⊎ Maker image world t x.wave x.instr p v
  pub mem_op : (t : ℕ) (x : Inst) → fires image world t ≡ Some x → is_memory image x.instr ≡ true
      → effect_at image world (suc t) ≡ effect_after image x.instr x.operands (effect_at image world t)
  pub mem_plain : (t : ℕ) (x : Inst) → fires image world t ≡ Some x → is_memory image x.instr ≡ false
      → effect_at image world (suc t) ≡ effect_at image world t
  pub mem_none : (t : ℕ) → fires image world t ≡ None → effect_at image world (suc t) ≡ effect_at image world
      t
  pub turn_wave : (t : ℕ) (x : Inst) → fires image world t ≡ Some x → is_memory image x.instr ≡ true
      → x.wave ≡ (chain_at image world t).wave
  pub turn : (t : ℕ) (x : Inst) → fires image world t ≡ Some x → is_memory image x.instr ≡ true
      → IsNext (chain_at image world t) (note_of image x.instr)
  pub only_later : (t u : ℕ) (y : Inst) → fires image world u ≡ Some y → is_memory image y.instr ≡ true
      → y.wave ≡ (chain_at image world t).wave → IsNext (chain_at image world t) (note_of image y.instr)
      → t ≤ u
  pub only_first : (t u : ℕ) (y : Inst) → fires image world u ≡ Some y → is_memory image y.instr ≡ true
      → y.wave ≡ (chain_at image world t).wave → IsNext (chain_at image world t) (note_of image y.instr)
      → NoOp image world t u
  pub wave_up : (t u : ℕ) (y : Inst) → t ≤ u → fires image world u ≡ Some y → is_memory image y.instr ≡ true
      → (chain_at image world t).wave ≤ y.wave
  pub rippled : (t u : ℕ) (y : Inst) → t ≤ u → fires image world u ≡ Some y → is_load image y.instr ≡ true
      → y.wave ≡ (chain_at image world t).wave → (note_of image y.instr).ripple ≤ position_after
      (chain_at image world t).last → NoWrite image world t u
  pub seq_up : (t u : ℕ) (x y : Inst) → t < u → fires image world t ≡ Some x → is_memory image x.instr ≡ true
      → fires image world u ≡ Some y → is_memory image y.instr ≡ true → x.wave ≡ y.wave
      → (note_of image x.instr).seq < (note_of image y.instr).seq
  pub ahead : (t u : ℕ) (y : Inst) → t ≤ u → fires image world u ≡ Some y → is_memory image y.instr ≡ true
      → y.wave ≡ (chain_at image world t).wave → position_after (chain_at image world t).last
      < (note_of image y.instr).seq
  pub behind : (t u : ℕ) (y : Inst) → u < t → fires image world u ≡ Some y → is_memory image y.instr ≡ true
      → y.wave ≡ (chain_at image world t).wave → (note_of image y.instr).seq ≤ position_after
      (chain_at image world t).last
  pub one_maker : (t u : ℕ) (x y : Inst) → fires image world t ≡ Some x → fires image world u ≡ Some y
      → (w i p a b : ℕ) →
      IsSent (sends image x.wave x.instr x.operands x.result) w i p a
      → IsSent (sends image y.wave y.instr y.operands y.result) w i p b → t ≡ u
  pub no_maker : (u : ℕ) (y : Inst) → fires image world u ≡ Some y → (w i p a b : ℕ)
      → IsSent (start_tokens image) w i p a → IsSent (sends image y.wave y.instr y.operands y.result) w i p b
      → ⊥
  pub sends_apart : (t : ℕ) (x : Inst) → fires image world t ≡ Some x
      → Apart (sends image x.wave x.instr x.operands x.result)
  pub start_apart : Apart (start_tokens image)
