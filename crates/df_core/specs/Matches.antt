-- The match of a token: it waits at its instance for others, or the instance has all its operands.
use Rattle.std.specs.Prelude.{ℕ, ◌≡◌, Some, true, false}
use Rattle.ws_isa.specs.Walk.{Ports, gather}
use Rattle.df_core.specs.Core.{is_full, with_at}
use Rattle.df_core.specs.Stands.{cleared}
use Rattle.df_core.specs.declared.plain.Token.{Token}
use Rattle.df_core.specs.declared.plain.Operands.{Operands}
use Rattle.df_core.specs.Partial.{listed}

-- the tokens at ports with one that arrives
abbrev pub joined : Token → Ports → Ports
joined t ports = with_at t.wave t.instr t.port (Some t.value) ports

-- its instance, which has so many ports, lacks others: it is kept
pub record AwaitsOthers (t : Token) (count : ℕ) (old new : Ports) : Type 0 where
  pub lacks : is_full (joined t old) t.wave t.instr count ≡ false
  pub kept : (w i p : ℕ) → new w i p ≡ joined t old w i p

-- it is the last one: these are the operands of its instance, and nothing of that is kept
pub record Completes (t : Token) (count : ℕ) (old new : Ports) (o : Operands) : Type 0 where
  pub full : is_full (joined t old) t.wave t.instr count ≡ true
  pub operands : listed count o ≡ gather (joined t old) t.wave t.instr 0 count
  pub left : (w i p : ℕ) → new w i p ≡ cleared t.wave t.instr (joined t old) w i p
