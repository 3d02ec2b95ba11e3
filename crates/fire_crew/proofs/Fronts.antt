-- What a run leaves of which the whole walk hasn't been run, by its buffer alone.
use Rattle.std.proofs.Common.{arith, ℕ, ◌≡◌, ◌<◌, ◌≤◌, true, List, Option, Some, None, sym, ap, ◌∙◌, subst}
use Rattle.std.proofs.Common.{inl, inr}
use Rattle.std.proofs.lemmas.Bool.{cases_Bool, cases_lt}
use Rattle.ws_words.specs.Outside.{Outside, World}
use Rattle.ws_isa.specs.Image.{Image, ports, is_memory, instr_at, note_of}
use Rattle.ws_isa.specs.Formed.{Formed}
use Rattle.ws_isa.specs.Walk.{Inst, fires, mem}
use Rattle.ws_isa.specs.Sound.{Sound}
use Rattle.df_core.specs.Effect.{effect_at}
use Rattle.df_core.specs.Core.{Chain, IsNext}
use Rattle.df_core.specs.Fit.{NoOp, RightRequest, chain_at}
use Rattle.df_core.specs.Ends.{FirstWithin}
use Rattle.df_core.proofs.Walked.Facts.{WalkFacts}
use Rattle.df_core.proofs.Walked.FromSound.{facts_of}
use Rattle.df_core.proofs.Walked.PortsThere.{ports_there}
use Rattle.df_core.proofs.Walked.Past.{past_is, plain_within}
use Rattle.df_core.proofs.Walked.Effects.{effect_is}
use Rattle.df_core.proofs.Walked.Pauses.{no_op_no_write, mem_same}
use Rattle.df_core.specs.Began.{Began}
use Rattle.df_core.specs.Rights.{operands_of}
use Rattle.store_buf.specs.Requests.{issued_in, answer_if, operands_if}
use Rattle.store_buf.specs.Contents.{Content, IsBuffer, PortWaits}
use Rattle.store_buf.specs.Outdoors.{HoldsOut, RoseSince, port_of}
use Rattle.store_buf.proofs.Outside.{out_of}
use Rattle.fire_crew.specs.Ends.{FrontRun, PortRun}

module _ (image : Image) (world : World) (began : List (Option Began)) (c : Content) (m : Outside)
    (is : IsBuffer image world began c m) where
  -- of steps whose operations are all passed
  passed_within : (t : ℕ) → ((u : ℕ) (x : Inst) → u < t → fires image world u ≡ Some x →
      is_memory image x.instr ≡ true → u < is.ok.legal.cut) → FirstWithin image world t
  passed_within t below u x l fx = grind (arith, past_is, cases_Bool, plain_within)

  out_at : (t : ℕ) → effect_at image world t ≡ m → HoldsOut began (mem image world t) c.outside
  out_at t e = out_of began (mem image world t) c.outside
      (subst (λ (o : Outside). HoldsOut began o c.outside) (sym e ∙ effect_is image world t) is.outside)

  pub front_run : FrontRun image world began c.outside
  front_run = grind (
    arith,
    passed_within is.ok.legal.cut (λ u x l fx mx. l),
    out_at is.ok.legal.cut (sym
        is.ok.legal.ordered.memory),
  )

  module _ (formed : Formed image) (sound : Sound image) (port : ℕ)
      (waits : PortWaits image c.kept c.chain port) where
    facts : WalkFacts image world
    facts = facts_of image world (ports_there image formed) sound

    right : RightRequest image world waits.request.wave waits.request.instr
        (operands_of (ports image waits.request.instr) waits.request.first waits.request.second)
    right = is.ok.right waits.request.wave waits.request.instr _ (ap (operands_if image) waits.is_kept)

    memory : is_memory image right.inst.instr ≡ true
    memory = ap (is_memory image) right.at.instr ∙ right.memory

    fresh : issued_in c.kept waits.request.wave waits.request.instr ≡ None
    fresh = ap answer_if waits.is_kept ∙ waits.waits

    from : is.ok.legal.cut ≤ right.time
    from = grind (arith, cases_lt, memory, fresh)

    next : IsNext (chain_at image world is.ok.legal.cut) (note_of image right.inst.instr)
    next = subst (λ (q : Chain × ℕ). IsNext q.0 (note_of image q.1))
        (λ j. (is.ok.legal.ordered.chain j, sym right.at.instr j)) waits.next

    none : NoOp image world is.ok.legal.cut right.time
    none = facts.only_first is.ok.legal.cut right.time right.inst right.at.fires memory
        (right.at.wave ∙ waits.current ∙ ap (λ (d : Chain). d.wave) is.ok.legal.ordered.chain) next

    pub port_run : RoseSince began port c.outside.ports → PortRun image world began port c.outside
    port_run rose = record {
      time = right.time;
      inst = right.inst;
      fires = right.at.fires;
      port_is = ap (λ (n : ℕ). port_of (instr_at image n).op) right.at.instr ∙ waits.port_is;
      within = passed_within _ (λ u x l fx mx. elim (cases_lt u is.ok.legal.cut) [
        | inl k ↦ k
        | inr k ↦ absurd (none u x k l fx mx)
      ]);
      left = out_at _ (mem_same _ _ facts _ _ from (no_op_no_write _ _ _ _ none) ∙ sym
          is.ok.legal.ordered.memory);
      rose = rose;
    }
