-- What a run leaves, in the words of the walk.
use Rattle.std.proofs.Common.{ℕ, suc, ◌+◌, ◌≡◌, ◌<◌, ◌≤◌, Bool, true, false, List, [], ◌∷◌, length, Option}
use Rattle.std.proofs.Common.{Some, None, sym, ap, ◌∙◌, subst, inl, inr, arith}
use Rattle.std.proofs.lemmas.Bool.{cases_Bool, cases_lt}
use Rattle.ws_words.specs.Outside.{Outside, World}
use Rattle.ws_isa.specs.declared.instr.Op.{Op}
use Rattle.ws_isa.specs.Image.{Image, Token, is_memory, instr_at, note_of}
use Rattle.ws_isa.specs.Formed.{Formed}
use Rattle.ws_isa.specs.Walk.{Inst, fires, mem, walk, CostAtMost}
use Rattle.ws_isa.specs.Sound.{Sound}
use Rattle.df_core.specs.Effect.{effect_at}
use Rattle.df_core.specs.Core.{Chain, Key, HasFired, IsNext, Once, has}
use Rattle.df_core.specs.Fit.{FiresAt, NoOp, RightToken, StoppedAt, chain_at}
use Rattle.df_core.specs.Ends.{FirstWithin}
use Rattle.df_core.specs.Shown.{Tables, TablesOk}
use Rattle.df_core.proofs.Telling.Counting.{keys_of, once_length, walk_has, walk_from, walk_once}
use Rattle.df_core.proofs.Telling.Counting.{count_within, has_same}
use Rattle.df_core.proofs.Walked.Effects.{effect_is}
use Rattle.df_core.proofs.Telling.Ends.{one_fault}
use Rattle.df_core.proofs.Walked.Facts.{WalkFacts}
use Rattle.df_core.proofs.Walked.Past.{past_is, plain_within}
use Rattle.df_core.proofs.Walked.Pauses.{no_op_no_write, mem_same}
use Rattle.df_core.proofs.Telling.Firings.{none_fires}
use Rattle.df_core.specs.Began.{Began}
use Rattle.df_core.specs.Rights.{IsRight}
use Rattle.port_set.specs.Ports.{Told}
use Rattle.store_buf.specs.Outdoors.{HoldsOut, RoseAt, SlotsAre, began_of, port_of}
use Rattle.store_buf.specs.Contents.{FaultIs, PortWaits}
use Rattle.store_buf.specs.Ended.{PortFailed, RunWhole, Spent, Starved, Tripped}
use Rattle.store_buf.proofs.Outside.{out_of}
use Rattle.store_buf.proofs.Paying as P
use Rattle.part_store.specs.Contents.{PartContent}
use Rattle.part_store.specs.Parted.{Fronts, IsKept, Parting, is_store_op}
use Rattle.part_store.specs.Rules.{NoRule}
use Rattle.part_store.specs.Runs.{Paid}
use Rattle.part_store.proofs.Queueing.Ops as O
use Rattle.part_store.proofs.Queueing.Times as T
use Rattle.part_store.proofs.Told.Whole as W
use Rattle.part_store.proofs.Told.Wholly as Wholly

few_keys : (xs : List Inst) (n : ℕ) → length (keys_of xs) ≤ n → length xs ≤ n
few_keys [] n l = omega arith
few_keys (x ∷ xs) n l = let r = few_keys xs (length (keys_of xs)) (omega arith) in omega (arith, l, r)

-- an operation on a port is no store
store_no_port : (op : Op) (port : ℕ) → is_store_op op ≡ true → port_of op ≡ Some port → ⊥
store_no_port op port e f = grind arith

module _ (image : Image) (world : World) (formed : Formed image) (sound : Sound image) (t : Tables)
    (tok : TablesOk image world t) (once : Once t.fired) where
  abbrev facts : WalkFacts image world
  facts = T.facts image world formed sound

  -- what has fired is the walk's
  walk_fired : (w i : ℕ) → HasFired t.fired w i → (n : ℕ) × HasFired (keys_of (walk image world n)) w i
  walk_fired w i h =
      let f = tok.fired_full w i h in
      let g = f.1 0 f.0 in
      let r : RightToken image world w i 0 g.0 = tok.right w i 0 g.0 g.1 in (
        suc r.time,
        has_same _ _ _ _ _ r.at.wave r.at.instr (walk_has _ _ facts _ _ _ (omega arith) r.at.fires),
      )

  -- where a token hasn't come the walk has more
  pub dear : (x : Token) → IsRight image world x → t.held x.wave x.instr x.port ≡ None →
      CostAtMost image world (length t.fired) → ⊥
  dear x right missing cost =
      let key : Key = record { wave = x.wave; instr = x.instr } in
      let n = count_within image world facts (key ∷ t.fired)
      (P.not_fired image world formed sound t tok x right missing, once) (λ w i h. elim h [
        | inl e ↦ (
          suc right.time,
          has_same _ _ _ _ _ (right.at.wave ∙ e.0) (right.at.instr ∙ e.1) (walk_has image world facts (suc
              right.time) right.time right.inst (omega arith) right.at.fires),
        )
        | inr e ↦ walk_fired w i e
      ]) in
      let l = n.1 in
      let k = cost n.0 in
      absurd (omega (arith, l, k))

  pub counted : (n : ℕ) × (length t.fired ≤ length (walk image world n))
  counted = count_within image world facts t.fired once walk_fired

  pub costs : ((n : ℕ) (x : Inst) → fires image world n ≡ Some x → HasFired t.fired x.wave x.instr) →
      CostAtMost image world (length t.fired)
  costs all n = few_keys _ _ (once_length _ _ (walk_once _ _ facts _) (λ w i h.
      let r = walk_from _ _ facts _ _ _ h in
      has_same _ _ _ _ _ r.wave r.instr (all r.time r.inst r.fires)))

module _ (image : Image) (world : World) (began : List (Option Began)) (c : PartContent)
    (s : Parting image world began c) where
  abbrev cut : ℕ
  cut = s.legal.cut

  -- of steps whose operations are all passed
  passed_within : (n : ℕ) → ((u : ℕ) (x : Inst) → u < n → fires image world u ≡ Some x →
      is_memory image x.instr ≡ true → u < cut) → FirstWithin image world n
  passed_within n below u x l fx = grind (arith, past_is, cases_Bool, plain_within)

  cut_within : FirstWithin image world cut
  cut_within = passed_within cut (λ u x l fx mx. l)

  -- what is outside but for the cells is what the walk leaves there
  out_at : (n : ℕ) → effect_at image world n ≡ s.memory →
      HoldsOut began (O.with_cells (mem image world n) c.outside.cells) c.outside
  out_at n e = out_of _ _ _ (subst (λ (o : Outside). HoldsOut began (O.with_cells o c.outside.cells)
      c.outside) (sym e ∙ effect_is _ _ _) s.partly.outside)

  cells_at : (n : ℕ) → effect_at image world n ≡ s.memory → c.queued ≡ [] →
      c.outside.cells ≡ (mem image world n).cells
  cells_at n e none = grind (arith, Wholly.rows_alike, effect_is)

  slots_at : (handed : List (Option Told)) → began ≡ began_of handed → (n : ℕ) →
      effect_at image world n ≡ s.memory → SlotsAre (began_of handed) (mem image world n) c.outside.ports
  slots_at handed e n g = grind (arith, out_at)

  at_cut : effect_at image world cut ≡ s.memory
  at_cut = sym s.legal.ordered.memory

  pub starved : (handed : List (Option Told)) → began ≡ began_of handed →
      Starved image world handed c.outside.ports
  starved handed e = inr (cut, cut_within, slots_at handed e cut at_cut)

  pub spent : (fired : ℕ) → (CostAtMost image world fired → ⊥) → (handed : List (Option Told)) →
      began ≡ began_of handed → Spent image world handed fired c.outside.printed c.outside.ports
  spent fired dear handed e = grind (arith, dear, cut_within, out_at, at_cut, slots_at)

  module _ (formed : Formed image) (sound : Sound image) where
    abbrev known : WalkFacts image world
    known = T.facts image world formed sound

    pub tripped : (array : ℕ) → c.fault ≡ Some array → (handed : List (Option Told)) →
        began ≡ began_of handed → Tripped image world handed array c.outside.printed c.outside.cells
        c.outside.ports
    tripped array fault handed e =
        let f = subst (λ (o : Option ℕ). FaultIs image world o) fault s.fault in
        let at : StoppedAt image world cut _ c.chain = s.legal.halted (ap has fault) in
        let times : at.time ≡ f.0 = one_fault _ _ known _ _ at.fault f.1 in
        let left : effect_at image world f.0 ≡ s.memory = ap (effect_at image world) (sym times) ∙ mem_same _
        _ known _ _ at.from (no_op_no_write _ _ _ _ at.passed) ∙ at_cut in
        record {
          time = f.0;
          fault = f.1;
          array_is = f.2;
          printed_are = sym (out_at _ left).printed_are;
          cells_are = cells_at _ left (s.quiet (ap has fault));
          ports = slots_at _ e _ left;
        }

    -- the request on a port is the walk's next operation
    module _ (port : ℕ) (waits : PortWaits image c.kept c.chain port) where
      record Next : Type 0 where
        time : ℕ
        inst : Inst
        at : FiresAt image world waits.request.wave waits.request.instr time inst
        memory : is_memory image waits.request.instr ≡ true

      next_of : (b : Bool) → IsKept image world b waits.request → Next
      next_of false r = record { time = r.time; inst = r.inst; at = r.at; memory = r.memory }
      next_of true r = absurd (store_no_port _ _ r.store waits.port_is)

      right : Next
      right = next_of _ (s.partly.right waits.request.wave waits.request.instr waits.request waits.is_kept)

      memory : is_memory image right.inst.instr ≡ true
      memory = ap (is_memory image) right.at.instr ∙ right.memory

      from : cut ≤ right.time
      from = grind arith

      next : IsNext (chain_at image world cut) (note_of image right.inst.instr)
      next = subst (λ (q : Chain × ℕ). IsNext q.0 (note_of image q.1))
          (λ j. (s.legal.ordered.chain j, sym right.at.instr j)) waits.next

      none_before : NoOp image world cut right.time
      none_before = known.only_first cut right.time right.inst right.at.fires memory
          (right.at.wave ∙ waits.current ∙ ap (λ (d : Chain). d.wave) s.legal.ordered.chain) next

      left_there : effect_at image world right.time ≡ s.memory
      left_there = mem_same _ _ known _ _ from (no_op_no_write _ _ _ _ none_before) ∙ at_cut

      pub port_failed : (handed : List (Option Told)) → began ≡ began_of handed →
          RoseAt port handed c.outside.ports →
          PortFailed image world handed port c.outside.printed c.outside.ports
      port_failed handed e rose = record {
        time = right.time;
        inst = right.inst;
        fires = right.at.fires;
        port_is = ap (λ (n : ℕ). port_of (instr_at image n).op) right.at.instr ∙ waits.port_is;
        within = passed_within right.time (λ u x l fx mx. elim (cases_lt u cut) [
          | inl k ↦ k
          | inr k ↦ absurd (none_before u x k l fx mx)
        ]);
        rose = rose;
        printed_are = sym (out_at right.time left_there).printed_are;
        ports = slots_at handed e right.time left_there;
      }

    pub rested : Fronts c → NoRule image c → c.fault ≡ None → (t : Tables) → TablesOk image world t →
        Once t.fired → Paid image t c [] →
        (handed : List (Option Told)) → began ≡ began_of handed →
        RunWhole image world handed c.outside.printed c.outside.cells (length t.fired) c.outside.ports
    rested fronts none going t tok once paid handed e =
        let n = counted _ _ formed sound _ tok once in
        let l = n.1 in
        let cost : CostAtMost image world (length t.fired) = costs _ _ formed sound _ tok once (λ u x fx.
        (W.all_done _ _ formed sound _ _ s fronts none going _ tok paid _ _ fx).fired) in
        let k = cost n.0 in
        let quiet : NoOp image world n.0 (n.0 + cut) = none_fires _ _ _ _ _ cost l in
        let left : effect_at image world n.0 ≡ s.memory = sym (mem_same _ _ known _ _ (omega arith)
        (no_op_no_write _ _ _ _ quiet)) ∙ mem_same _ _ known _ _ (omega arith) (W.no_write _ _ formed sound _
        _ s fronts none going _ tok paid _) ∙ at_cut in
        record {
          no_fault = W.no_fault _ _ formed sound _ _ s fronts none going _ tok paid;
          time = n.0;
          fired_is = omega (arith, l, k);
          cost = cost;
          printed_are = sym (out_at _ left).printed_are;
          cells_are = cells_at _ left (W.none_queued _ _ formed sound _ _ s fronts none going _ tok paid);
          ports = slots_at _ e _ left;
        }
