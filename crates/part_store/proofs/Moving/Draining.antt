-- The data of a store comes and its cell's queue is followed.
use Rattle.std.proofs.Common.{ℕ, ◌-◌, ◌≡◌, slice_index, Bool, true, false, List, [], ◌++◌, Option, Some, None}
use Rattle.std.proofs.Common.{Result, Ok, Err, sym, ap, ◌∙◌, subst, inl, inr, arith}
use Rattle.std.proofs.lemmas.Bool.{both_ways, cases_eq}
use Rattle.ws_words.specs.Outside.{World}
use Rattle.ws_isa.specs.declared.instr.Op.{Op}
use Rattle.ws_isa.specs.Image.{Image, Token, array_at, array_of_op, instr_at}
use Rattle.ws_isa.specs.Formed.{Formed}
use Rattle.ws_isa.specs.Sound.{Sound}
use Rattle.df_core.specs.declared.chain.Chain as code
use Rattle.df_core.specs.Chains.{chain_of}
use Rattle.df_core.specs.Stands.{HasEarly, EarlyIssued}
use Rattle.df_core.proofs.Keeping.Ports.{SameKey}
use Rattle.df_core.specs.Began.{Began}
use Rattle.df_core.specs.Rights.{IsAsked}
use Rattle.store_buf.specs.Earlies.{early_ops}
use Rattle.store_buf.specs.declared.fault.BufFault.{BufFault}
use Rattle.store_buf.specs.declared.fault.BufFault.TheVariants as fault
use Rattle.store_buf.specs.declared.kept.Kept.{Kept}
use Rattle.store_buf.specs.Requests.{issued_in}
use Rattle.store_buf.specs.Stores.{asked_of}
use Rattle.part_store.specs.declared.entry.Queued.{Queued}
use Rattle.part_store.specs.declared.parts.Parts.{Parts}
use Rattle.part_store.specs.Bares.{is_in}
use Rattle.part_store.specs.Queues.{front}
use Rattle.part_store.specs.Contents.{is_on_row}
use Rattle.part_store.specs.Parted.{OnCell, Parting}
use Rattle.store_buf.specs.Outdoors.{RoseAt}
use Rattle.store_buf.specs.Contents.{RightTokens}
use Rattle.part_store.specs.Calls.{PartSubmitSo, PartTookSo}
use Rattle.part_store.specs.Rules.{Fills, Moves, MovesTo}
use Rattle.part_store.specs.Parts.{Beside, Calm, DrainLeads, Filled, FollowsOn, FrontsBut, FrontsBy}
use Rattle.part_store.specs.Parts.{PartsStand, PartsSettledSo, PartsLeadTo, content_of}
use Rattle.part_store.proofs.Moving.Filling as L
use Rattle.part_store.proofs.Queueing.Fronts as F
use Rattle.part_store.proofs.Moving.Keeping as K
use Rattle.part_store.proofs.Moving.Leading as G
use Rattle.part_store.proofs.Queueing.Ops as O
use Rattle.part_store.proofs.Running.Resting as R
use Rattle.part_store.proofs.Queueing.Times as T

-- the row of a load or store
pub row_is : (image : Image) (op : Op) (i row : ℕ) → row ≡ array_of_op op - 1 → op ≡ (instr_at image i).op →
    row ≡ array_at image i - 1
unfolding array_at
row_is image op i row e f = e ∙ ap (λ (x : Op). array_of_op x - 1) f

-- a queued operation of a request's instance waits on the request's cell
own_cell : (image : Image) (world : World) (formed : Formed image) (sound : Sound image) (k : Kept) →
    IsAsked image world (asked_of k) → (f : Queued) (t : ℕ) →
    OnCell image world f.wave f.instr f.row f.index t → SameKey k.wave k.instr f.wave f.instr →
    (f.row ≡ array_at image k.instr - 1) × (f.index ≡ k.first)
own_cell image world formed sound k right f t on key =
    let here : OnCell image world k.wave k.instr f.row f.index t = rw key.instr (rw key.wave on) in
    let row : is_on_row (instr_at image k.instr).op (array_at image k.instr - 1) ≡ true =
    elim (O.cases_row image [] k.instr 0) [
      | inl z ↦ z.0
      | inr z ↦ absurd (both_ways (is_on_row (instr_at image k.instr).op f.row) (z.0 f.row) here.row)
    ] in
    let there : OnCell image world k.wave k.instr (array_at image k.instr - 1) k.first right.time = record {
      inst = right.inst;
      at = right.at;
      row = row;
      index = ap (λ (ys : List ℕ). slice_index ys 0) right.operands ∙ O.first_of image k;
    } in
    let same = T.one_there image world formed sound k.wave k.instr f.row f.index t
    (array_at image k.instr - 1) k.first right.time here there in
    (same.row, same.index)

-- the queue of its cell is followed
module _ {P : Type 0} where
  pub drained_so : (image : Image) (k : Kept) (r : ℕ) → r ≡ array_at image k.instr - 1 →
      (s n : Parts P) (t0 t1 : List Token) → FollowsOn image r k.first s n t0 t1 →
      ((f : Queued) → front n.queues.entries.items r k.first ≡ Some f → is_in n.bare f.wave f.instr ≡ true) →
      DrainLeads image k s n t0 t1
  drained_so image k r is s n t0 t1 on none = (
    on.0,
    on.1,
    λ world began formed sound right st going by.
        let but : FrontsBut r k.first (content_of s) = λ f q l h far. by f q l h (λ a b.
        let z = F.front_in s.queues.entries.items q l f h in
        let sf = (st.parting.partly.sits f z.0).0 in
        let own = own_cell image world formed sound k right f sf.0 sf.1
        (record { wave = sym a; instr = sym b }) in
        far (sym z.1.row ∙ own.0 ∙ sym is) (sym z.1.index ∙ own.1)) in
        let x = on.2 world began formed sound st going but in (grind (arith, cases_eq)),
  )

-- the data has come, and moves lead on
module _ {P : Type 0} (image : Image) (world : World) (began : List (Option Began)) (formed : Formed image)
    (sound : Sound image) (old mid d new : Parts P) (k : Kept) (t0 t1 t2 : List Token)
    (filled : Filled old k mid) (drains : DrainLeads image k (record mid { starved = false }) d t0 t1)
    (beside : Beside (record mid { starved = false }) d)
    (lead : PartsLeadTo image (record d { starved = false }) new t1 t2)
    (empty : t0 ≡ []) (running : old.fault ≡ None) (working : old.failed ≡ None)
    (right : IsAsked image world (asked_of k)) (calm : Calm image world began old) where
  fills : Fills (content_of old) k (content_of (record mid { starved = false }))
  fills = grind arith

  parting : Parting image world began (content_of (record mid { starved = false }))
  parting = L.fills _ _ _ _ _ _ fills calm.0.parting running right

  issued : (w i : ℕ) → issued_in mid.order.kept.items w i ≡ issued_in old.order.kept.items w i
  issued = L.issued _ _ _ _ _ _ fills calm.0.parting running right

  stands : PartsStand image world began (record mid { starved = false })
  stands = record {
    parting = parting;
    early_issued = λ j h. let r = subst (λ (x : code.Chain × List ℕ).
        EarlyIssued (issued_in old.order.kept.items) (chain_of x.0) x.1)
        (λ n. (sym filled.same_chain n, sym (ap early_ops filled.early) n)) calm.0.early_issued j h
        in (r.0, issued _ _ ∙ r.1);
    early_all = λ cut w i a t e is x at me l. subst (λ (y : code.Chain × List ℕ). HasEarly image world
        (issued_in old.order.kept.items) (chain_of y.0) y.1) (λ n.
        (sym filled.same_chain n, sym (ap early_ops filled.early) n)) calm.0.early_all cut w i a t e (sym
        (issued _ _) ∙ is) x at me l;
  }

  by : FrontsBy k.wave k.instr (content_of (record mid { starved = false }))
  by e r j h n = L.bare_there _ _ _ _ _ _ fills calm.0.parting running right _ _ (λ key. n (sym key.wave) (sym
      key.instr)) ∙ calm.1 e r j (rw (← filled.fills.queued) h)

  drained : Moves image (content_of (record mid { starved = false })) drains.0 (content_of d) ×
      Calm image world began d
  drained = drains.2 world began formed sound right stands (filled.fills.fault ∙ running) by

  same : d ≡ record d { starved = false }
  same j = record {
    order = d.order;
    bare = d.bare;
    queues = d.queues;
    outer = d.outer;
    fault = d.fault;
    failed = d.failed;
    starved = beside.starved j;
  }

  led : MovesTo image (content_of (record d { starved = false })) lead.0 (content_of new) ×
      Calm image world began new
  led = lead.2 world began formed sound (subst (Calm image world began) same drained.1)

  both : Moves image (content_of (record mid { starved = false })) (drains.0 ++ lead.0) led.0.mid
  both = G.moves_on _ _ _ _ _ _ (subst (λ (x : Parts P). Moves image (content_of (record mid {
    starved = false;
  })) drains.0 (content_of x)) same drained.0) led.0.moves

  pub told : t2 ≡ drains.0 ++ lead.0
  told = grind arith

  pub calm_new : Calm image world began new
  calm_new = led.1

  pub right_new : RightTokens image world (drains.0 ++ lead.0)
  right_new = (K.moves_keep _ _ formed sound _ _ _ _ both parting).1

  took : (f p : Option ℕ) (s : Bool) → new.fault ≡ f → new.failed ≡ p → new.starved ≡ s →
      PartTookSo image (content_of old) k (drains.0 ++ lead.0) f p s (content_of new)
  took f p s a b c = grind (arith, fills, both)

  unfailed : d.failed ≡ None
  unfailed = beside.failed ∙ filled.failed ∙ working

  ports_same : d.outer.ports ≡ old.outer.ports
  ports_same = beside.ports ∙ ap (λ (o : _). o.ports) filled.outer

  pub said : (r : Result (Unit {0}) BufFault) → PartsSettledSo image d r new →
      PartSubmitSo image (content_of old) k (drains.0 ++ lead.0) r (content_of new)
  said (Ok u) s = (
    took None None false s.0 (s.1 ∙ unfailed) s.2,
    R.no_rule image new (s.3 world began formed sound led.1.0) led.1.1,
  )
  said (Err (fault.Index array)) s = took (Some array) None false s.0 (s.1 ∙ unfailed) s.2
  said (Err (fault.Port port)) s = (
    took None (Some port) false s.0 s.1 s.2,
    subst (λ (h : _). RoseAt port h new.outer.ports) ports_same s.3,
    s.4,
  )
  said (Err fault.NoMemory) s = inr (took None None true s.0 (s.1 ∙ unfailed) s.2, s.3)
  said r s = absurd s
