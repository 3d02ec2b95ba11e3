-- A request or address at hand goes: the moves, and what is true afterwards.
use Rattle.std.proofs.Common.{ℕ, ◌-◌, ◌≡◌, ◌≤◌, ◌⊎◌, Bool, true, false, not, cond, ◌&&◌, ◌||◌, ltb, nat_eq}
use Rattle.std.proofs.Common.{List, [], ◌∷◌, ◌++◌, length, Option, Some, None, slice_index, slice_set, refl}
use Rattle.std.proofs.Common.{sym, ap, ◌∙◌, subst, inl, inr, ltb-true, arith}
use Rattle.std.proofs.lemmas.Bool.{and_parts, both_ways}
use Rattle.std.proofs.lemmas.List.{append-nil}
use Rattle.ws_words.specs.Outside.{Outside, World, row}
use Rattle.ws_isa.specs.Image.{Image, Token, instr_at, array_at, is_load, is_memory, is_past, note_of}
use Rattle.ws_isa.specs.Image.{sends}
use Rattle.ws_isa.specs.Formed.{Formed}
use Rattle.ws_isa.specs.Sound.{Sound}
use Rattle.df_core.specs.Core.{IsNext, Issuable, position_after, has, issued_with, with_key}
use Rattle.df_core.specs.Fit.{Legal, RightRequest}
use Rattle.df_core.specs.Chains.{chain_of, PassedOn}
use Rattle.df_core.specs.Began.{Began}
use Rattle.store_buf.specs.Earlies.{early_ops}
use Rattle.store_buf.specs.declared.kept.Kept.{Kept}
use Rattle.store_buf.specs.Requests.{entry_of, issued_in, answer_if}
use Rattle.store_buf.specs.Ordering.{kept_at}
use Rattle.store_buf.specs.Outdoors.{HoldsOut, Performed}
use Rattle.store_buf.specs.Outers.{holding}
use Rattle.part_store.specs.declared.entry.Queued.{Queued}
use Rattle.part_store.specs.declared.parts.Parts.{Parts}
use Rattle.part_store.specs.Bares.{is_in}
use Rattle.part_store.specs.Queues.{joined, open_queues}
use Rattle.part_store.specs.Contents.{asking, holds_op}
use Rattle.part_store.specs.Parted.{Parting, IsAddressed}
use Rattle.part_store.specs.Rules.{Alike, Waits, OpensQueue, GoesByChain, Faults, Counted, Moves, stays}
use Rattle.part_store.specs.Rules.{opens, joins, issues, stops, operands_at, entry_at, is_past_at}
use Rattle.part_store.specs.Parts.{PartsOk, Calm, GoesAt, content_of, PartsStand}
use Rattle.part_store.specs.Queues as Q
use Rattle.part_store.specs.Contents as C
use Rattle.part_store.proofs.Queueing.Ops as O
use Rattle.part_store.proofs.Queueing.Times as T
use Rattle.part_store.proofs.Queueing.Standing as S
use Rattle.part_store.proofs.Moving.Keeping as K
use Rattle.part_store.proofs.Moving.Turning as U
use Rattle.ws_words.proofs.Bools.{or_comes as either}

none_listed : (es : List Queued) → nat_eq (length es) 0 ≡ true → es ≡ []
none_listed [] e = refl
none_listed (x ∷ es) e = grind arith

-- what counts now, by the list of requests
same_after : (image : Image) (counts : ℕ → ℕ → Option ℕ) (memory : Outside) (ks ls : List Kept) (k : Kept)
    (word : ℕ) (xs : List ℕ) → ((w i : ℕ) → has (counts w i) ≡ has (issued_in ks w i)) →
    ((w i : ℕ) → entry_of ls w i ≡ with_key k.wave k.instr
    (Some (record {
      wave = k.wave;
      instr = k.instr;
      first = k.first;
      second = k.second;
      answer = Some word;
    })) (entry_of ks) w i) →
    (w i : ℕ) → has (issued_with image counts memory k.wave k.instr xs w i) ≡ has (issued_in ls w i)
same_after image counts memory ks ls k word xs same kept w i = grind arith

module _ {P : Type 0} (image : Image) (world : World) (formed : Formed image) (sound : Sound image)
    (began : List (Option Began)) (s : Parts P) (ok : PartsOk s) (calm : Calm image world began s)
    (going : s.fault ≡ None) (p : ℕ) (goes : GoesAt image s p) where
  abbrev k : Kept
  k = kept_at s.order p

  parting : Parting image world began (content_of s)
  parting = calm.0.parting

  legal : Legal image world parting.counts (asking image (content_of s)) false
      (chain_of s.order.chain) parting.memory
  legal = K.legal image world formed sound began (content_of s) parting going

  waits_now : ((kept_at s.order p).answer ≡ None) × ((kept_at s.order p).wave ≡ s.order.chain.wave)
  waits_now = U.waits image s.order p goes.may.within goes.may.ready

  waits : (b : Bool) → is_in s.bare k.wave k.instr ≡ b → Waits (content_of s) (kept_at s.order p) b
  waits b e = record {
    kept = U.found image s.order p goes.may.within;
    waits = waits_now.0;
    bare_is = e;
  }

  turn : IsNext (chain_of s.order.chain) (note_of image k.instr) ⊎
      ((is_load image k.instr ≡ true) × (is_past_at image k ≡ false) ×
      ((note_of image k.instr).ripple ≤ position_after s.order.chain.last))
  turn = U.turn image s.order p goes.may.within goes.may.ready

  -- the operands of the walk, with which it may be issued
  record Ask : Type 0 where
    xs : List ℕ
    req : RightRequest image world k.wave k.instr xs
    may : Issuable image parting.counts (chain_of s.order.chain) false k.wave k.instr xs
    first : slice_index xs 0 ≡ k.first

  fresh : issued_in s.order.kept.items k.wave k.instr ≡ None
  fresh = ap answer_if (U.found image s.order p goes.may.within) ∙ waits_now.0

  may_whole : Issuable image (issued_in s.order.kept.items) (chain_of s.order.chain) false k.wave k.instr
      (operands_at image k)
  may_whole = record {
    going = refl;
    current = waits_now.1;
    fresh = fresh;
    turn = elim turn [
      | inl n ↦ inl n
      | inr h ↦ inr
          (h.0, O.past_is image k (operands_at image k) (O.first_of image k) ∙ h.1, h.2)
    ];
  }

  -- an address is that of a store, which is next
  address : is_in s.bare k.wave k.instr ≡ true → IsAddressed image world k.wave k.instr k.first
  address b = S.bare_kept image world (is_in s.bare k.wave k.instr) k b
      (parting.partly.right k.wave k.instr k (U.found image s.order p goes.may.within))

  next_bare : is_in s.bare k.wave k.instr ≡ true → IsNext (chain_of s.order.chain) (note_of image k.instr)
  next_bare b = grind (arith, turn, both_ways, O.store_no_load, address)

  ask_bare : is_in s.bare k.wave k.instr ≡ true → Ask
  ask_bare b = let ad = address b in record {
    xs = ad.inst.operands;
    req = record {
      time = ad.time;
      inst = ad.inst;
      at = ad.at;
      operands = refl;
      memory = T.row_memory image k.instr (array_at image k.instr - 1) (O.store_row image k.instr ad.store);
    };
    may = K.may_next image world formed sound began (content_of s) parting going k true
        (waits true b) waits_now.1 (next_bare b) ad.inst.operands;
    first = ad.address;
  }

  ask_whole : is_in s.bare k.wave k.instr ≡ false → Ask
  ask_whole b = record {
    xs = operands_at image k;
    req = K.right_of image world formed sound began (content_of s) parting k (waits false b);
    may = record {
      going = refl;
      current = waits_now.1;
      fresh = O.no_more _ _ (parting.partly.same k.wave k.instr) fresh;
      turn = may_whole.turn;
    };
    first = O.first_of image k;
  }

  pub is_memory_now : is_in s.bare k.wave k.instr ≡ false → is_memory image k.instr ≡ true
  is_memory_now b = (K.right_of _ _ formed sound _ _ parting _ (waits _ b)).memory

  module _ (n : Parts P) (word : ℕ) (within : is_past_at image k ≡ false) (a : Ask)
      (kept : n.order.kept.items ≡ slice_set s.order.kept.items p
      (record {
        wave = (kept_at s.order p).wave;
        instr = (kept_at s.order p).instr;
        first = (kept_at s.order p).first;
        second = (kept_at s.order p).second;
        answer = Some word;
      }))
      (passed : PassedOn image (chain_of s.order.chain) (kept_at s.order p).instr (early_ops s.order.early)
      (chain_of n.order.chain) (early_ops n.order.early))
      (bare : n.bare ≡ s.bare) (fault : n.fault ≡ s.fault) where
    entries : (w i : ℕ) → entry_of n.order.kept.items w i ≡ with_key k.wave k.instr
        (Some (record {
          wave = k.wave;
          instr = k.instr;
          first = k.first;
          second = k.second;
          answer = Some word;
        })) (entry_of s.order.kept.items) w i
    entries = U.answered image s.order p goes.may.within word n.order.kept.items kept

    new_same : (w i : ℕ) → has (issued_with image parting.counts parting.memory k.wave k.instr a.xs w i) ≡ has
        (issued_in n.order.kept.items w i)
    new_same = grind (arith, same_after, entries)

    abbrev inside : is_past image k.instr a.xs ≡ false
    inside = O.past_is image k a.xs a.first ∙ within

    counted : (queued : List Queued) → n.queues.entries.items ≡ queued →
        Counted image (content_of s) k word queued (holding n.outer) (content_of n)
    counted queued q = record {
      kept = entries;
      passed = U.passes_on image world formed sound s.order n.order parting.counts parting.memory
          (asking image (content_of s)) (asking image (content_of n)) legal parting.partly.same
          calm.0.early_issued calm.0.early_all k.wave k.instr a.xs a.req a.may inside new_same passed;
      bare = λ w i. ap (λ (b : _). is_in b w i) bare;
      queued_are = q;
      outside_is = refl;
      fault = fault;
    }

    stands : (tokens : List Token) → Moves image (content_of s) tokens (content_of n) →
        PartsStand image world began n
    stands tokens moves = record {
      parting = (K.moves_keep _ _ formed sound _ _ _ _ moves parting).0;
      early_issued = U.early_now image world formed sound s.order n.order parting.counts parting.memory
          (asking image (content_of s)) (asking image (content_of n)) legal parting.partly.same
          calm.0.early_issued calm.0.early_all k.wave k.instr a.xs a.req a.may inside new_same passed;
      early_all = U.all_now image world formed sound s.order n.order parting.counts parting.memory
          (asking image (content_of s)) (asking image (content_of n)) legal parting.partly.same
          calm.0.early_issued calm.0.early_all k.wave k.instr a.xs a.req a.may inside new_same passed;
    }

  module _ (n : Parts P) (within : is_past_at image k ≡ false)
      (kept : n.order.kept.items ≡ slice_set s.order.kept.items p
      (record {
        wave = (kept_at s.order p).wave;
        instr = (kept_at s.order p).instr;
        first = (kept_at s.order p).first;
        second = (kept_at s.order p).second;
        answer = Some 0;
      }))
      (passed : PassedOn image (chain_of s.order.chain) (kept_at s.order p).instr (early_ops s.order.early)
      (chain_of n.order.chain) (early_ops n.order.early))
      (bare : n.bare ≡ s.bare) (fault : n.fault ≡ s.fault) (outer : n.outer ≡ s.outer)
      (queued : n.queues.entries.items ≡ joined (entry_at image k) s.queues.entries.items) where
    outside_moved : (word : ℕ) (q : List Queued) →
        Counted image (content_of s) k word q (holding n.outer) (content_of n) →
        Counted image (content_of s) k word q (holding s.outer) (content_of n)
    outside_moved word q g = grind arith

    opens_so : is_in s.bare k.wave k.instr ≡ true → OpensQueue image (content_of s) k
    opens_so b =
        let r = and_parts (not (is_past_at image k)) (ltb (open_queues s.queues.entries.items) 16 || holds_op
        s.queues.entries.items (instr_at image k.instr).op k.first) (subst (λ (x : Bool). cond x (not
        (is_past_at image k) && (ltb (open_queues s.queues.entries.items) 16 || holds_op
        s.queues.entries.items (instr_at image k.instr).op k.first)) (nat_eq (length s.queues.entries.items) 0
        || not (is_past_at image k)) ≡ true) b goes.rule) in
        record {
          waits = waits _ b;
          current = waits_now.1;
          next = next_bare b;
          within = within;
          going = going;
          room = elim (either _ _ r.1) [
            | inl h ↦ inr (ltb-true (open_queues s.queues.entries.items) 16 h)
            | inr h ↦ inl h
          ];
        }

    goes_so : is_in s.bare k.wave k.instr ≡ false → GoesByChain image (content_of s) k
    goes_so b = record { waits = waits false b; may = may_whole; within = within; going = going }

    pub waits_on : (is_in s.bare k.wave k.instr ≡ true) ⊎
        ((is_in s.bare k.wave k.instr ≡ false) ×
        (holds_op s.queues.entries.items (instr_at image k.instr).op k.first ≡ true)) →
        Moves image (content_of s) [] (content_of n) × Calm image world began n
    waits_on (inl b) =
        let g = outside_moved 0 (joined (entry_at image k) s.queues.entries.items) (counted n 0 within
        (ask_bare b) kept passed bare fault (joined (entry_at image k) s.queues.entries.items) queued) in
        let m : Moves image (content_of s) [] (content_of n) = opens k calm.1 (opens_so b) g stays in (
          m,
          (
            stands n 0 within (ask_bare b) kept passed bare fault [] m,
            K.opened_fronts _ _ formed sound _ _ _ parting _ calm.1 (opens_so b) g,
          ),
        )
    waits_on (inr h) =
        let g = outside_moved 0 (joined (entry_at image k) s.queues.entries.items) (counted n 0 within
        (ask_whole h.0) kept passed bare fault (joined (entry_at image k) s.queues.entries.items) queued) in
        let m : Moves image (content_of s) [] (content_of n) = joins k calm.1 (goes_so h.0) h.1 g stays in (
          m,
          (
            stands n 0 within (ask_whole h.0) kept passed bare fault [] m,
            K.joined_fronts _ _ formed sound _ _ _ parting _ calm.1 (goes_so h.0) h.1 g,
          ),
        )

  module _ (n : Parts P) (word : ℕ) (within : is_past_at image k ≡ false)
      (kept : n.order.kept.items ≡ slice_set s.order.kept.items p
      (record {
        wave = (kept_at s.order p).wave;
        instr = (kept_at s.order p).instr;
        first = (kept_at s.order p).first;
        second = (kept_at s.order p).second;
        answer = Some word;
      }))
      (passed : PassedOn image (chain_of s.order.chain) (kept_at s.order p).instr (early_ops s.order.early)
      (chain_of n.order.chain) (early_ops n.order.early))
      (bare : n.bare ≡ s.bare) (fault : n.fault ≡ s.fault)
      (queued : n.queues.entries.items ≡ s.queues.entries.items)
      (whole : is_in s.bare k.wave k.instr ≡ false)
      (held : holds_op s.queues.entries.items (instr_at image k.instr).op k.first ≡ false)
      (answers : (b : List (Option Began)) (o : Outside) → HoldsOut b o (holding s.outer) →
      Performed b (instr_at image k.instr).op (k.first ∷ k.second ∷ 0 ∷ []) o word (holding n.outer))
    where
      pub issues_now : Moves image (content_of s) (sends image k.wave k.instr (operands_at image k) word)
          (content_of n) × Calm image world began n
      issues_now =
          let g = counted n word within (ask_whole whole) kept passed bare fault s.queues.entries.items queued
          in
          let gs : GoesByChain image (content_of s) k =
          record { waits = waits false whole; may = may_whole; within = within; going = going } in
          let m0 : Moves image (content_of s) (sends image k.wave k.instr (operands_at image k) word ++ [])
          (content_of n) = issues k word (holding n.outer) calm.1 gs held answers g stays in
          let m : Moves image (content_of s) (sends image k.wave k.instr (operands_at image k) word)
          (content_of n) = subst (λ (ts : List Token). Moves image (content_of s) ts (content_of n))
          (append-nil (sends image k.wave k.instr (operands_at image k) word)) m0 in (
            m,
            (
              stands n word within (ask_whole whole) kept passed bare fault
                  (sends image k.wave k.instr (operands_at image k) word) m,
              λ e r j h.
                  ap (λ (b : _). is_in b e.wave e.instr) bare
                  ∙ calm.1 e r j (subst (λ (es : List Queued). Q.front es r j ≡ Some e) queued h),
            ),
          )

  -- past the end the chain stops
  pub stops_now : is_past_at image k ≡ true →
      Moves image (content_of s) [] (record (content_of s) { fault = Some (array_at image k.instr) }) ×
      Calm image world began (record s { fault = Some (array_at image k.instr) })
  stops_now past =
      let w = whole_now (is_in s.bare k.wave k.instr) refl in
      let f : Faults image (content_of s) k = record {
        waits = waits false w.0;
        current = waits_now.1;
        next = elim turn [ inl n ↦ n | inr h ↦ absurd (both_ways (is_past_at image k) h.1 past) ];
        past = past;
        going = going;
        none = w.1;
      } in
      let m : Moves image (content_of s) []
      (record (content_of s) { fault = Some (array_at image k.instr) }) = stops k f in (
        m,
        (
          record {
            parting = (K.moves_keep _ _ formed sound _ _ _ [] m parting).0;
            early_issued = calm.0.early_issued;
            early_all = calm.0.early_all;
          },
          calm.1,
        ),
      )
    where
      whole_now : (b : Bool) → is_in s.bare k.wave k.instr ≡ b →
          (is_in s.bare k.wave k.instr ≡ false) × (s.queues.entries.items ≡ [])
      whole_now true e = grind arith
      whole_now false e = grind (arith, none_listed, either, both_ways)

-- where only what ports tell of their faults has changed a buffer stays calm
module _ {P : Type 0} (image : Image) (world : World) (began : List (Option Began)) (s n : Parts P)
    (calm : Calm image world began s)
    (order : n.order ≡ s.order) (bare : n.bare ≡ s.bare) (queues : n.queues ≡ s.queues)
    (fault : n.fault ≡ s.fault)
    (kept : (b : List (Option Began)) (o : Outside) → HoldsOut b o (holding s.outer) →
    HoldsOut b o (holding n.outer)) where
  cells_same : (holding n.outer).cells ≡ (holding s.outer).cells
  cells_same = sym (kept began (O.with_cells calm.0.parting.memory s.outer.cells)
      calm.0.parting.partly.outside).cells_are

  calm_moved : Calm image world began (record {
    order = s.order;
    bare = s.bare;
    queues = s.queues;
    outer = n.outer;
    fault = s.fault;
    failed = n.failed;
    starved = n.starved;
  })
  calm_moved =
      let q = calm.0.parting in
      let p = q.partly in (
        record {
          parting = record {
            counts = q.counts;
            memory = q.memory;
            legal = q.legal;
            partly = record {
              right = p.right;
              same = p.same;
              told = p.told;
              opened = p.opened;
              sits = p.sits;
              numbered = p.numbered;
              rising = p.rising;
              every = p.every;
              few = p.few;
              free = λ r j e. ap (λ (cs : List (List ℕ)). C.cell cs r j) cells_same ∙ p.free r j e;
              before = λ e r j t f on. ap (λ (cs : List (List ℕ)). C.cell cs r j) cells_same ∙ p.before e r j
                  t f on;
              rows = ap (λ (cs : List (List ℕ)). length cs) cells_same ∙ p.rows;
              shape = λ r. ap (λ (cs : List (List ℕ)). length (row cs r)) cells_same ∙ p.shape r;
              outside = subst (λ (cs : List (List ℕ)). HoldsOut began (O.with_cells q.memory cs) (holding
                  n.outer)) (sym cells_same) (kept began (O.with_cells q.memory s.outer.cells) p.outside);
            };
            fault = q.fault;
            quiet = q.quiet;
          };
          early_issued = calm.0.early_issued;
          early_all = calm.0.early_all;
        },
        calm.1,
      )

  told_by : HoldsOut began (O.with_cells calm.0.parting.memory s.outer.cells) (holding n.outer)
  told_by = kept began (O.with_cells calm.0.parting.memory s.outer.cells) calm.0.parting.partly.outside

  pub still_calm : Calm image world began n × Alike (content_of s) (content_of n)
  still_calm = (
    subst (Calm image world began) (λ j. record {
      order = sym order j;
      bare = sym bare j;
      queues = sym queues j;
      outer = n.outer;
      fault = sym fault j;
      failed = n.failed;
      starved = n.starved;
    }) calm_moved,
    record {
      kept = ap (λ (o : _). o.kept.items) order;
      bare = ap (λ (b : _). b.set.keys) bare;
      queued = ap (λ (q : _). q.entries.items) queues;
      chain = ap (λ (o : _). chain_of o.chain) order;
      fault = fault;
      cells = cells_same;
      input = sym told_by.input_is ∙ calm.0.parting.partly.outside.input_is;
      printed = sym told_by.printed_are ∙ calm.0.parting.partly.outside.printed_are;
      ports = kept;
    },
  )
