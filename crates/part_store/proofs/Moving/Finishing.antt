-- The first entry of a queue is done: the moves, and what is true afterwards.
use Rattle.std.proofs.Common.{ℕ, ◌≡◌, ◌<◌, true, cond, List, length, Option, Some, None, slice_set, sym, ap}
use Rattle.std.proofs.Common.{◌∙◌, subst, arith}
use Rattle.std.proofs.lemmas.List.{append-nil}
use Rattle.ws_words.specs.Outside.{World, row, with_row}
use Rattle.ws_isa.specs.Image.{Image, instr_at, is_memory, sends, tokens_to}
use Rattle.ws_isa.specs.Formed.{Formed}
use Rattle.ws_isa.specs.Sound.{Sound}
use Rattle.df_core.specs.Core.{has, with_key}
use Rattle.df_core.proofs.Keeping.Ports.{with_key_cases}
use Rattle.df_core.specs.declared.chain.Chain as code
use Rattle.df_core.specs.Chains.{chain_of}
use Rattle.df_core.specs.Places.{destinations}
use Rattle.df_core.specs.Stands.{HasEarly, EarlyIssued}
use Rattle.df_core.specs.Began.{Began}
use Rattle.store_buf.specs.Earlies.{early_ops}
use Rattle.store_buf.specs.declared.kept.Kept.{Kept}
use Rattle.store_buf.specs.Requests.{entry_of, issued_in, answer_if}
use Rattle.store_buf.specs.Ordering.{kept_at}
use Rattle.part_store.specs.declared.entry.Queued.{Queued}
use Rattle.part_store.specs.declared.parts.Parts.{Parts}
use Rattle.part_store.specs.Queues.{without}
use Rattle.part_store.specs.Contents.{cell, PartContent}
use Rattle.part_store.specs.Parted.{Parting, is_store_op}
use Rattle.part_store.specs.Rules.{FrontGoes, Followed, Moves, stays, follows, operands_at, word_of}
use Rattle.part_store.specs.Parts.{Beside, content_of, issued_flag, PartsStand}
use Rattle.part_store.proofs.Moving.Answering as A
use Rattle.part_store.proofs.Queueing.Fronts as F
use Rattle.part_store.proofs.Moving.Keeping as K
use Rattle.part_store.proofs.Queueing.Ops as O
use Rattle.part_store.proofs.Moving.Sending as N
use Rattle.part_store.proofs.Queueing.Times as T
use Rattle.part_store.proofs.Moving.Turning as U
use Rattle.ws_words.specs.Items.{In}

-- what waits in a queue counts as issued
pub record Counts (c : PartContent) (e : Queued) : Type 0 where
  pub request : Kept
  pub is_kept : entry_of c.kept e.wave e.instr ≡ Some request
  pub answer : ℕ
  pub answered : request.answer ≡ Some answer

entry_with : (o : Option Kept) (a : ℕ) → answer_if o ≡ Some a →
    (x : Kept) × (o ≡ Some x) × (x.answer ≡ Some a)
entry_with o a e = grind arith

pub counts : (image : Image) (world : World) (began : List (Option Began)) (c : PartContent) →
    Parting image world began c → (e : Queued) → In e c.queued → Counts c e
counts image world began c s e h =
    let q = (s.partly.sits e h).1 in
    let r = O.some_more _ _ _ (sym (s.partly.same e.wave e.instr)) q.1 in
    let x = entry_with _ _ r.1 in
    record { request = x.0; is_kept = x.1; answer = r.0; answered = x.2 }

module _ {P : Type 0} (image : Image) (world : World) (formed : Formed image) (sound : Sound image)
    (began : List (Option Began)) (s n : Parts P) (e : Queued) (p : ℕ)
    (st : PartsStand image world began s) (going : s.fault ≡ None) (fol : FrontGoes (content_of s) e)
    (l : p < length s.order.kept.items) (flag : issued_flag s.order p e.wave e.instr ≡ true) (word : ℕ)
    (kept : n.order.kept.items ≡ slice_set s.order.kept.items p
    (record {
      wave = (kept_at s.order p).wave;
      instr = (kept_at s.order p).instr;
      first = (kept_at s.order p).first;
      second = (kept_at s.order p).second;
      answer = Some word;
    }))
    (word_is : word ≡ cond (is_store_op (instr_at image e.instr).op) 0 (cell s.outer.cells e.row e.index))
    (cells : n.outer.cells ≡ cond (is_store_op (instr_at image e.instr).op)
    (with_row s.outer.cells e.row (slice_set (row s.outer.cells e.row) e.index
    (kept_at s.order p).second)) s.outer.cells)
    (input : n.outer.input ≡ s.outer.input) (read : n.outer.read ≡ s.outer.read)
    (printed : n.outer.printed ≡ s.outer.printed) (ports : n.outer.ports ≡ s.outer.ports)
    (queued : n.queues.entries.items ≡ without s.queues.entries.items e.wave e.instr)
    (same : Beside s n) where
  at : A.Flagged s.order p e.wave e.instr
  at = A.flagged s.order p e.wave e.instr flag

  found : entry_of s.order.kept.items e.wave e.instr ≡ Some (kept_at s.order p)
  found = rw (← at.instr) (rw (← at.wave) (U.found image s.order p l))

  word_so : word ≡ word_of image (content_of s) e
  word_so = word_is

  entries : (w i : ℕ) → entry_of n.order.kept.items w i ≡ with_key e.wave e.instr
      (Some (record {
        wave = e.wave;
        instr = e.instr;
        first = (kept_at s.order p).first;
        second = (kept_at s.order p).second;
        answer = Some (word_of image (content_of s) e);
      }))
      (entry_of s.order.kept.items) w i
  entries = subst (λ (x : ℕ × ℕ × ℕ). (w i : ℕ) →
      entry_of n.order.kept.items w i ≡ with_key x.0 x.1
      (Some (record {
        wave = x.0;
        instr = x.1;
        first = (kept_at s.order p).first;
        second = (kept_at s.order p).second;
        answer = Some x.2;
      })) (entry_of s.order.kept.items) w i)
      (λ j. (at.wave j, at.instr j, word_so j)) (U.answered image s.order p l word n.order.kept.items kept)

  followed : Followed image (content_of s) e
      (sends image e.wave e.instr (operands_at image (kept_at s.order p)) (word_of image (content_of s) e))
      (content_of n)
  followed = grind (arith, found, entries)

  moves : Moves image (content_of s) (sends image e.wave e.instr (operands_at image (kept_at s.order p))
      (word_of image (content_of s) e)) (content_of n)
  moves = rw (← append-nil (sends image e.wave e.instr (operands_at image (kept_at s.order p))
      (word_of image (content_of s) e))) (follows e fol going followed stays)

  has_same : (w i : ℕ) → has (issued_in n.order.kept.items w i) ≡ has (issued_in s.order.kept.items w i)
  has_same w i = grind (arith, with_key_cases, entries, found)

  memory : is_memory image (kept_at s.order p).instr ≡ true
  memory = let i = (F.front_in s.queues.entries.items e.row e.index e fol.first).0 in
      ap (is_memory image) at.instr ∙ T.row_memory image e.instr e.row (st.parting.partly.sits e i).0.1.row

  -- the code's tokens
  pub told_are : tokens_to e.wave word (destinations image e.instr 0) ≡ sends image e.wave e.instr
      (operands_at image (kept_at s.order p)) (word_of image (content_of s) e)
  told_are = subst (λ (x : ℕ × ℕ × ℕ). tokens_to x.0 word (destinations image x.1 0) ≡ sends image x.0 x.1
      (operands_at image (kept_at s.order p)) x.2) (λ j. (at.wave j, at.instr j, word_so j))
      (N.sent image (kept_at s.order p) word memory)

  pub finishes : Moves image (content_of s)
      (sends image e.wave e.instr (operands_at image (kept_at s.order p)) (word_of image (content_of s) e))
      (content_of n) × PartsStand image world began n
  finishes = (
    moves,
    record {
      parting = (K.moves_keep _ _ formed sound _ _ _ _ moves st.parting).0;
      early_issued = λ j h. let r = subst (λ (x : code.Chain × List ℕ). EarlyIssued (issued_in
          s.order.kept.items) (chain_of x.0) x.1) (λ i. (sym same.chain i, sym (ap early_ops same.early) i))
          st.early_issued j h in
          O.some_more _ _ _ (has_same _ _) r.1;
      early_all = λ cut w i a t x is y at2 me m. let r = O.some_more _ _ _ (sym (has_same _ _)) is in
          subst (λ (z : code.Chain × List ℕ). HasEarly image world (issued_in s.order.kept.items) (chain_of
          z.0) z.1) (λ j. (sym same.chain j, sym (ap early_ops same.early) j)) st.early_all cut w i r.0 t x
          r.1 y at2 me m;
    },
  )
