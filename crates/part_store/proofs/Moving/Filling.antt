-- The data of a store comes, and what is true of a buffer stays true.
use Rattle.std.proofs.Common.{ℕ, ◌≡◌, ◌≤◌, ◌⊎◌, Bool, false, List, length, Option, Some, None, sym, ap}
use Rattle.std.proofs.Common.{◌∙◌, subst, inl, inr, arith}
use Rattle.std.proofs.lemmas.Bool.{both_ways}
use Rattle.ws_words.specs.Outside.{World, row}
use Rattle.ws_isa.specs.Image.{Image}
use Rattle.df_core.specs.Core.{has}
use Rattle.df_core.proofs.Keeping.Ports.{SameKey, with_key_cases}
use Rattle.df_core.specs.Began.{Began}
use Rattle.df_core.specs.Rights.{IsAsked}
use Rattle.store_buf.specs.declared.kept.Kept.{Kept}
use Rattle.store_buf.specs.Requests.{entry_of, issued_in}
use Rattle.store_buf.specs.Outdoors.{Holding, HoldsOut}
use Rattle.store_buf.specs.Contents.{FaultIs}
use Rattle.store_buf.specs.Stores.{asked_of}
use Rattle.part_store.specs.declared.entry.Queued.{Queued}
use Rattle.part_store.specs.Queues.{front, holds, is_queued, open_queues}
use Rattle.part_store.specs.Contents.{is_bare, cell, PartContent}
use Rattle.part_store.specs.Parted.{IsKept, Parting, RisingEntries}
use Rattle.part_store.specs.Rules.{Fills}
use Rattle.part_store.proofs.Queueing.Keys.{key_cases}
use Rattle.part_store.proofs.Queueing.Ops as O
use Rattle.ws_words.specs.Items.{In}

module _ (image : Image) (world : World) (began : List (Option Began)) (c d : PartContent) (k : Kept)
    (f : Fills c k d) (s : Parting image world began c) (going : c.fault ≡ None)
    (right : IsAsked image world (asked_of k)) where
  abbrev k' : Kept
  k' = record { wave = k.wave; instr = k.instr; first = k.first; second = k.second; answer = f.old.answer }

  cases : (w i : ℕ) → (SameKey k.wave k.instr w i × (entry_of d.kept w i ≡ Some k')) ⊎
      ((SameKey k.wave k.instr w i → ⊥) × (entry_of d.kept w i ≡ entry_of c.kept w i))
  cases w i = grind (arith, with_key_cases)

  was_at : (w i : ℕ) → SameKey k.wave k.instr w i → entry_of c.kept w i ≡ Some f.old
  was_at w i key = grind arith

  pub issued : (w i : ℕ) → issued_in d.kept w i ≡ issued_in c.kept w i
  issued w i = grind (arith, cases, was_at)

  bare_here : (w i : ℕ) → SameKey k.wave k.instr w i → is_bare d w i ≡ false
  bare_here w i key = grind arith

  pub bare_there : (w i : ℕ) → (SameKey k.wave k.instr w i → ⊥) → is_bare d w i ≡ is_bare c w i
  bare_there w i n = grind (arith, key_cases)

  whole : (v : Bool) → v ≡ false → IsKept image world v k'
  whole v e = subst (λ (y : Bool). IsKept image world y k') (sym e) right

  queued_same : (w i : ℕ) → is_queued d.queued w i ≡ is_queued c.queued w i
  queued_same w i = ap (λ (es : List Queued). is_queued es w i) f.queued

  front_back : (e : Queued) (r j : ℕ) → front d.queued r j ≡ Some e → front c.queued r j ≡ Some e
  front_back e r j h = subst (λ (es : List Queued). front es r j ≡ Some e) f.queued h

  pub fills : Parting image world began d
  fills = record {
    counts = s.counts;
    memory = s.memory;
    legal = grind (arith, both_ways);
    partly = record {
      right = grind (arith, cases, whole, bare_here, bare_there);
      same = λ w i. s.partly.same w i ∙ sym (ap has (issued w i));
      told = λ w i a n e. s.partly.told w i a (sym (queued_same w i) ∙ n) (sym (issued w i) ∙ e);
      opened = λ w i a n e. elim (cases w i) [
        | inl y ↦ absurd (both_ways (is_bare d w i) (bare_here w i y.0) e)
        | inr y ↦ queued_same w i ∙ s.partly.opened w i a n (sym (bare_there w i y.0) ∙ e)
      ];
      sits = λ e h. s.partly.sits e (subst (λ (es : List Queued). In e es) f.queued h);
      numbered = λ e h. s.partly.numbered e (subst (λ (es : List Queued). In e es) f.queued h);
      rising = subst (RisingEntries image world) (sym f.queued) s.partly.rising;
      every = λ e r j t h on w i a u n there l. queued_same w i
          ∙ s.partly.every e r j t (front_back e r j h) on w i a u n there l;
      few = subst (λ (es : List Queued). open_queues es ≤ 16) (sym f.queued) s.partly.few;
      free = λ r j n. ap (λ (h : Holding). cell h.cells r j) f.outside
          ∙ s.partly.free r j (subst (λ (es : List Queued). holds es r j ≡ false) f.queued n);
      before = λ e r j t h on. ap (λ (x : Holding). cell x.cells r j) f.outside
          ∙ s.partly.before e r j t (front_back e r j h) on;
      rows = ap (λ (x : Holding). length x.cells) f.outside ∙ s.partly.rows;
      shape = λ r. ap (λ (x : Holding). length (row x.cells r)) f.outside ∙ s.partly.shape r;
      outside = subst (λ (x : Holding). HoldsOut began (O.with_cells s.memory x.cells) x)
          (sym f.outside) s.partly.outside;
    };
    fault = subst (FaultIs image world) (sym (f.fault ∙ going)) tt;
    quiet = λ z. absurd (both_ways (has d.fault) (ap has (f.fault ∙ going)) z);
  }
