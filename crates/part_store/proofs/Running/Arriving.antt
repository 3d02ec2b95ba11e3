-- A request or an address comes, and what is true of a buffer stays true.
use Rattle.std.proofs.Common.{ℕ, ◌≡◌, ◌≤◌, Bool, false, List, length, Option, Some, None, sym, ap, ◌∙◌}
use Rattle.std.proofs.Common.{subst, arith}
use Rattle.std.proofs.lemmas.Bool.{both_ways}
use Rattle.ws_words.specs.Outside.{World, row}
use Rattle.ws_isa.specs.Image.{Image}
use Rattle.df_core.specs.Core.{has}
use Rattle.df_core.proofs.Keeping.Ports.{with_key_cases}
use Rattle.df_core.specs.Began.{Began}
use Rattle.store_buf.specs.declared.kept.Kept.{Kept}
use Rattle.store_buf.specs.Requests.{entry_of, issued_in}
use Rattle.store_buf.specs.Outdoors.{Holding, HoldsOut}
use Rattle.store_buf.specs.Contents.{FaultIs}
use Rattle.store_buf.proofs.Coming.{entry_push, issued_push}
use Rattle.part_store.specs.declared.entry.Queued.{Queued}
use Rattle.part_store.specs.Queues.{front, holds, is_queued, open_queues}
use Rattle.part_store.specs.Contents.{is_bare, cell, PartContent}
use Rattle.part_store.specs.Parted.{IsKept, Parting, Fronts, RisingEntries}
use Rattle.part_store.proofs.Queueing.Keys.{key_cases}
use Rattle.part_store.proofs.Queueing.Fronts as F
use Rattle.part_store.proofs.Queueing.Ops as O
use Rattle.ws_words.specs.Items.{In}
use Rattle.part_store.specs.Rules.{ComesIn}

module _ (image : Image) (world : World) (began : List (Option Began)) (c d : PartContent) (k : Kept)
    (b : Bool)
    (come : ComesIn c k b d) (s : Parting image world began c) (going : c.fault ≡ None)
    (right : IsKept image world b k) where
  abbrev k' : Kept
  k' = record { wave = k.wave; instr = k.instr; first = k.first; second = k.second; answer = None }

  issued : (w i : ℕ) → issued_in d.kept w i ≡ issued_in c.kept w i
  issued w i = grind (arith, issued_push)

  right_so : (x : Bool) → x ≡ b → IsKept image world x k'
  right_so x e = grind arith

  new_right : (w i : ℕ) (x : Kept) → entry_of d.kept w i ≡ Some x → IsKept image world (is_bare d w i) x
  new_right w i x h = grind (arith, key_cases, with_key_cases, entry_push, right_so)

  bare_old : (w i a : ℕ) → s.counts w i ≡ Some a → is_bare d w i ≡ is_bare c w i
  bare_old w i a e = grind arith

  queued_same : (w i : ℕ) → is_queued d.queued w i ≡ is_queued c.queued w i
  queued_same w i = ap (λ (es : List Queued). is_queued es w i) come.queued

  front_back : (e : Queued) (r j : ℕ) → front d.queued r j ≡ Some e → front c.queued r j ≡ Some e
  front_back e r j h = subst (λ (es : List Queued). front es r j ≡ Some e) come.queued h

  pub arrives : Parting image world began d
  arrives = record {
    counts = s.counts;
    memory = s.memory;
    legal = grind (arith, both_ways);
    partly = record {
      right = new_right;
      same = λ w i. s.partly.same w i ∙ sym (ap has (issued w i));
      told = λ w i a n e. s.partly.told w i a (sym (queued_same w i) ∙ n) (sym (issued w i) ∙ e);
      opened = λ w i a n e. queued_same w i ∙ s.partly.opened w i a n (sym (bare_old w i a n) ∙ e);
      sits = λ e h. s.partly.sits e (subst (λ (es : List Queued). In e es) come.queued h);
      numbered = λ e h. s.partly.numbered e (subst (λ (es : List Queued). In e es) come.queued h);
      rising = subst (RisingEntries image world) (sym come.queued) s.partly.rising;
      every = λ e r j t h on w i a u n there l. queued_same w i
          ∙ s.partly.every e r j t (front_back e r j h) on w i a u n there l;
      few = subst (λ (es : List Queued). open_queues es ≤ 16) (sym come.queued) s.partly.few;
      free = λ r j n. ap (λ (h : Holding). cell h.cells r j) come.outside
          ∙ s.partly.free r j (subst (λ (es : List Queued). holds es r j ≡ false) come.queued n);
      before = λ e r j t h on. ap (λ (x : Holding). cell x.cells r j) come.outside
          ∙ s.partly.before e r j t (front_back e r j h) on;
      rows = ap (λ (x : Holding). length x.cells) come.outside ∙ s.partly.rows;
      shape = λ r. ap (λ (x : Holding). length (row x.cells r)) come.outside ∙ s.partly.shape r;
      outside = subst (λ (x : Holding). HoldsOut began (O.with_cells s.memory x.cells) x)
          (sym come.outside) s.partly.outside;
    };
    fault = subst (FaultIs image world) (sym (come.fault ∙ going)) tt;
    quiet = λ z. absurd (both_ways (has d.fault) (ap has (come.fault ∙ going)) z);
  }

  -- an entry counts, so its instance isn't the one that came
  pub fronts_stay : Fronts c → Fronts d
  fronts_stay f e r j h =
      let i = F.front_in c.queued r j e (front_back e r j h) in
      let q = (s.partly.sits e i.0).1 in
      bare_old e.wave e.instr q.0 q.1 ∙ f e r j (front_back e r j h)
